-- What is kept of a batch, and that it agrees with the batch of the pass.
use Rattle.std.specs.Prelude.{◌≡◌, ℕ, ◌<◌, ◌≤◌, List, length, map, take, slice_index_or, All}
use Rattle.word_map.specs.declared.name.Name.TheVariants.{Slot}
use Rattle.word_map.specs.Names.{IsName}
use Rattle.core_state.specs.declared.view.Batch.{Batch}
use Rattle.core_state.specs.declared.view.View.{View}
use Rattle.pass_table.specs.Holding.{IsAtRest}
use Rattle.batch_add.specs.declared.kept_batch.KeptBatch.{KeptBatch}
use Rattle.batch_add.specs.Parts.{IsAmong}

-- the index of a body, and a node
abbrev pub index_at : KeptBatch → ℕ → ℕ
index_at kept number = slice_index_or kept.indexes.items number 0

abbrev pub node_of : KeptBatch → ℕ → ℕ
node_of kept number = slice_index_or kept.nodes.items number 0

-- it is kept of this batch: the slot, the marked bodies and the nodes are the batch's, in order
pub record IsKept (kept : KeptBatch) (batch : Batch) : Type 0 where
  pub layer : batch.layer ≡ kept.layer
  pub slot : batch.slot ≡ kept.slot
  pub room : kept.marked ≤ length kept.indexes.items
  pub indexes : map (λ m. m.index) batch.marked ≡ take kept.marked kept.indexes.items
  pub placed : All (λ m. m.is_placed ≡ kept.are_placed) batch.marked
  pub node_room : kept.node_count ≤ length kept.nodes.items
  pub nodes : batch.nodes ≡ take kept.node_count kept.nodes.items

-- a pass at rest has this batch among its batches
pub record IsBegunFor (kept : KeptBatch) (start : View) (before : List Batch) (batch : Batch) (after : List Batch) : Type 0 where
  pub among : IsAmong start before batch after
  pub keeps : IsKept kept batch
  pub slot : IsName start.config (Slot kept.layer kept.slot)
  pub below : All (λ m. m.index < start.config.bodies) batch.marked
  pub rest : IsAtRest start
