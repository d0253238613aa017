-- A batch that is prepared, and what attaching it leaves.
use Rattle.std.specs.Prelude.{◌≡◌, ℕ, nat_eq, List, [], ◌∷◌, ◌++◌, length, map, All, Contains, Some, None}
use Rattle.std.specs.List.{IsDistinct}
use Rattle.fixed_box.specs.declared.fix_box.FixBox.{FixBox}
use Rattle.scene_model.specs.declared.body_view.Phase.TheVariants.{Held, In}
use Rattle.scene_model.specs.declared.entry.Entry.TheVariants.{Join}
use Rattle.scene_model.specs.Step.{HasBody}
use Rattle.scene_model.specs.Batch.{JoinsOnly}
use Rattle.scene_model.specs.Need.{need}
use Rattle.scene_model.specs.Tree.{tree}
use Rattle.word_map.specs.declared.config.Config.{Config}
use Rattle.word_map.specs.declared.name.Name.TheVariants.{Slot, Parent, Phase}
use Rattle.word_map.specs.Names.{IsName}
use Rattle.core_state.specs.declared.item.Item.{Item}
use Rattle.core_state.specs.declared.view.Batch.{Batch}
use Rattle.core_state.specs.declared.view.View.{View}
use Rattle.core_state.specs.View.{number_in, known_word}
use Rattle.core_state.specs.Encoding.{slot_tree}
use Rattle.core_state.specs.Bodies.{IsForSlot}
use Rattle.core_state.specs.Batches.{written_outside, IsWholeTree}
use Rattle.core_state.specs.Guards.{scene_at}
use Rattle.tree_plan.specs.Plan.{Plan}
use Rattle.pass_table.specs.Belongings.{Belongings, belongings_of}
use Rattle.pass_table.specs.Turning.{OneStep}
use Rattle.pass_table.specs.Calls.{Adds, MakesAt, StoresWord}
use Rattle.batch_add.specs.declared.prepared.Prepared.{Prepared}
use Rattle.pass_table.specs.Work.{Tells}
use Rattle.batch_add.specs.Parts.{stored_as}
use Rattle.batch_add.specs.Drawing.{node_at, IsDrawn, IsWritten}
use Rattle.batch_add.specs.Shape.{tree_at}

-- the batch that is prepared, among what a pass has: each body once, in the nodes that their tree needs the pass wrote this
-- tree, and no other batch of the pass is for its slot
pub record IsTheBatch (prepared : Prepared) (has : Belongings) (before : List Batch) (batch : Batch) (after : List Batch) (bodies : List (ℕ × FixBox)) : Type 0 where
  pub among : has.batches ≡ before ++ batch ∷ after
  pub for_slot : IsForSlot prepared.layer prepared.slot batch
  pub named : IsName has.config (Slot prepared.layer prepared.slot)
  pub nodes : batch.nodes ≡ prepared.nodes.items
  pub indexes : map (λ m. m.index) batch.marked ≡ prepared.indexes.items
  pub many : length prepared.nodes.items ≡ need (length prepared.indexes.items)
  pub once : IsDistinct nat_eq prepared.indexes.items
  pub plan : Plan
  pub bound : ℕ → ℕ → FixBox
  pub drawn : IsWritten has.written bodies plan bound batch
  pub alone_before : All (λ b. ¬ IsForSlot prepared.layer prepared.slot b) before
  pub alone_after : All (λ b. ¬ IsForSlot prepared.layer prepared.slot b) after
  pub nodes_named : All (λ n. IsName has.config (Parent n)) batch.nodes
  pub bodies_named : All (λ m. IsName has.config (Phase m.index)) batch.marked

-- the batch is prepared, and good for a pass that has this
pub record IsGoodIn (prepared : Prepared) (has : Belongings) : Type 0 where
  pub pass : number_in has.role ≡ Some prepared.number
  pub before : List Batch
  pub batch : Batch
  pub after : List Batch
  pub bodies : List (ℕ × FixBox)
  pub is : IsTheBatch prepared has before batch after bodies

-- it is good for the pass with this view: that rests on what the pass has, and on nothing that others store
abbrev pub IsGood : Prepared → View → Type 0
IsGood prepared view = IsGoodIn prepared (belongings_of view)

-- the two are for two slots
pub record IsApart (one other : Prepared) : Type 0 where
  pub slots : ¬ ((one.layer ≡ other.layer) × (one.slot ≡ other.slot))

-- all other batches that were good are good still
abbrev pub LeavesOthers : Prepared → View → View → Type 0
LeavesOthers prepared view next = (other : Prepared) → IsGood other view → IsApart other prepared → IsGood other next

-- all bodies at some indexes are in this phase
abbrev pub AllIn : Config → List ℕ → List Item → Type 0
AllIn c indexes log = All (λ i. HasBody (scene_at c log) i (λ r. r.phase ≡ In)) indexes

abbrev pub AllHeld : Config → ℕ → List ℕ → List Item → Type 0
AllHeld c layer indexes log = All (λ i. HasBody (scene_at c log) i (λ r. (r.phase ≡ Held) × (r.layer ≡ layer))) indexes

-- these bodies have these boxes
abbrev pub HaveBoxes : Config → List (ℕ × FixBox) → List Item → Type 0
HaveBoxes c bodies log = (body : ℕ × FixBox) → Contains bodies body → HasBody (scene_at c log) body.0 (λ r. r.bounds ≡ body.1)

-- The batch is attached, by one step, which is one store: just before it its bodies are held and have the boxes of its tree,
-- and with it they are in the broad phase and nothing else of the scene has changed. The word of its slot names the tree over
-- its bodies, of the stated shape, and the bound of each child is the hull of the boxes below it. All else that the pass has is
-- as it was
pub record HasAttached (prepared : Prepared) (view next : View) : Type 0 where
  pub before : List Batch
  pub batch : Batch
  pub after : List Batch
  pub bodies : List (ℕ × FixBox)
  pub is : IsTheBatch prepared (belongings_of view) before batch after bodies
  pub step : OneStep view next
  pub stores : StoresWord view next (Slot prepared.layer prepared.slot) (slot_tree (node_at prepared.nodes.items 0))
  pub adds : Adds view next (Join prepared.layer prepared.indexes.items ∷ [])
  pub tells : Tells view next (stored_as (Slot prepared.layer prepared.slot) (slot_tree (node_at prepared.nodes.items 0)) ∷ [])
  pub left : next ≡ record view { known = next.known; joined = None; batches = before ++ after; written = written_outside batch.nodes view.written }
  pub others : LeavesOthers prepared view next
  pub makes : MakesAt view next (Join prepared.layer prepared.indexes.items)
      (λ log. AllHeld view.config prepared.layer prepared.indexes.items log × HaveBoxes view.config bodies log
      × JoinsOnly (scene_at view.config log) (scene_at view.config next.known) prepared.indexes.items)
  pub now_in : AllIn view.config prepared.indexes.items next.known
  pub names : known_word next (Slot prepared.layer prepared.slot) ≡ slot_tree (node_at prepared.nodes.items 0)
  pub still : IsDrawn (known_word next) bodies is.plan is.bound batch
  pub whole : IsWholeTree (known_word next) batch (node_at prepared.nodes.items 0)
  pub stated : tree_at (known_word next) 10 (node_at prepared.nodes.items 0) ≡ tree bodies
