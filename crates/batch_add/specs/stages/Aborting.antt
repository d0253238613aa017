-- How a batch that is prepared is given up.
use Rattle.std.specs.Prelude.{◌≡◌, length, true}
use Rattle.core_state.specs.declared.view.View.{View}
use Rattle.pass_table.specs.Bodies.{IsCurrent}
use Rattle.batch_add.specs.declared.kept_batch.KeptBatch.{KeptBatch}
use Rattle.batch_add.specs.declared.aborting.AbortOp.{AbortOp}
use Rattle.batch_add.specs.declared.prepared.Prepared.{Prepared}
use Rattle.batch_add.specs.Prepared.{IsGood}
use Rattle.batch_add.specs.stages.GivingUp.{IsGivingUp}
use Rattle.batch_add.specs.Answers.{HasAborted}

-- what is kept of it: all its bodies are marked and placed
abbrev pub kept_of : Prepared → KeptBatch
kept_of prepared = record {
  layer = prepared.layer;
  slot = prepared.slot;
  indexes = prepared.indexes;
  marked = length prepared.indexes.items;
  are_placed = true;
  nodes = prepared.nodes;
  node_count = length prepared.nodes.items;
}

-- it is being given up, by a pass that knew the log of a core that stands when it began
pub record IsAborting (first : AbortOp) (start : View) (operation : AbortOp) (view : View) : Type 0 where
  pub gives : IsGivingUp first.giving start operation.giving view
  pub current : ∥ IsCurrent start ∥₁

-- at its end: of each batch that was good and of which it was begun
abbrev pub HasAbortedAny : AbortOp → View → View → Type 0
HasAbortedAny first start next = (prepared : Prepared) → IsGood prepared start → first.giving.kept ≡ kept_of prepared → HasAborted prepared start next
