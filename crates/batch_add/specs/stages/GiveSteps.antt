-- The steps of giving a batch up: what holds before one and after it, for whatever batch it is done.
use Rattle.std.specs.Prelude.{◌≡◌, ℕ, List, [], ◌++◌, length, Option}
use Rattle.scene_model.specs.declared.entry.Made.{Made}
use Rattle.word_map.specs.Names.{pool_lock}
use Rattle.core_state.specs.declared.view.Task.TheVariants.{Nothing}
use Rattle.core_state.specs.declared.view.Marked.{Marked}
use Rattle.core_state.specs.declared.view.Batch.{Batch}
use Rattle.core_state.specs.declared.view.View.{View}
use Rattle.pass_table.specs.Turning.{AtMostOneStep, MadeBy}
use Rattle.batch_add.specs.declared.kept_batch.KeptBatch.{KeptBatch}
use Rattle.batch_add.specs.declared.giving_up.GiveStage.{GiveStage}
use Rattle.batch_add.specs.Parts.{HasGivenUp}
use Rattle.batch_add.specs.stages.Keeping.{IsBegunFor}
use Rattle.batch_add.specs.stages.GivingUp.{WorksFree, WorksUnder, unmarking_work, giving_work, putting, KnowsFree, AtGiving}

-- ---- how far it is

-- what holds while a batch is given up: of the view with which that was begun, the batch among the others, and the view now
abbrev pub Progress : Type 1
Progress = View → List Batch → Batch → List Batch → View → Type 0

-- it is at a stage
abbrev pub AtStage : GiveStage → Progress
AtStage stage start before batch after view = AtGiving start before batch after view stage

-- so many bodies are unmarked, and no lock is held
pub record HasUnmarked (done : ℕ) (start : View) (before : List Batch) (batch : Batch) (after : List Batch) (view : View) : Type 0 where
  pub gone : List Marked
  pub left : List Marked
  pub parts : batch.marked ≡ gone ++ left
  pub many : length gone ≡ done
  pub work : WorksFree start view (unmarking_work start before batch after gone left)

-- all are, and the slot is let go
abbrev pub HasLetSlotGo : Progress
HasLetSlotGo start before batch after view = WorksFree start view (giving_work start before batch after Nothing [] batch.nodes)

-- so many nodes are given back too, under the lock of the pool, where so many were free before
pub record HasPut (free given : ℕ) (start : View) (before : List Batch) (batch : Batch) (after : List Batch) (view : View) : Type 0 where
  pub gone : List ℕ
  pub left : List ℕ
  pub parts : batch.nodes ≡ gone ++ left
  pub many : length gone ≡ given
  pub work : WorksUnder (pool_lock start.config) start view (giving_work start before batch after (putting given) gone left)
  pub knows : KnowsFree start before batch after view free

-- all is done
abbrev pub IsGivenUp : Progress
IsGivenUp start before batch after view = HasGivenUp before batch after start view

-- ---- steps

-- the batch of which this is kept is being given up, and it is so far
pub record IsSoFar (kept : KeptBatch) (progress : Progress) (view : View) : Type 0 where
  pub start : View
  pub before : List Batch
  pub batch : Batch
  pub after : List Batch
  pub begun : IsBegunFor kept start before batch after
  pub at : progress start before batch after view

-- what leads from one to the other, for each batch of which this is kept
abbrev pub Leads : KeptBatch → Progress → View → Progress → View → Type 0
Leads kept from view to next =
    (start : View) (before : List Batch) (batch : Batch) (after : List Batch) → IsBegunFor kept start before batch after → from start before batch after view → to start before batch after next

-- at most one step, which made this entry or none
pub record IsGiveStep (kept : KeptBatch) (from to : Progress) (entry : Option Made) (view next : View) : Type 0 where
  pub step : AtMostOneStep view next
  pub made : MadeBy view next entry
  pub leads : Leads kept from view to next
