-- How a batch is given up, turn by turn.
use Rattle.std.specs.Prelude.{◌≡◌, ℕ, zero, suc, ◌+◌, ◌-◌, ◌*◌, ◌<◌, ◌≤◌, List, [], ◌∷◌, ◌++◌, length, map, true, false, None, Option, Some}
use Rattle.scene_model.specs.declared.entry.Entry.{Entry}
use Rattle.scene_model.specs.declared.entry.Entry.TheVariants.{Unmark}
use Rattle.word_map.specs.declared.name.Name.TheVariants.{Slot, PoolHead, PoolNext, PoolFree}
use Rattle.word_map.specs.Names.{stripe_of, pool_lock}
use Rattle.core_state.specs.declared.view.Mode.TheVariants.{Write}
use Rattle.core_state.specs.declared.view.LockStep.{LockStep}
use Rattle.core_state.specs.declared.view.LockStep.TheVariants.{Taken as TakenStep}
use Rattle.core_state.specs.declared.view.Task.{Task}
use Rattle.core_state.specs.declared.view.Task.TheVariants.{Nothing, Pooling}
use Rattle.core_state.specs.declared.view.Marked.{Marked}
use Rattle.core_state.specs.declared.view.Batch.{Batch}
use Rattle.core_state.specs.declared.view.View.{View}
use Rattle.core_state.specs.View.{known_word, mode_of}
use Rattle.core_state.specs.Batches.{written_outside}
use Rattle.pass_table.specs.declared.take_op.TakeOp.{TakeOp}
use Rattle.pass_table.specs.declared.turn.Turn.{Turn}
use Rattle.pass_table.specs.TakeTurns.{taking_of, IsTaking, turns_left}
use Rattle.pass_table.specs.Calls.{IsTurn}
use Rattle.batch_add.specs.declared.kept_batch.KeptBatch.{KeptBatch}
use Rattle.batch_add.specs.declared.giving_up.GiveStage.{GiveStage}
use Rattle.batch_add.specs.declared.giving_up.GiveStage.TheVariants.{Striping, Striped, Cleared, Unmarked, Bare, Locking, Locked, Next, Headed, Linked, Given, Counted}
use Rattle.batch_add.specs.declared.giving_up.GivingUp.{GivingUp}
use Rattle.pass_table.specs.Work.{Work, begun, HasWorked}
use Rattle.batch_add.specs.Parts.{stored_as, StoresFrom, HasGivenUp}
use Rattle.batch_add.specs.stages.Keeping.{index_at, IsBegunFor}

-- ---- work with no lock held, and with one

abbrev pub at_locks : Work → List LockStep → Work
at_locks w steps = record w { steps = steps }

-- so much is done, whatever locks were taken meanwhile; none is held
pub record WorksFree (start view : View) (w : Work) : Type 0 where
  pub steps : List LockStep
  pub free : (lock : ℕ) → mode_of steps lock ≡ None
  pub worked : HasWorked start view (at_locks w steps)

-- and this one is held to write, and no other
pub record WorksUnder (lock : ℕ) (start view : View) (w : Work) : Type 0 where
  pub steps : List LockStep
  pub free : (other : ℕ) → mode_of steps other ≡ None
  pub worked : HasWorked start view (at_locks w (steps ++ TakenStep lock Write ∷ []))

-- ---- how far it is

abbrev pub unmark_entries : List Marked → List Entry
unmark_entries marks = map (λ m. Unmark m.index) marks

abbrev pub with_marks : Batch → List Marked → Batch
with_marks batch marks = record batch { marked = marks }

abbrev pub unplaced : Marked → Marked
unplaced m = record m { is_placed = false }

-- the first of its bodies are unmarked, and the batch has the others
abbrev pub unmarking_work : View → List Batch → Batch → List Batch → List Marked → List Marked → Work
unmarking_work start before batch after gone left = record (begun start) { entries = unmark_entries gone; batches = before ++ with_marks batch left ∷ after; places = true }

-- what a pass is in the middle of that has put so many nodes on the pool
abbrev pub putting : ℕ → Task
putting zero = Nothing
putting (suc given) = Pooling 0 (suc given)

-- the slot is let go, and the first of its nodes are given back
abbrev pub giving_work : View → List Batch → Batch → List Batch → Task → List ℕ → List ℕ → Work
giving_work start before batch after task gone left = record (begun start) {
  task = task;
  entries = unmark_entries batch.marked;
  stores = stored_as (Slot batch.layer batch.slot) 0 ∷ [];
  batches = before ++ after;
  loose = start.loose ++ left;
  written = written_outside gone start.written;
  places = true;
}

-- all are given back, and the count is stored
abbrev pub counted_work : View → List Batch → Batch → List Batch → ℕ → Work
counted_work start before batch after free = record (giving_work start before batch after Nothing batch.nodes []) {
  stores = stored_as (Slot batch.layer batch.slot) 0 ∷ stored_as PoolFree free ∷ [];
}

-- ---- stages

-- so many bodies are unmarked, and this one is next
pub record IsAtBody (batch : Batch) (done : ℕ) : Type 0 where
  pub gone : List Marked
  pub m : Marked
  pub later : List Marked
  pub parts : batch.marked ≡ gone ++ m ∷ later
  pub many : length gone ≡ done

-- so many nodes are given back, and this one is next
pub record IsAtNode (batch : Batch) (given : ℕ) : Type 0 where
  pub gone : List ℕ
  pub node : ℕ
  pub later : List ℕ
  pub parts : batch.nodes ≡ gone ++ node ∷ later
  pub many : length gone ≡ given

module _ (start : View) (before : List Batch) (batch : Batch) (after : List Batch) (view : View) where
  -- the stripe of a body is held, and these are the bodies that the batch still has
  abbrev pub UnderStripe : Marked → List Marked → List Marked → Type 0
  UnderStripe m gone left = WorksUnder (stripe_of start.config m.index) start view (unmarking_work start before batch after gone left)

  -- so many nodes were free when the pool's lock was taken
  pub record KnowsFree (free : ℕ) : Type 0 where
    pub known : known_word view PoolFree ≡ free
    pub most : free ≤ start.config.nodes

  -- the lock of the pool is held, and the nodes before the next one are given back
  pub record IsPutting (free given : ℕ) : Type 0 where
    pub at : IsAtNode batch given
    pub work : WorksUnder (pool_lock start.config) start view (giving_work start before batch after (putting given) at.gone (at.node ∷ at.later))
    pub knows : KnowsFree free

  -- what holds at a stage
  abbrev pub AtGiving : GiveStage → Type 0
  AtGiving (Striping done taking) =
      (at : IsAtBody batch done) × WorksFree start view (unmarking_work start before batch after at.gone (at.m ∷ at.later))
      × IsTaking (taking_of (stripe_of start.config at.m.index) Write) view taking view
  AtGiving (Striped done) = (at : IsAtBody batch done) × UnderStripe at.m at.gone (at.m ∷ at.later)
  AtGiving (Cleared done) = (at : IsAtBody batch done) × UnderStripe at.m at.gone (unplaced at.m ∷ at.later)
  AtGiving (Unmarked done) = (at : IsAtBody batch done) × UnderStripe at.m (at.gone ++ at.m ∷ []) at.later
  AtGiving Bare = WorksFree start view (unmarking_work start before batch after batch.marked [])
  AtGiving (Locking taking) =
      (0 < length batch.nodes) × WorksFree start view (giving_work start before batch after Nothing [] batch.nodes) × IsTaking (taking_of (pool_lock start.config) Write) view taking view
  AtGiving Locked = (0 < length batch.nodes) × WorksUnder (pool_lock start.config) start view (giving_work start before batch after Nothing [] batch.nodes)
  AtGiving (Next free given) = IsPutting free given
  AtGiving (Headed free given head) = (put : IsPutting free given) × (known_word view PoolHead ≡ head) × (put.at.node < start.config.nodes)
  AtGiving (Linked free given) = (put : IsPutting free given) × (known_word view (PoolNext put.at.node) ≡ known_word view PoolHead)
  AtGiving (Given free) =
      (0 < length batch.nodes) × WorksUnder (pool_lock start.config) start view (giving_work start before batch after (putting (length batch.nodes)) batch.nodes []) × KnowsFree free
  AtGiving Counted =
      (0 < length batch.nodes) × (free : ℕ) × WorksUnder (pool_lock start.config) start view (counted_work start before batch after (free + length batch.nodes))
      × StoresFrom start view PoolFree free (free + length batch.nodes)

-- It was begun for a batch of the pass, and for each such batch it is so far
pub record IsGivingUp (first : GivingUp) (start : View) (operation : GivingUp) (view : View) : Type 0 where
  pub kept : operation.kept ≡ first.kept
  pub some : (before : List Batch) × (batch : Batch) × (after : List Batch) × IsBegunFor operation.kept start before batch after
  pub each : (before : List Batch) (batch : Batch) (after : List Batch) → IsBegunFor operation.kept start before batch after → AtGiving start before batch after view operation.stage

-- at its end
abbrev pub HasGiven : GivingUp → View → GivingUp → View → Unit {0} → Type 0
HasGiven first start last next answer =
    (before : List Batch) (batch : Batch) (after : List Batch) → IsBegunFor first.kept start before batch after → HasGivenUp before batch after start next

-- ---- turns

-- six turns at most for each body that is marked, and three for each node that is not given back; of so many bodies and nodes
abbrev pub stage_left : ℕ → ℕ → GiveStage → ℕ
stage_left bodies nodes (Striping done taking) = 3 * nodes + 6 + 6 * (bodies - suc done) + 3 + turns_left taking
stage_left bodies nodes (Striped done) = 3 * nodes + 6 + 6 * (bodies - suc done) + 3
stage_left bodies nodes (Cleared done) = 3 * nodes + 6 + 6 * (bodies - suc done) + 2
stage_left bodies nodes (Unmarked done) = 3 * nodes + 6 + 6 * (bodies - suc done) + 1
stage_left bodies nodes Bare = 3 * nodes + 6
stage_left bodies nodes (Locking taking) = 3 * nodes + 3 + turns_left taking
stage_left bodies nodes Locked = 3 * nodes + 3
stage_left bodies nodes (Next free given) = 3 * (nodes - suc given) + 5
stage_left bodies nodes (Headed free given head) = 3 * (nodes - suc given) + 4
stage_left bodies nodes (Linked free given) = 3 * (nodes - suc given) + 3
stage_left bodies nodes (Given free) = 2
stage_left bodies nodes Counted = 1

abbrev pub left_at : KeptBatch → GiveStage → ℕ
left_at kept stage = stage_left kept.marked kept.node_count stage

abbrev pub give_left : GivingUp → ℕ
give_left operation = left_at operation.kept operation.stage

-- the lock that it takes
abbrev pub takes_at : GiveStage → Option TakeOp
takes_at (Striping done taking) = Some taking
takes_at (Locking taking) = Some taking
takes_at _ = None

abbrev pub give_takes : GivingUp → Option TakeOp
give_takes operation = takes_at operation.stage

abbrev pub IsGiveTurn : Turn (Unit {0}) → GivingUp → GivingUp → View → View → Type 0
IsGiveTurn turn before after view next =
    IsTurn IsGivingUp (λ first start last answer. HasGiven first start after last answer) give_left (λ operation. operation.made) give_takes turn before after view next

-- what comes when so many bodies are unmarked
abbrev pub ComesNext : KeptBatch → ℕ → View → GiveStage → Type 0
ComesNext kept done view (Striping number taking) =
    (number ≡ done) × (done < kept.marked) × IsTaking (taking_of (stripe_of view.config (index_at kept done)) Write) view taking view
ComesNext kept done view Bare = done ≡ kept.marked
ComesNext kept done view _ = ⊥
