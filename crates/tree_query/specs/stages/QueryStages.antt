-- How a query is made by turns: a walk, and then the check of its candidates.
use Rattle.std.specs.Prelude.{◌≡◌, ◌≢◌, ℕ, ◌+◌, ◌*◌, false, Option, Some, None}
use Rattle.core_state.specs.declared.view.View.{View}
use Rattle.pass_table.specs.declared.take_op.TakeOp.{TakeOp}
use Rattle.pass_table.specs.declared.turn.Turn.{Turn}
use Rattle.pass_table.specs.Holding.{IsAtRest}
use Rattle.pass_table.specs.Calls.{IsTurn}
use Rattle.pass_table.specs.Labels.{EndsAfter, SaysNew}
use Rattle.pass_table.specs.Turning.{Labelled}
use Rattle.tree_query.specs.declared.checks.Checks.{Checks}
use Rattle.tree_query.specs.declared.finder.Finder.{Finder}
use Rattle.tree_query.specs.declared.query_op.QueryOp.{QueryOp}
use Rattle.tree_query.specs.declared.walk.Walk.{Walk}
use Rattle.tree_query.specs.declared.walk.WalkStage.{WalkStage}
use Rattle.tree_query.specs.declared.walk.WalkStage.TheVariants.{Ended}
use Rattle.tree_query.specs.Finding.{room_of}
use Rattle.tree_query.specs.Answers.{SaysWalk, HasCollected, HasQueried}
use Rattle.tree_query.specs.stages.AllChecks.{going, AreInCheck, checks_left, checks_take}
use Rattle.tree_query.specs.stages.CollectTurns.{loads_kept, room_kept}
use Rattle.tree_query.specs.stages.WalkPlaces.{KeepsPlan}
use Rattle.tree_query.specs.stages.WalkTurns.{walk_left, walk_label}
use Rattle.tree_query.specs.stages.WalkLater.{IsWalkingSince}

-- ---- what holds

-- the walk goes on, and no candidate was checked
pub record IsInWalk (room : ℕ) (first : Walk) (start : View) (walk : Walk) (checks : Checks) (finder : Finder) (view : View) : Type 0 where
  pub goes : IsWalkingSince room first start walk finder view
  pub next : checks.next ≡ 0
  pub none : checks.is_at_one ≡ false

-- it has ended at a moment, and what it found is being checked
pub record IsInChecks (room : ℕ) (first : Walk) (start : View) (walk : Walk) (checks : Checks) (finder : Finder) (view : View) : Type 0 where
  pub plan : KeepsPlan first walk
  pub mid : View
  pub found : Finder
  pub roomy : room_of found ≡ room
  pub collected : HasCollected walk.shape walk.mask start mid found
  pub fresh : Checks
  pub goes : AreInCheck walk.shape walk.mask (going fresh found) mid (going checks finder) view

pub record IsQueryAt (room : ℕ) (first : Walk) (start : View) (walk : Walk) (checks : Checks) (finder : Finder) (view : View) : Type 0 where
  pub rest : IsAtRest start
  pub walks : walk.stage ≢ Ended → IsInWalk room first start walk checks finder view
  pub checked : walk.stage ≡ Ended → IsInChecks room first start walk checks finder view

-- it keeps a finder
abbrev pub IsQueryWith : ℕ → Walk → View → Walk → Checks → Option Finder → View → Type 0
IsQueryWith room first start walk checks None view = ⊥
IsQueryWith room first start walk checks (Some finder) view = IsQueryAt room first start walk checks finder view

abbrev pub IsQueryGoing : QueryOp → View → QueryOp → View → Type 0
IsQueryGoing first start operation view = IsQueryWith (room_kept first.finder) first.walk start operation.walk operation.checks operation.finder view

-- at its end the finder is handed out, and has the room that it had
pub record HasAnswered (first : QueryOp) (start next : View) (finder : Finder) : Type 0 where
  pub queried : HasQueried first.walk.shape first.walk.mask start next finder
  pub room : room_of finder ≡ room_kept first.finder

-- ---- turns left

-- one of two, by whether the walk has ended
abbrev pub by_stage : {A : Type 0} → A → A → WalkStage → A
by_stage ended walks Ended = ended
by_stage ended walks _ = walks

abbrev pub kept_left : Checks → Option Finder → ℕ
kept_left checks None = 0
kept_left checks (Some finder) = checks_left (going checks finder)

abbrev pub query_left : QueryOp → ℕ
query_left operation =
    by_stage (kept_left operation.checks operation.finder) ((1 + 14 * room_kept operation.finder) + walk_left operation.walk.stage (loads_kept operation.finder)) operation.walk.stage

-- the lock that is being taken
abbrev pub kept_takes : Checks → Option Finder → Option TakeOp
kept_takes checks None = None
kept_takes checks (Some finder) = checks_take (going checks finder)

abbrev pub query_takes : QueryOp → Option TakeOp
query_takes operation = by_stage (kept_takes operation.checks operation.finder) None operation.walk.stage

-- ---- labels

abbrev pub query_label : QueryOp → Option ℕ
query_label operation = walk_label operation.walk

abbrev pub query_says : QueryOp → View → View → ℕ → Type 0
query_says first start next label = SaysWalk first.walk.mask start next label

-- ---- turns

abbrev pub IsPlainTurn : {T : Type 0} → (QueryOp → View → View → T → Type 0) → Turn T → QueryOp → QueryOp → View → View → Type 0
IsPlainTurn answers turn before after view next = IsTurn IsQueryGoing answers query_left (λ operation. None) query_takes turn before after view next

-- what a turn owes
pub record IsQueryTurn (turn : Turn Finder) (before after : QueryOp) (view next : View) : Type 0 where
  pub plain : IsPlainTurn HasAnswered turn before after view next
  pub labelled : Labelled turn (query_label before) (query_label after)
  pub ends : EndsAfter turn (λ finder. ⊥) (Some 2) (query_label before)
  pub says : (first : QueryOp) (start : View) → IsQueryGoing first start before view → SaysNew (query_label before) (query_label after) (query_says first start next)

-- the finder that it keeps is what it answers
pub record HoldsAnswer (after first : QueryOp) (start next : View) (done : Unit {0}) : Type 0 where
  pub finder : Finder
  pub held : after.finder ≡ Some finder
  pub answer : HasAnswered first start next finder

-- a turn of the check of its candidates: its walk stays as it ended
pub record IsChecksTurn (turn : Turn (Unit {0})) (before after : QueryOp) (view next : View) : Type 0 where
  pub plain : IsPlainTurn (HoldsAnswer after) turn before after view next
  pub walk : after.walk ≡ before.walk
