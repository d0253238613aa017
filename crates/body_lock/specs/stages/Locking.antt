-- Locking a body by turns.
use Rattle.std.specs.Prelude.{◌≡◌, ℕ, ◌+◌, ◌<◌, [], ◌∷◌, Option, None, Result}
use Rattle.body_ident.specs.Id.{Id}
use Rattle.word_map.specs.declared.config.Config.{Config}
use Rattle.word_map.specs.Names.{stripe_of}
use Rattle.core_state.specs.declared.view.Mode.{Mode}
use Rattle.core_state.specs.declared.view.LockStep.TheVariants.{Taken}
use Rattle.core_state.specs.declared.view.View.{View}
use Rattle.pass_table.specs.declared.turn.Turn.{Turn}
use Rattle.pass_table.specs.declared.take_op.TakeOp.{TakeOp}
use Rattle.pass_table.specs.Knowing.{KnowsMore}
use Rattle.pass_table.specs.Holding.{IsAtRest}
use Rattle.pass_table.specs.Calls.{AtPoint, IsTurn}
use Rattle.pass_table.proofs.Calling.{point-later}
use Rattle.body_look.specs.declared.look_op.LookDepth.TheVariants.{Life}
use Rattle.body_look.specs.declared.look_op.LookOp.{LookOp}
use Rattle.body_look.specs.stages.Looking.{looking_of, look_left, look_takes, IsLooking, HasStripe as HoldsStripe}
use Rattle.body_look.specs.stages.LookLater.{looking-later, only-more}
use Rattle.body_lock.specs.declared.gone.Gone.{Gone}
use Rattle.body_lock.specs.declared.lock_op.LockOp.{LockOp}
use Rattle.body_lock.specs.declared.lock_op.LockStage.{LockStage}
use Rattle.body_lock.specs.declared.lock_op.LockStage.TheVariants.{Looking, Leaving}
use Rattle.pass_table.specs.Bodies.{IsGoneAt}
use Rattle.body_lock.specs.Answers.{LockAnswers}

-- the operation before its first turn, in a world of these sizes
abbrev pub locking_of : Config → Id → Mode → LockOp
locking_of c id mode = record { id = id; mode = mode; look = looking_of c id mode Life; stage = Looking }

-- the turns of the look, and one that lets the stripe go
abbrev pub turns_from : LookOp → LockStage → ℕ
turns_from look Looking = 1 + look_left look
turns_from look (Leaving state) = 1

abbrev pub lock_left : LockOp → ℕ
lock_left operation = turns_from operation.look operation.stage

-- the look found that the body is gone, and has left the stripe held
pub record FoundGone (id : Id) (mode : Mode) (start : View) (state : ℕ) (view : View) : Type 0 where
  pub stripe : HoldsStripe id mode start view
  pub gone : AtPoint start view (IsGoneAt start.config id state)

abbrev pub IsAtStage : Id → Mode → View → LookOp → LockStage → View → Type 0
IsAtStage id mode start look Looking view = IsLooking (looking_of start.config id mode Life) start look view
IsAtStage id mode start look (Leaving state) view = FoundGone id mode start state view

-- it locks the body with which it was begun, in that mode, for a pass that was at rest
pub record IsLocking (first : LockOp) (start : View) (operation : LockOp) (view : View) : Type 0 where
  pub id : operation.id ≡ first.id
  pub mode : operation.mode ≡ first.mode
  pub below : first.id.index < start.config.bodies
  pub rest : IsAtRest start
  pub stage : IsAtStage first.id first.mode start operation.look operation.stage view

-- in this mode
pub record IsLockingSo (mode : Mode) (first : LockOp) (start : View) (operation : LockOp) (view : View) : Type 0 where
  pub so : first.mode ≡ mode
  pub locking : IsLocking first start operation view

-- the lock that it takes
abbrev pub takes_at : LookOp → LockStage → Option TakeOp
takes_at look Looking = look_takes look
takes_at look (Leaving state) = None

abbrev pub lock_takes : LockOp → Option TakeOp
lock_takes operation = takes_at operation.look operation.stage

-- what a turn of it owes
abbrev pub IsLockTurn : Turn (Result (Unit {0}) Gone) → LockOp → LockOp → View → View → Type 0
IsLockTurn turn before after view next =
    IsTurn IsLocking (λ first start end answer. LockAnswers first.id first.mode start end answer) lock_left (λ operation. None) lock_takes turn before after view next

-- a look or a meeting between two turns does no harm
stage-later : (id : Id) (mode : Mode) (start : View) (look : LookOp) (stage : LockStage) (view next : View) → IsAtRest start → KnowsMore view next → IsAtStage id mode start look stage view
    → IsAtStage id mode start look stage next
stage-later id mode start look Looking view next rest more at = looking-later (looking_of start.config id mode Life) start look view next more at
stage-later id mode start look (Leaving state) view next rest more at = record {
  stripe = only-more id start view (Taken (stripe_of start.config id.index) mode ∷ []) at.stripe rest next more;
  gone = point-later start view next (IsGoneAt start.config id state) (more.since, more.known) at.gone;
}

pub locking-later : (first : LockOp) (start : View) (operation : LockOp) (view next : View) → KnowsMore view next → IsLocking first start operation view → IsLocking first start operation next
locking-later first start operation view next more locking = record {
  id = locking.id;
  mode = locking.mode;
  below = locking.below;
  rest = locking.rest;
  stage = stage-later first.id first.mode start operation.look operation.stage view next locking.rest more locking.stage;
}

pub locking_so-later : (mode : Mode) (first : LockOp) (start : View) (operation : LockOp) (view next : View) → KnowsMore view next
    → IsLockingSo mode first start operation view → IsLockingSo mode first start operation next
locking_so-later mode first start operation view next more so = record { so = so.so; locking = locking-later first start operation view next more so.locking }
