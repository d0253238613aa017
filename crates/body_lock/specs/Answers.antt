-- What locking a body answers, and what locking several at once does.
use Rattle.std.specs.Prelude.{◌≡◌, ℕ, [], ◌∷◌, Result, Ok, Err, ◌-◌, List, All, map, take}
use Rattle.body_ident.specs.Id.{Id}
use Rattle.word_map.specs.Names.{stripe_of}
use Rattle.core_state.specs.declared.view.Mode.{Mode}
use Rattle.core_state.specs.declared.view.Mode.TheVariants.{Read, Write}
use Rattle.core_state.specs.declared.view.LockStep.TheVariants.{Taken}
use Rattle.core_state.specs.declared.view.Task.TheVariants.{Nothing}
use Rattle.core_state.specs.declared.view.View.{View}
use Rattle.core_state.specs.View.{IsPass}
use Rattle.pass_table.specs.Knowing.{KnowsMore}
use Rattle.pass_table.specs.Calls.{AtPoint}
use Rattle.pass_table.specs.Work.{IsCalling, HasDone, idle}
use Rattle.body_lock.specs.declared.gone.Gone.{Gone}
use Rattle.body_lock.specs.declared.body_read.BodyRead.{BodyRead}
use Rattle.body_lock.specs.declared.body_write.BodyWrite.{BodyWrite}
use Rattle.pass_table.specs.Bodies.{IsAlone, IsCurrent, IsGoneAt, IsGuarding}
use Rattle.body_lock.specs.Guarding.{IsReading, IsWriting}
use Rattle.core_state.specs.declared.view.LockStep.{LockStep}
use Rattle.core_state.specs.Log.{IsPrefix}
use Rattle.body_lock.specs.declared.multi_guard.MultiEntry.{MultiEntry}
use Rattle.body_lock.specs.declared.multi_guard.MultiEntry.TheVariants.{Reached, Gone as EntryGone}
use Rattle.body_lock.specs.declared.multi_guard.LockedBody.{LockedBody}
use Rattle.body_lock.specs.declared.multi_guard.MultiGuard.{MultiGuard}
use Rattle.body_lock.specs.declared.multi_op.Wanted.{Wanted}
use Rattle.body_lock.specs.declared.multi_op.LockMultiOp.{LockMultiOp}
use Rattle.body_lock.specs.Stripes.{stripes_below, AreStripesOf, HoldsAll}
use Rattle.body_lock.specs.Multi.{IsMultiGood}
use Rattle.body_lock.specs.Settled.{IsEntrySettled}

-- a call that is under way holds this stripe, and else it is as it was begun
abbrev pub HasStripe : Id → Mode → View → View → Type 0
HasStripe id mode start view = IsCalling start view (Taken (stripe_of start.config id.index) mode ∷ []) Nothing []

-- it is locked: the pass guards it, holds no other lock, and all else but what it knows is as it was
pub record HasLocked (id : Id) (mode : Mode) (start next : View) : Type 0 where
  pub alone : (number : ℕ) → IsPass start number → IsAlone number id mode next
  pub now : IsCurrent next
  pub calling : HasStripe id mode start next

-- it was gone at a point: the pass is at rest again, and has added nothing
pub record WasGone (id : Id) (start next : View) (state : ℕ) : Type 0 where
  pub gone : AtPoint start next (IsGoneAt start.config id state)
  pub done : HasDone start next (idle start)

-- the guards that are then handed out
pub record HasReadLock (id : Id) (start next : View) (guard : BodyRead) : Type 0 where
  pub names : guard.id ≡ id
  pub good : IsReading guard next
  pub now : IsCurrent next
  pub calling : HasStripe id Read start next

pub record HasWriteLock (id : Id) (start next : View) (guard : BodyWrite) : Type 0 where
  pub names : guard.id ≡ id
  pub good : IsWriting guard next
  pub now : IsCurrent next
  pub calling : HasStripe id Write start next

abbrev pub ReadAnswers : Id → View → View → Result BodyRead Gone → Type 0
ReadAnswers id start next (Ok guard) = HasReadLock id start next guard
ReadAnswers id start next (Err refused) = WasGone id start next refused.state

abbrev pub WriteAnswers : Id → View → View → Result BodyWrite Gone → Type 0
WriteAnswers id start next (Ok guard) = HasWriteLock id start next guard
WriteAnswers id start next (Err refused) = WasGone id start next refused.state

abbrev pub LockAnswers : Id → Mode → View → View → Result (Unit {0}) Gone → Type 0
LockAnswers id mode start next (Ok done) = HasLocked id mode start next
LockAnswers id mode start next (Err refused) = WasGone id start next refused.state

-- the ids of bodies that are wanted, and of those that were looked at
abbrev pub wanted_ids : List Wanted → List Id
wanted_ids wanted = map (λ w. w.id) wanted

abbrev pub body_ids : List LockedBody → List Id
body_ids bodies = map (λ b. b.id) bodies

-- What was found of a body is right: it is guarded, or at a point since all were held its state word said that it is gone
abbrev pub IsReachRight : ℕ → Mode → View → View → Id → MultiEntry → Type 0
IsReachRight number mode held view id Reached = IsGuarding number id mode view
IsReachRight number mode held view id (EntryGone state) = AtPoint held view (IsGoneAt held.config id state)

abbrev pub IsEntryRight : ℕ → Mode → View → View → LockedBody → Type 0
IsEntryRight number mode held view body = IsReachRight number mode held view body.id body.entry

-- at one point all of them were held, and they are since
pub record HeldSince (bits : ℕ) (mode : Mode) (start held view : View) : Type 0 where
  pub reached : IsPrefix start.known held.known
  pub all : HoldsAll held bits mode
  pub since : KnowsMore held view

-- the steps that take the stripes of the set below this one: each once, ascending
abbrev pub takes_below : ℕ → Mode → ℕ → List LockStep
takes_below bits mode end = map (λ stripe. Taken stripe mode) (stripes_below bits end)

-- All bodies are locked: their stripes were taken in ascending order, each once, were all held at one point and are since;
-- what was found of each body is right; at one point, that at which the call ends, it is so of all of them; and the pass has
-- added nothing
pub record HasMultiLock (first : LockMultiOp) (start next : View) (guard : MultiGuard) : Type 0 where
  pub good : IsMultiGood guard next
  pub mode : guard.mode ≡ first.mode
  pub ids : body_ids guard.bodies.items ≡ wanted_ids first.wanted.items
  pub stripes : AreStripesOf start.config (body_ids guard.bodies.items) guard.stripes.bits
  pub held : View
  pub holds : HeldSince guard.stripes.bits guard.mode start held next
  pub each : All (IsEntryRight guard.number guard.mode held next) guard.bodies.items
  pub settled : All (IsEntrySettled start.config start.known next.known) guard.bodies.items
  pub now : IsCurrent next
  pub calling : IsCalling start next (takes_below guard.stripes.bits guard.mode 64) Nothing []

-- the same, by the ids and the mode that were asked for
pub record LocksAll (ids : List Id) (asked : Mode) (start next : View) (guard : MultiGuard) : Type 0 where
  pub first : LockMultiOp
  pub wants : wanted_ids first.wanted.items ≡ ids
  pub so : first.mode ≡ asked
  pub locked : HasMultiLock first start next guard
