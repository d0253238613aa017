-- What a turn of an operation leaves.
use Rattle.std.specs.Prelude.{◌≡◌, ◌≢◌, ◌⊎◌, ⊤, ℕ, suc, ◌<◌, ◌≤◌, List, ◌++◌, All, Option, Some, None, IfSome, option_to_list}
use Rattle.scene_model.specs.declared.entry.Made.{Made}
use Rattle.word_map.specs.declared.name.Name.TheVariants.{Lock}
use Rattle.core_state.specs.declared.item.Item.{Item}
use Rattle.core_state.specs.declared.view.View.{View}
use Rattle.core_state.specs.Log.{history}
use Rattle.core_state.specs.View.{IsPass}
use Rattle.core_state.specs.Core.{Core, IsViewAt}
use Rattle.core_state.specs.Kind.{Kind, Step, view_after, after_step}
use Rattle.core_state.specs.Event.{Event}
use Rattle.pass_table.specs.Standing.{Stands}
use Rattle.pass_table.specs.Trying.{Excludes, HadWord, LoadedLock, MissedLock}
use Rattle.pass_table.specs.declared.take_op.TakeOp.{TakeOp}
use Rattle.pass_table.specs.declared.turn.Turn.{Turn}
use Rattle.pass_table.specs.declared.turn.Turn.TheVariants.{Done, More, Again}

-- ---- the step of a turn

-- One step was made by the pass, of some kind: at its moment the log was what the pass knew, and what others had stored
-- since. It was an event of the core, from a core that stands to one that stands, and left the pass with the view that
-- its kind says
pub record OneStep (view next : View) : Type 0 where
  pub kind : Kind
  pub before : Core
  pub step : Step
  pub since : List Item
  pub of : step.view ≡ view
  pub at : IsViewAt before step.seat view
  pub pass : IsPass view step.number
  pub stands : Stands before
  pub event : Event before (after_step kind before step)
  pub learns : before.log ≡ view.known ++ since
  pub foreign : All (λ item. item.pass ≢ step.number) since
  pub leaves : next ≡ view_after kind before step
  pub still_stands : Stands (after_step kind before step)

-- no step was made, or one
abbrev pub AtMostOneStep : View → View → Type 0
AtMostOneStep view next = (next ≡ view) ⊎ OneStep view next

-- What a turn made: the log that is known afterwards is what was known, then what others stored, and then at most one
-- item of the pass's own. Its entry is the one made, and where it has none or there is no such item, none was made
pub record MadeBy (view next : View) (made : Option Made) : Type 0 where
  pub number : ℕ
  pub pass : IsPass view number
  pub since : List Item
  pub own : Option Item
  pub parts : next.known ≡ (view.known ++ since) ++ option_to_list own
  pub foreign : All (λ item. item.pass ≢ number) since
  pub by_pass : IfSome own (λ item. item.pass ≡ number)
  pub entry : history (option_to_list own) ≡ option_to_list made

-- ---- how far an operation is

-- The turn was the exchange of the word of the lock that the operation was taking, and found another word than it had
-- loaded
pub record LostLock (view next : View) (takes : Option TakeOp) : Type 0 where
  pub taking : TakeOp
  pub is : takes ≡ Some taking
  pub word : ℕ
  pub loaded : taking.loaded ≡ Some word
  pub found : ℕ
  pub missed : MissedLock view next taking.lock taking.mode word found

-- The turn was the load of the word of the lock that the operation was taking. It shows a holder that excludes one who
-- takes it so
pub record IsHeldUp (view next : View) (takes : Option TakeOp) (lock word : ℕ) : Type 0 where
  pub taking : TakeOp
  pub is : takes ≡ Some taking
  pub same : lock ≡ taking.lock
  pub load : LoadedLock view next lock word
  pub had : HadWord view next (Lock lock) word
  pub excludes : Excludes taking.mode word

-- A turn that answers More leaves less to do, but where an exchange of a lock's word was lost: then there may be one turn
-- more. One that answers Again leaves as much
abbrev pub Turned : {T : Type 0} → Turn T → View → View → Option TakeOp → ℕ → ℕ → Type 0
Turned (Done answer) view next takes before after = ⊤
Turned More view next takes before after = (after < before) ⊎ ((after ≡ suc before) × LostLock view next takes)
Turned (Again lock word) view next takes before after = (after ≡ before) × IsHeldUp view next takes lock word

-- the turn was the load of this lock's word, and found this one
pub record HasLoaded (view next : View) (lock word : ℕ) : Type 0 where
  pub load : LoadedLock view next lock word
  pub had : HadWord view next (Lock lock) word

-- where a lock is being taken of which a word was loaded, it was loaded by this turn
abbrev pub LoadsNow : View → View → Option TakeOp → Type 0
LoadsNow view next takes = IfSome takes (λ taking. IfSome taking.loaded (HasLoaded view next taking.lock))

-- the label was reached, where this is the number of the last one that was
abbrev pub HasReached : Option ℕ → ℕ → Type 0
HasReached None label = ⊥
HasReached (Some last) label = label ≤ last

-- a turn reaches further labels only where it answers More, and each that was reached stays so
abbrev pub Labelled : {T : Type 0} → Turn T → Option ℕ → Option ℕ → Type 0
Labelled (Done answer) before after = after ≡ before
Labelled More before after = (label : ℕ) → HasReached before label → HasReached after label
Labelled (Again lock word) before after = after ≡ before

-- the operation was begun at some time, and may go on
pub record IsUnderWay {S : Type 0} (under_way : S → View → S → View → Type 0) (operation : S) (view : View) : Type 0 where
  pub first : S
  pub start : View
  pub goes : under_way first start operation view

-- the operation goes on, if it is not at its end
abbrev pub GoesOn : {T : Type 0} → Turn T → Type 0 → Type 0
GoesOn (Done answer) ready = ⊤
GoesOn More ready = ready
GoesOn (Again lock word) ready = ready

-- what the operation answers is so
abbrev pub Answers : {T : Type 0} → Turn T → (T → Type 0) → Type 0
Answers (Done answer) fact = fact answer
Answers More fact = ⊤
Answers (Again lock word) fact = ⊤
