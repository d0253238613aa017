-- One step on the way up from a location of the body that is moved.
use Rattle.std.specs.Prelude.{◌≡◌, ◌⊎◌, ℕ, suc, ◌<◌, List, Contains, Option, Some, None, IfSome}
use Rattle.fixed_box.specs.FixBox.{words_of}
use Rattle.fixed_box.specs.declared.fix_box.FixBox.{FixBox}
use Rattle.body_ident.specs.Id.{Id}
use Rattle.core_state.specs.declared.item.Load.{Load}
use Rattle.core_state.specs.declared.item.Store.{Store}
use Rattle.core_state.specs.declared.view.LockStep.{LockStep}
use Rattle.core_state.specs.declared.view.Call.{Call}
use Rattle.core_state.specs.declared.view.View.{View}
use Rattle.core_state.specs.Encoding.{sides_of}
use Rattle.pass_table.specs.Bodies.{IsCurrent}
use Rattle.pass_table.specs.Turning.{AtMostOneStep, MadeBy}
use Rattle.widen_bounds.specs.declared.climbing.Climb.{Climb}
use Rattle.widen_bounds.specs.stages.Widening.{IsMidMove, IsClimbing, HasClosed, climb_left}

-- a call that was begun at this view is on the way up from one of the two locations
pub record IsOnWay (id : Id) (target : FixBox) (steps : List LockStep) (start view : View) (known first second at : ℕ) (climb : Climb) : Type 0 where
  pub move : IsMidMove id target steps start view known first second
  pub one : (at ≡ first) ⊎ (at ≡ second)
  pub climbing : IsClimbing view.call (sides_of (words_of target)) known at climb

-- some call is so for a body at this index
pub record ClimbsFor (index : ℕ) (target : FixBox) (climb : Climb) (view : View) : Type 0 where
  pub id : Id
  pub same : id.index ≡ index
  pub steps : List LockStep
  pub start : View
  pub known : ℕ
  pub first : ℕ
  pub second : ℕ
  pub at : ℕ
  pub goes : IsOnWay id target steps start view known first second at climb

-- what the call loaded and stored before is among what it did by then
pub record Grows (call later : Call) : Type 0 where
  pub loads : (load : Load) → Contains call.loads load → Contains later.loads load
  pub stores : (store : Store) → Contains call.stores store → Contains later.stores store

-- a side more is widened at the place; or after all six it has come to the place of the node in its parent
pub data GoesOnTo (before after : Climb) : Type 0 where
  a_side : before.side < 6 → after ≡ record before { side = suc before.side } → GoesOnTo before after
  a_place : (m j : ℕ) → before.side ≡ 6 → after ≡ record { node = m; child = j; level = suc before.level; side = 0 } → GoesOnTo before after

-- a call that had come to so many sides of the box, and loaded and stored this, has come on
pub record HasComeOn (id : Id) (target : FixBox) (steps : List LockStep) (start next : View) (call : Call) (known first second at : ℕ) (after : Climb) : Type 0 where
  pub later : ℕ
  pub all : known ≡ 6 → later ≡ 6
  pub grows : (known ≡ 0) ⊎ Grows call next.call
  pub goes : IsOnWay id target steps start next later first second at after

-- or closed the way
pub record HasComeUp (id : Id) (target : FixBox) (steps : List LockStep) (start next : View) (call : Call) (known first second at : ℕ) : Type 0 where
  pub all : known ≡ 6
  pub grows : Grows call next.call
  pub move : IsMidMove id target steps start next known first second
  pub closed : HasClosed next.call (sides_of (words_of target)) at

abbrev pub HasStepped : Id → FixBox → List LockStep → View → View → Call → ℕ → ℕ → ℕ → ℕ → Option Climb → Type 0
HasStepped id target steps start next call known first second at (Some after) = HasComeOn id target steps start next call known first second at after
HasStepped id target steps start next call known first second at None = HasComeUp id target steps start next call known first second at

-- what a step owes
pub record IsClimbTurn (index : ℕ) (target : FixBox) (before : Climb) (after : Option Climb) (view next : View) : Type 0 where
  pub step : AtMostOneStep view next
  pub made : MadeBy view next None
  pub current : IsCurrent next
  pub some : 0 < climb_left before
  pub fewer : IfSome after (λ later. climb_left later < climb_left before)
  pub onward : IfSome after (GoesOnTo before)
  pub keeps : (id : Id) (steps : List LockStep) (start : View) (known first second at : ℕ) → id.index ≡ index → IsOnWay id target steps start view known first second at before
      → HasStepped id target steps start next view.call known first second at after
