-- How a body is moved that a guard has locked to write.
use Rattle.std.specs.Prelude.{◌≢◌, ℕ, [], ◌∷◌, List, Option, Some, None}
use Rattle.fixed_box.specs.declared.fix_box.FixBox.{FixBox}
use Rattle.body_ident.specs.Id.{Id}
use Rattle.scene_model.specs.declared.body_view.Phase.{Phase as BodyPhase}
use Rattle.scene_model.specs.declared.body_view.Phase.TheVariants.{Held as HeldPhase}
use Rattle.scene_model.specs.declared.entry.Entry.TheVariants.{Move}
use Rattle.core_state.specs.declared.view.LockStep.{LockStep}
use Rattle.core_state.specs.declared.view.Task.TheVariants.{Nothing}
use Rattle.core_state.specs.declared.view.View.{View}
use Rattle.pass_table.specs.Bodies.{KnowsLive}
use Rattle.pass_table.specs.Settled.{KnowsPhase}
use Rattle.pass_table.specs.Work.{IsCalling}
use Rattle.body_look.specs.Found.{IsHeldAt}
use Rattle.widen_bounds.specs.declared.widening.Widening.{Widening}
use Rattle.widen_bounds.specs.Answers.{HasMoved}
use Rattle.widen_bounds.specs.stages.Widening.{HoldsStripe}
use Rattle.widen_bounds.specs.stages.Moving.{IsUnheld, IsStoring, GoesOnBy}

-- the body is in this phase, and no batch holds it
pub record IsFreeIn (id : Id) (phase : BodyPhase) (view : View) : Type 0 where
  pub free : phase ≢ HeldPhase
  pub knows : KnowsPhase id phase view

-- whether a batch holds the body, and then the word of its slot
abbrev pub HoldsOrFree : Id → View → Option ℕ → Type 0
HoldsOrFree id view (Some slot) = IsHeldAt view.config id slot view.known
HoldsOrFree id view None = (phase : BodyPhase) × IsFreeIn id phase view

-- a call is under way that may move the body
pub record MayMove (id : Id) (view : View) : Type 0 where
  pub steps : List LockStep
  pub start : View
  pub holds : HoldsStripe id steps start
  pub unheld : IsUnheld id steps start view

-- the locations of the body are loaded, and the widening of bounds begins so
abbrev pub HasLocated : Id → Widening → View → View → Type 0
HasLocated id widening view next = (to : FixBox) (steps : List LockStep) (start : View) → HoldsStripe id steps start → IsUnheld id steps start view → GoesOnBy id to steps start next widening

-- a call that was begun so has given the body the box, and is in the middle of nothing
pub record HasGiven (id : Id) (to : FixBox) (steps : List LockStep) (start next : View) : Type 0 where
  pub calling : IsCalling start next steps Nothing (Move id.index to ∷ [])
  pub moved : HasMoved id to start next
  pub live : KnowsLive id next

-- its box words are stored
abbrev pub HasStoredBox : Id → FixBox → View → View → Type 0
HasStoredBox id to view next = (steps : List LockStep) (start : View) → IsStoring id to steps start view 0 → HasGiven id to steps start next

-- it is moved
abbrev pub MovesFree : Id → FixBox → View → View → Type 0
MovesFree id to view next = (steps : List LockStep) (start : View) → HoldsStripe id steps start → IsUnheld id steps start view → HasGiven id to steps start next
