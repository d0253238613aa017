-- What a pass has that holds the locks of several bodies.
use Rattle.std.specs.Prelude.{◌≡◌, ℕ, ◌<◌, true, false, ⊤, All, Result, Ok, Err}
use Rattle.body_ident.specs.Id.{Id}
use Rattle.scene_model.specs.declared.body_view.BodyView.{BodyView}
use Rattle.core_state.specs.declared.view.Mode.{Mode}
use Rattle.core_state.specs.declared.view.Task.TheVariants.{Nothing}
use Rattle.core_state.specs.declared.view.View.{View}
use Rattle.core_state.specs.View.{IsPass}
use Rattle.pass_table.specs.Knowing.{KnowsMore}
use Rattle.pass_table.specs.Calls.{AtPoint}
use Rattle.body_lock.specs.declared.gone.Gone.{Gone as GoneAnswer}
use Rattle.body_lock.specs.declared.multi_guard.MultiEntry.{MultiEntry}
use Rattle.body_lock.specs.declared.multi_guard.MultiEntry.TheVariants.{Reached, Gone}
use Rattle.body_lock.specs.declared.multi_guard.LockedBody.{LockedBody}
use Rattle.body_lock.specs.declared.multi_guard.MultiGuard.{MultiGuard}
use Rattle.pass_table.specs.Bodies.{IsGuarding, IsCurrent}
use Rattle.body_lock.specs.Stripes.{has_stripe, HoldsAll}
use Rattle.body_lock.specs.Seeing.{IsSeenAt}
use Rattle.body_lock.specs.Staying.{BodyStays}

-- a body that was reached is guarded
abbrev pub IsReachGood : ℕ → Mode → View → Id → MultiEntry → Type 0
IsReachGood number mode view id Reached = IsGuarding number id mode view
IsReachGood number mode view id (Gone state) = ⊤

abbrev pub IsEntryGood : ℕ → Mode → View → LockedBody → Type 0
IsEntryGood number mode view body = IsReachGood number mode view body.id body.entry

-- The guard is good for this view: the pass holds just its stripes, nothing is half done, and each body that was reached is
-- guarded
pub record IsMultiGood (guard : MultiGuard) (view : View) : Type 0 where
  pub pass : IsPass view guard.number
  pub holds : HoldsAll view guard.stripes.bits guard.mode
  pub within : (stripe : ℕ) → has_stripe guard.stripes.bits stripe ≡ true → stripe < view.config.stripes
  pub done : view.call.task ≡ Nothing
  pub still : view.walk.is_on ≡ false
  pub each : All (IsEntryGood guard.number guard.mode view) guard.bodies.items

-- the body was seen at a point of the call
pub record SeesBody (id : Id) (view next : View) (shown : BodyView) : Type 0 where
  pub now : IsCurrent next
  pub more : KnowsMore view next
  pub stays : BodyStays id.index view next
  pub seen : AtPoint view next (IsSeenAt view.config view.known id shown)

-- a body that was reached is seen, and of another one no step is made
abbrev pub SeesEntry : LockedBody → View → View → Result BodyView GoneAnswer → Type 0
SeesEntry body view next (Ok shown) = (body.entry ≡ Reached) × SeesBody body.id view next shown
SeesEntry body view next (Err refused) = (body.entry ≡ Gone refused.state) × (next ≡ view)
