-- A body under its lock, told of the scene before the lock was taken.
use Rattle.std.proofs.Common.{◌≡◌, ℕ, [], ◌∷◌, ◌++◌, Some, None, refl, ap, ◌∙◌, subst}
use Rattle.body_ident.specs.Id.{Id}
use Rattle.scene_model.specs.declared.body_view.BodyView.{BodyView}
use Rattle.scene_model.specs.declared.entry.Entry.TheVariants.{SetUser}
use Rattle.scene_model.specs.Scene.{Scene, Record}
use Rattle.scene_model.specs.Query.{view_of as body_view}
use Rattle.core_state.specs.declared.view.Mode.{Mode}
use Rattle.core_state.specs.declared.view.View.{View}
use Rattle.core_state.specs.Guards.{scene_at}
use Rattle.pass_table.specs.declared.pass.Pass.{Pass}
use Rattle.pass_table.specs.Passes.{view_of}
use Rattle.pass_table.specs.Belongings.{Belongings}
use Rattle.pass_table.specs.Calls.{AtPoint}
use Rattle.pass_table.specs.Bodies.{IsCurrent, IsGuarding}
use Rattle.pass_table.proofs.LockedBodies.{guarded-tells}
use Rattle.body_lock.specs.Seeing.{IsSeenAt}
use Rattle.script_player.specs.declared.bodies.Change.TheVariants as changes
use Rattle.script_player.specs.Body.{body_of}
use Rattle.world_host.specs.Alone.{scene_of}
use Rattle.world_host.specs.Answers.{ChangesAlone}
use Rattle.world_host.proofs.Points.{point-scene}
use Rattle.world_host.proofs.Records.{seen-body}
use Rattle.world_host.proofs.Parts.{Part, part-sees, part-leaves}
use Rattle.world_host.proofs.Changes.{done-tries}

module _ (first : Pass) (start : View) (one : start.config.passes ≡ 1) (locking : Part start (view_of first) []) where
  abbrev locked : View
  locked = view_of first

  -- the lock changes nothing of the scene
  locked-scene : scene_of locked ≡ scene_of start
  locked-scene = (part-leaves first start [] one locking).made.scene

  locked-one : locked.config.passes ≡ 1
  locked-one = ap (λ (b : Belongings). b.config.passes) locking.keeps ∙ one

  -- what is seen then
  pub seen-alone : (second : Pass) (own id : Id) (shown : BodyView) → Part locked (view_of second) [] → own ≡ id → AtPoint locked (view_of second) (IsSeenAt locked.config locked.known own shown)
      → body_of (scene_of start) id ≡ Some shown
  seen-alone second own id shown viewing same at =
      let here = point-scene locked (view_of second) (IsSeenAt locked.config locked.known own shown) at (part-sees second locked [] locked-one viewing) ∙ locked-scene in
      let is = seen-body (scene_at locked.config (locked.known ++ at.since)) own at.holds.body shown at.holds.live at.holds.shows at.holds.names in
      subst (λ (i : Id). body_of (scene_of start) i ≡ Some shown) same (subst (λ (s : Scene). body_of s own ≡ Some shown) here is)

  -- a body that is guarded is live
  guarded-alone : (number : ℕ) (own : Id) (mode : Mode) → IsGuarding number own mode locked → IsCurrent locked → (r : Record) × (body_of (scene_of start) own ≡ Some (body_view own.index r))
  guarded-alone number own mode guarding now =
      let told = guarded-tells own locked (number, mode, guarding) now in
      let named : (body_view own.index told.body).id ≡ own = λ i. record { index = own.index; seq = told.sequence i } in
      let is = seen-body (scene_of locked) own told.body (body_view own.index told.body) told.live refl named in
      (told.body, subst (λ (s : Scene). body_of s own ≡ Some (body_view own.index told.body)) locked-scene is)

  -- and it gets another user number
  pub user-set : (last : Pass) (number user : ℕ) (own id : Id) (mode : Mode) → IsGuarding number own mode locked → IsCurrent locked → own ≡ id
      → Part start (view_of last) (SetUser own.index user ∷ []) → ChangesAlone (changes.SetUser user) id start (view_of last) None
  user-set last number user own id mode guarding now same whole =
      let body = guarded-alone number own mode guarding now in
      subst (λ (i : Id). ChangesAlone (changes.SetUser user) i start (view_of last) None) same
      (done-tries (changes.SetUser user) own start (view_of last) (body_view own.index body.0) body.1 refl (part-leaves last start (SetUser own.index user ∷ []) one whole))
