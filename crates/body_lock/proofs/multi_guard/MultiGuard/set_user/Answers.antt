use Rattle.std.proofs.Common.{◌∙◌, ap, subst, [], ◌∷◌}
use Rattle.scene_model.specs.declared.entry.Entry.TheVariants.{SetUser}
use Rattle.core_state.specs.declared.view.Mode.{Mode}
use Rattle.pass_table.specs.Calls.{Adds}
use Rattle.pass_table.specs.Passes.{view_of}
use Rattle.body_lock.specs.declared.multi_guard.LockedBody.{LockedBody}
use Rattle.pass_table.specs.Bodies.{IsGuarding}
use Rattle.body_lock.specs.Seeing.{HasSetUser}
use Rattle.body_lock.proofs.Standing.{user-adds, user-tells, user-keeps}
use Rattle.body_lock.proofs.Guards.{reached-guarding, multi-set}
use Rattle.body_lock.proofs.multi_guard.MultiGuard.set_user.Goals as goal

pub store_user-requires-clause-guarding : goal.store_user-requires-clause-guarding
store_user-requires-clause-guarding c =
    let guard = c.args.self.now in
    let view = view_of c.args.pass.now in
    let body = c.body-body.result in
    let reached = ap (λ (b : LockedBody). b.entry) (c.body-body.ensures body) ∙ c.requires.reached body in (
      guard.number,
      subst (λ (m : Mode). IsGuarding guard.number body.id m view) c.requires.write (reached-guarding guard view c.requires.good c.args.k c.requires.within body c.body-body.ensures reached),
    )

pub returns-clause-good : goal.returns-clause-good
returns-clause-good c =
    let guard = c.args.self.now in
    multi-set guard (view_of c.args.pass.now) (view_of c.store_user.new.pass) c.body-body.result.id.index c.args.user (c.store_user.ensures.set guard.number c.requires.good.pass) c.requires.good

pub returns-clause-adds : goal.returns-clause-adds
returns-clause-adds c = λ past.
    let guard = c.args.self.now in
    let view = view_of c.args.pass.now in
    let next = view_of c.store_user.new.pass in
    let body = c.body-body.result in
    let reached = ap (λ (b : LockedBody). b.entry) (c.body-body.ensures body) ∙ c.requires.reached body in
    subst (λ (b : LockedBody). Adds view next (SetUser b.id.index c.args.user ∷ [])) (c.body-body.ensures past)
    (user-adds guard.number body.id guard.mode view next guard.number body.id.index c.args.user
    (reached-guarding guard view c.requires.good c.args.k c.requires.within body c.body-body.ensures reached) (c.store_user.ensures.set guard.number c.requires.good.pass))

pub returns-clause-tells : goal.returns-clause-tells
returns-clause-tells c =
    let guard = c.args.self.now in
    let body = c.body-body.result in
    let reached = ap (λ (b : LockedBody). b.entry) (c.body-body.ensures body) ∙ c.requires.reached body in
    user-tells guard.number body.id guard.mode (view_of c.args.pass.now) (view_of c.store_user.new.pass) guard.number body.id.index c.args.user
    (reached-guarding guard (view_of c.args.pass.now) c.requires.good c.args.k c.requires.within body c.body-body.ensures reached) (c.store_user.ensures.set guard.number c.requires.good.pass)

pub returns-clause-keeps : goal.returns-clause-keeps
returns-clause-keeps c =
    let guard = c.args.self.now in
    user-keeps (view_of c.args.pass.now) (view_of c.store_user.new.pass) guard.number c.body-body.result.id.index c.args.user (c.store_user.ensures.set guard.number c.requires.good.pass)

pub returns-clause-set : goal.returns-clause-set
returns-clause-set c = λ past.
    let guard = c.args.self.now in
    subst (λ (b : LockedBody). HasSetUser (view_of c.args.pass.now) (view_of c.store_user.new.pass) guard.number b.id.index c.args.user) (c.body-body.ensures past)
    (c.store_user.ensures.set guard.number c.requires.good.pass)
