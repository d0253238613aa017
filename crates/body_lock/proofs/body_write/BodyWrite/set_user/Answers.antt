use Rattle.core_state.specs.declared.view.Mode.TheVariants.{Write}
use Rattle.pass_table.specs.Passes.{view_of}
use Rattle.body_lock.proofs.Standing.{user-alone, user-adds, user-tells, user-keeps}
use Rattle.body_lock.proofs.body_write.BodyWrite.set_user.Goals as goal

pub returns-clause-good : goal.returns-clause-good
returns-clause-good c =
    let guard = c.args.self.now in
    user-alone guard.number guard.id (view_of c.args.pass.now) (view_of c.store_user.new.pass) c.args.user c.requires.good (c.store_user.ensures.set guard.number c.requires.good.guarding.pass)

pub returns-clause-adds : goal.returns-clause-adds
returns-clause-adds c =
    let guard = c.args.self.now in
    user-adds guard.number guard.id Write (view_of c.args.pass.now) (view_of c.store_user.new.pass) guard.number guard.id.index c.args.user c.requires.good.guarding (c.store_user.ensures.set guard.number c.requires.good.guarding.pass)

pub returns-clause-tells : goal.returns-clause-tells
returns-clause-tells c =
    let guard = c.args.self.now in
    user-tells guard.number guard.id Write (view_of c.args.pass.now) (view_of c.store_user.new.pass) guard.number guard.id.index c.args.user c.requires.good.guarding (c.store_user.ensures.set guard.number c.requires.good.guarding.pass)

pub returns-clause-keeps : goal.returns-clause-keeps
returns-clause-keeps c =
    let guard = c.args.self.now in
    user-keeps (view_of c.args.pass.now) (view_of c.store_user.new.pass) guard.number guard.id.index c.args.user (c.store_user.ensures.set guard.number c.requires.good.guarding.pass)

pub returns-clause-set : goal.returns-clause-set
returns-clause-set c = c.store_user.ensures.set c.args.self.now.number c.requires.good.guarding.pass
