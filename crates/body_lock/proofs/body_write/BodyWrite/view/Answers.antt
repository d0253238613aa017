use Rattle.core_state.specs.declared.view.Mode.TheVariants.{Write}
use Rattle.pass_table.specs.Passes.{view_of}
use Rattle.body_lock.proofs.Staying.{guarded-stays}
use Rattle.body_lock.proofs.Standing.{guarding-adds, guarding-tells, more-keeps, alone-more}
use Rattle.body_lock.proofs.body_write.BodyWrite.view.Goals as goal

pub returns-clause-good : goal.returns-clause-good
returns-clause-good c =
    alone-more c.args.self.now.number c.args.self.now.id Write (view_of c.args.pass.now) (view_of c.read_body.new.pass) c.requires.good c.read_body.ensures.more

pub returns-clause-adds : goal.returns-clause-adds
returns-clause-adds c =
    guarding-adds c.args.self.now.number c.args.self.now.id Write (view_of c.args.pass.now) c.requires.good.guarding (view_of c.read_body.new.pass) c.read_body.ensures.more

pub returns-clause-tells : goal.returns-clause-tells
returns-clause-tells c =
    guarding-tells c.args.self.now.number c.args.self.now.id Write (view_of c.args.pass.now) c.requires.good.guarding (view_of c.read_body.new.pass) c.read_body.ensures.more

pub returns-clause-keeps : goal.returns-clause-keeps
returns-clause-keeps c = more-keeps (view_of c.args.pass.now) (view_of c.read_body.new.pass) c.read_body.ensures.more

pub returns-clause-stays : goal.returns-clause-stays
returns-clause-stays c =
    guarded-stays c.args.self.now.number c.args.self.now.id Write (view_of c.args.pass.now) (view_of c.read_body.new.pass) c.requires.good.guarding c.read_body.ensures.more c.read_body.ensures.now
