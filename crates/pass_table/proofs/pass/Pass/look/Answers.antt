use Rattle.pass_table.specs.Passes.{view_of}
use Rattle.pass_table.proofs.Knowing.{looked}
use Rattle.pass_table.proofs.Telling.{more-adds, more-tells, more-keeps}
use Rattle.pass_table.proofs.pass.Pass.look.Goals as goal

pub returns-clause-looked : goal.returns-clause-looked
returns-clause-looked c = looked (view_of c.args.self.now) (view_of c.load.new.self) c.load.result c.load.ensures.step

pub returns-clause-adds : goal.returns-clause-adds
returns-clause-adds c =
    let pass = c.args.self.now in
    more-adds (view_of pass) (view_of c.load.new.self) pass.number pass.numbered (looked (view_of pass) (view_of c.load.new.self) c.load.result c.load.ensures.step).more

pub returns-clause-tells : goal.returns-clause-tells
returns-clause-tells c =
    let pass = c.args.self.now in
    more-tells (view_of pass) (view_of c.load.new.self) pass.number pass.numbered (looked (view_of pass) (view_of c.load.new.self) c.load.result c.load.ensures.step).more

pub returns-clause-keeps : goal.returns-clause-keeps
returns-clause-keeps c =
    let pass = c.args.self.now in
    more-keeps (view_of pass) (view_of c.load.new.self) (looked (view_of pass) (view_of c.load.new.self) c.load.result c.load.ensures.step).more
