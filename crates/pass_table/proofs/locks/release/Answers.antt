use Rattle.pass_table.specs.Passes.{view_of}
use Rattle.pass_table.proofs.Telling.{released-adds, released-tells, released-keeps}
use Rattle.pass_table.proofs.locks.release.Goals as goal

pub returns-clause-adds : goal.returns-clause-adds
returns-clause-adds c = let pass = c.args.pass.now in released-adds (view_of pass) (view_of c.let_go.new.self) c.args.lock c.let_go.result pass.number pass.numbered c.let_go.ensures.step

pub returns-clause-tells : goal.returns-clause-tells
returns-clause-tells c = let pass = c.args.pass.now in released-tells (view_of pass) (view_of c.let_go.new.self) c.args.lock c.let_go.result pass.number pass.numbered c.let_go.ensures.step

pub returns-clause-keeps : goal.returns-clause-keeps
returns-clause-keeps c = let pass = c.args.pass.now in released-keeps (view_of pass) (view_of c.let_go.new.self) c.args.lock c.let_go.result pass.number pass.numbered c.let_go.ensures.step
