use Rattle.pass_table.specs.Passes.{view_of}
use Rattle.pass_table.proofs.Telling.{tried-adds, tried-tells}
use Rattle.pass_table.proofs.locks.try_take.Goals as goal

pub returns-then-write-clause-adds : goal.returns-then-write-clause-adds
returns-then-write-clause-adds c = let pass = c.args.pass.now in tried-adds (view_of pass) (view_of c.try_mode.new.pass) c.args.lock _ pass.number pass.numbered c.try_mode.result c.try_mode.ensures.tried

pub returns-then-write-clause-tells : goal.returns-then-write-clause-tells
returns-then-write-clause-tells c = let pass = c.args.pass.now in tried-tells (view_of pass) (view_of c.try_mode.new.pass) c.args.lock _ pass.number pass.numbered c.try_mode.result c.try_mode.ensures.tried

pub returns-else-write-clause-adds : goal.returns-else-write-clause-adds
returns-else-write-clause-adds c =
    let pass = c.args.pass.now in
    tried-adds (view_of pass) (view_of c.try_mode-else-write.new.pass) c.args.lock _ pass.number pass.numbered c.try_mode-else-write.result c.try_mode-else-write.ensures.tried

pub returns-else-write-clause-tells : goal.returns-else-write-clause-tells
returns-else-write-clause-tells c =
    let pass = c.args.pass.now in
    tried-tells (view_of pass) (view_of c.try_mode-else-write.new.pass) c.args.lock _ pass.number pass.numbered c.try_mode-else-write.result c.try_mode-else-write.ensures.tried
