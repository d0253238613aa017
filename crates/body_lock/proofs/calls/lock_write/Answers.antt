use Rattle.pass_table.specs.Passes.{view_of}
use Rattle.body_lock.proofs.Locking.{write-adds_none}
use Rattle.body_lock.proofs.calls.lock_write.Goals as goal

pub returns-clause-adds : goal.returns-clause-adds
returns-clause-adds g c = (write-adds_none c.new-locking.result.locking.id (view_of c.args.pass.now) (view_of c.drive.new.pass) c.drive.result (c.drive.ensures.answers c.new-locking.result (view_of c.args.pass.now) c.new-locking.ensures.under_way)).adds

pub returns-clause-tells : goal.returns-clause-tells
returns-clause-tells g c = (write-adds_none c.new-locking.result.locking.id (view_of c.args.pass.now) (view_of c.drive.new.pass) c.drive.result (c.drive.ensures.answers c.new-locking.result (view_of c.args.pass.now) c.new-locking.ensures.under_way)).tells

pub returns-clause-keeps : goal.returns-clause-keeps
returns-clause-keeps g c = (write-adds_none c.new-locking.result.locking.id (view_of c.args.pass.now) (view_of c.drive.new.pass) c.drive.result (c.drive.ensures.answers c.new-locking.result (view_of c.args.pass.now) c.new-locking.ensures.under_way)).keeps
