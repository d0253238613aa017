use Rattle.pass_table.specs.Passes.{view_of}
use Rattle.pass_table.proofs.WorkLater.{worked-keeps}
use Rattle.body_lock.proofs.calls.lock_multi.Goals as goal

pub returns-clause-locked : goal.returns-clause-locked
returns-clause-locked g c = record {
  first = c.new-locking.result;
  wants = c.new-locking.ensures.ids;
  so = c.new-locking.ensures.mode;
  locked = c.drive.ensures.answers c.new-locking.result (view_of c.args.pass.now) c.new-locking.ensures.under_way;
}

pub returns-clause-adds : goal.returns-clause-adds
returns-clause-adds g c = (c.drive.ensures.answers c.new-locking.result (view_of c.args.pass.now) c.new-locking.ensures.under_way).calling.adds

pub returns-clause-tells : goal.returns-clause-tells
returns-clause-tells g c = (c.drive.ensures.answers c.new-locking.result (view_of c.args.pass.now) c.new-locking.ensures.under_way).calling.tells

pub returns-clause-keeps : goal.returns-clause-keeps
returns-clause-keeps g c = worked-keeps (view_of c.args.pass.now) (view_of c.drive.new.pass) _ (c.drive.ensures.answers c.new-locking.result (view_of c.args.pass.now) c.new-locking.ensures.under_way).calling
