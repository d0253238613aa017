use Rattle.pass_table.specs.Passes.{view_of}
use Rattle.body_lock.proofs.Locking.{locking-begun}
use Rattle.body_lock.proofs.lock_op.LockOp.new.Goals as goal

pub returns-clause-under_way : goal.returns-clause-under_way
returns-clause-under_way c =
    locking-begun c.args.id c.args.mode (view_of c.args.pass.now) (view_of c.new-look.new.pass) c.args.world.now.map c.new-look.result c.requires.idle.of.sizes c.new-look.ensures.begun c.requires.below
    c.requires.idle.rest c.new-look.ensures.under_way
