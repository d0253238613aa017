use Rattle.pass_table.specs.Passes.{view_of}
use Rattle.body_lock.proofs.Locking.{leave-may, leave-turn}
use Rattle.body_lock.proofs.lock_op.LockOp.leave.Goals as goal

pub unlock-requires-clause-may : goal.unlock-requires-clause-may
unlock-requires-clause-may c = leave-may c.args.self.now (view_of c.args.pass.now) c.args.world.now.map c.requires.of.sizes c.args.state c.requires.stage c.requires.under_way

pub returns-clause-turn : goal.returns-clause-turn
returns-clause-turn c =
    let step = c.unlock.ensures.step in
    leave-turn c.args.self.now (view_of c.args.pass.now) c.args.world.now.map c.requires.of.sizes c.args.state c.requires.stage (view_of c.unlock.new.pass) step.0 step.1
