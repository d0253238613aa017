use Rattle.body_lock.specs.stages.LockingAll.{IsLockingAll}
use Rattle.pass_table.specs.Passes.{view_of}
use Rattle.pass_table.proofs.Turning.{goes-on}
use Rattle.body_lock.proofs.multi_turns.LockMultiOpOperation.turn.Goals as goal

pub returns-in-Taking-clause-goes_on : goal.returns-in-Taking-clause-goes_on
returns-in-Taking-clause-goes_on c =
    goes-on IsLockingAll c.take.result c.args.self.now c.take.new.self (view_of c.args.pass.now) (view_of c.take.new.pass) c.take.ensures.turn.keeps c.requires.under_way

pub returns-in-Held-clause-goes_on : goal.returns-in-Held-clause-goes_on
returns-in-Held-clause-goes_on c =
    goes-on IsLockingAll c.load_state.result c.args.self.now c.load_state.new.self (view_of c.args.pass.now) (view_of c.load_state.new.pass) c.load_state.ensures.turn.keeps c.requires.under_way
