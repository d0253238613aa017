use Rattle.std.proofs.Common.{ap}
use Rattle.pass_table.specs.Passes.{view_of}
use Rattle.body_lock.proofs.TakingAll.{all-holds, all-took, all-goes, all-waits}
use Rattle.body_lock.proofs.multi_op.LockMultiOp.take.Goals as goal

pub stage_after-self-requires-clause-holds : goal.stage_after-self-requires-clause-holds
stage_after-self-requires-clause-holds c =
    all-holds c.args.self.now c.args.stripe c.args.taking (view_of c.args.pass.now) (view_of c.turn.new.pass) c.requires.stage c.turn.ensures.made c.in-Done.ensures.answers c.requires.under_way

pub returns-in-Done-clause-turn : goal.returns-in-Done-clause-turn
returns-in-Done-clause-turn c =
    all-took c.args.self.now c.args.stripe c.args.taking (view_of c.args.pass.now) (view_of c.turn.new.pass) c.requires.stage c.turn.ensures.made c.turn.ensures.step
    c.in-Done.ensures.answers c.stage_after-self.result (view_of c.stage_after-self.new.pass) (ap view_of c.stage_after-self.ensures.pass) c.stage_after-self.ensures.stage c.stage_after-self.ensures.unloaded

pub returns-in-More-clause-turn : goal.returns-in-More-clause-turn
returns-in-More-clause-turn c =
    all-goes c.args.self.now c.args.stripe c.args.taking (view_of c.args.pass.now) (view_of c.turn.new.pass) c.requires.stage c.turn.ensures.made c.turn.ensures.step
    c.turn.new.self c.in-More.ensures.loads c.in-More.ensures.keeps c.in-More.ensures.turned

pub returns-in-Again-clause-turn : goal.returns-in-Again-clause-turn
returns-in-Again-clause-turn c =
    all-waits c.args.self.now c.args.stripe c.args.taking (view_of c.args.pass.now) (view_of c.turn.new.pass) c.requires.stage c.turn.ensures.made c.turn.ensures.step
    c.turn.new.self c.in-Again.ensures.loads c.in-Again.ensures.keeps c.in-Again.lock c.in-Again.word c.in-Again.ensures.turned
