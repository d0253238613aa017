use Rattle.pass_table.specs.Passes.{view_of}
use Rattle.body_look.proofs.LookTurns.{take-done, take-more, take-again}
use Rattle.body_look.proofs.look_op.LookOp.take.Goals as goal

pub returns-in-Done-clause-turn : goal.returns-in-Done-clause-turn
returns-in-Done-clause-turn c =
    take-done c.args.self.now (view_of c.args.pass.now) (view_of c.turn.new.pass) c.turn.new.self c.requires.stage c.turn.ensures.step c.turn.ensures.made c.in-Done.ensures.answers

pub returns-in-More-clause-turn : goal.returns-in-More-clause-turn
returns-in-More-clause-turn c =
    take-more c.args.self.now (view_of c.args.pass.now) (view_of c.turn.new.pass) c.turn.new.self c.requires.stage c.turn.ensures.step c.turn.ensures.made c.in-More.ensures.loads c.in-More.ensures.keeps
    c.in-More.ensures.turned

pub returns-in-Again-clause-turn : goal.returns-in-Again-clause-turn
returns-in-Again-clause-turn c =
    take-again c.args.self.now (view_of c.args.pass.now) (view_of c.turn.new.pass) c.turn.new.self c.requires.stage c.turn.ensures.step c.turn.ensures.made c.in-Again.ensures.loads c.in-Again.ensures.keeps
    c.in-Again.lock c.in-Again.word c.in-Again.ensures.turned
