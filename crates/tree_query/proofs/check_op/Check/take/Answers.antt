use Rattle.pass_table.specs.Passes.{view_of}
use Rattle.tree_query.proofs.CheckTurns.{stripe-taken, stripe-more, stripe-again}
use Rattle.tree_query.proofs.check_op.Check.take.Goals as goal

pub returns-in-Done-clause-turn : goal.returns-in-Done-clause-turn
returns-in-Done-clause-turn c = λ shape mask.
    stripe-taken shape mask c.args.self.now c.go_on.new.self c.args.taking (view_of c.args.pass.now) (view_of c.turn.new.pass) c.requires.stage c.turn.ensures.step c.turn.ensures.made
    c.go_on.result c.go_on.ensures.more c.go_on.ensures.stage c.in-Done.ensures.answers

pub returns-in-More-clause-turn : goal.returns-in-More-clause-turn
returns-in-More-clause-turn c = λ shape mask.
    stripe-more shape mask c.args.self.now c.go_on-in-More.new.self c.args.taking (view_of c.args.pass.now) (view_of c.turn.new.pass) c.requires.stage c.turn.ensures.step c.turn.ensures.made
    c.turn.new.self c.go_on-in-More.ensures.stage c.in-More.ensures.loads c.in-More.ensures.keeps c.go_on-in-More.result c.go_on-in-More.ensures.more c.in-More.ensures.turned

pub returns-in-Again-clause-turn : goal.returns-in-Again-clause-turn
returns-in-Again-clause-turn c = λ shape mask.
    stripe-again shape mask c.args.self.now c.go_on-in-Again.new.self c.args.taking (view_of c.args.pass.now) (view_of c.turn.new.pass) c.requires.stage c.turn.ensures.step c.turn.ensures.made
    c.turn.new.self c.go_on-in-Again.ensures.stage c.in-Again.ensures.loads c.in-Again.ensures.keeps c.in-Again.lock c.in-Again.word c.in-Again.ensures.turned
