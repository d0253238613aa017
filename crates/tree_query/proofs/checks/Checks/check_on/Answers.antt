use Rattle.std.proofs.Common.{refl}
use Rattle.pass_table.specs.Passes.{view_of}
use Rattle.tree_query.proofs.ChecksTurns.{check-more, check-again, check-settled}
use Rattle.tree_query.proofs.checks.Checks.check_on.Goals as goal

pub returns-in-Done-clause-turn : goal.returns-in-Done-clause-turn
returns-in-Done-clause-turn c =
    check-settled c.args.shape.now c.args.mask c.args.self.now c.args.finder.now c.turn.new.self (view_of c.args.pass.now) (view_of c.turn.new.pass) c.requires.stage c.settle.new.finder
    c.in-Done.answer _ c.in-Done.ensures.turn refl c.settle.ensures c.requires.under_way

pub returns-in-More-clause-turn : goal.returns-in-More-clause-turn
returns-in-More-clause-turn c =
    check-more c.args.shape.now c.args.mask c.args.self.now c.args.finder.now c.turn.new.self (view_of c.args.pass.now) (view_of c.turn.new.pass) c.requires.stage c.in-More.ensures.turn

pub returns-in-Again-clause-turn : goal.returns-in-Again-clause-turn
returns-in-Again-clause-turn c =
    check-again c.args.shape.now c.args.mask c.args.self.now c.args.finder.now c.turn.new.self (view_of c.args.pass.now) (view_of c.turn.new.pass) c.requires.stage
    c.in-Again.lock c.in-Again.word c.in-Again.ensures.turn
