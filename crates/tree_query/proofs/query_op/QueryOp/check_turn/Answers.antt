use Rattle.pass_table.specs.Passes.{view_of}
use Rattle.tree_query.proofs.QueryTurns.{checks-way, checks-turned}
use Rattle.tree_query.proofs.query_op.QueryOp.check_turn.Goals as goal

pub turn-requires-clause-under_way : goal.turn-requires-clause-under_way
turn-requires-clause-under_way c = checks-way c.args.self.now c.in-Some.finder (view_of c.args.pass.now) c.in-Some.is c.requires.under_way c.requires.walked

pub returns-clause-turn : goal.returns-clause-turn
returns-clause-turn c =
    checks-turned c.args.self.now c.in-Some.finder (view_of c.args.pass.now) c.in-Some.is c.requires.under_way c.turn.result c.turn.new.self c.turn.new.finder (view_of c.turn.new.pass) c.requires.walked c.turn.ensures.turn
