use Rattle.pass_table.specs.Passes.{view_of}
use Rattle.tree_query.proofs.QueryTurns.{walk-way, walk-turned}
use Rattle.tree_query.proofs.query_op.QueryOp.walk_on.Goals as goal

pub turn-requires-clause-under_way : goal.turn-requires-clause-under_way
turn-requires-clause-under_way c = walk-way c.args.self.now c.in-Some.finder (view_of c.args.pass.now) c.in-Some.is c.requires.under_way c.requires.more

pub returns-clause-turn : goal.returns-clause-turn
returns-clause-turn c =
    walk-turned c.args.self.now c.in-Some.finder (view_of c.args.pass.now) c.in-Some.is c.requires.under_way c.turn.new.self c.turn.new.finder (view_of c.turn.new.pass) c.requires.more c.turn.ensures.turn
