use Rattle.pass_table.specs.Passes.{view_of}
use Rattle.tree_query.proofs.CollectTurns.{under-collect, collect-turn}
use Rattle.tree_query.proofs.collect_op.CollectOp.walk_on.Goals as goal

pub turn-requires-clause-under_way : goal.turn-requires-clause-under_way
turn-requires-clause-under_way c = under-collect c.args.self.now c.in-Some.finder (view_of c.args.pass.now) c.in-Some.is c.requires.under_way

pub returns-clause-turn : goal.returns-clause-turn
returns-clause-turn c =
    collect-turn c.args.self.now c.turn.new.self c.in-Some.finder c.turn.new.finder (view_of c.args.pass.now) (view_of c.turn.new.pass) c.in-Some.is c.turn.ensures.turn
