use Rattle.pass_table.specs.Passes.{view_of}
use Rattle.pass_table.proofs.Turning.{goes-on}
use Rattle.tree_query.specs.stages.CollectTurns.{IsCollectGoing}
use Rattle.tree_query.proofs.collect_turns.CollectOpOperation.turn.Goals as goal

pub returns-clause-goes_on : goal.returns-clause-goes_on
returns-clause-goes_on c =
    goes-on IsCollectGoing c.next_turn.result c.args.self.now c.next_turn.new.self (view_of c.args.pass.now) (view_of c.next_turn.new.pass) c.next_turn.ensures.turn.plain.keeps c.requires.under_way
