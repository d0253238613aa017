use Rattle.pass_table.specs.Passes.{view_of}
use Rattle.pass_table.proofs.Turning.{goes-on}
use Rattle.tree_query.specs.stages.QueryStages.{IsQueryGoing}
use Rattle.tree_query.proofs.query_turns.QueryOpOperation.turn.Goals as goal

pub returns-clause-goes_on : goal.returns-clause-goes_on
returns-clause-goes_on c =
    goes-on IsQueryGoing c.next_turn.result c.args.self.now c.next_turn.new.self (view_of c.args.pass.now) (view_of c.next_turn.new.pass) c.next_turn.ensures.turn.plain.keeps c.requires.under_way
