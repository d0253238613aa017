use Rattle.pass_table.specs.Passes.{view_of}
use Rattle.tree_query.proofs.CollectTurns.{hand-turn}
use Rattle.tree_query.proofs.collect_op.CollectOp.next_turn.Goals as goal

pub returns-in-Ended-clause-turn : goal.returns-in-Ended-clause-turn
returns-in-Ended-clause-turn c =
    let pass = c.args.pass.now in
    hand-turn c.args.self.now c.hand_out.new.self c.hand_out.result (view_of pass) pass.number pass.numbered c.in-Ended.is c.hand_out.ensures.held c.hand_out.ensures.walk
