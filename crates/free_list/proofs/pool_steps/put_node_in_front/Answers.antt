use Rattle.std.proofs.Common.{arith}
use Rattle.pass_table.specs.Passes.{view_of}
use Rattle.free_list.proofs.Pool.{gave-node}
use Rattle.free_list.proofs.pool_steps.put_node_in_front.Goals as goal

pub returns-clause-given : goal.returns-clause-given
returns-clause-given c =
    let same = c.from.ensures in
    gave-node (view_of c.args.pass.now) (view_of c.step_11.new.pass) _ c.requires.pool c.step_11.ensures.step c.args.node c.requires.loose (omega arith)
