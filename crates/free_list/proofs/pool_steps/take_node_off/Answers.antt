use Rattle.pass_table.specs.Passes.{view_of}
use Rattle.free_list.proofs.Pool.{took-node}
use Rattle.free_list.proofs.pool_steps.take_node_off.Goals as goal

pub returns-clause-taken : goal.returns-clause-taken
returns-clause-taken c = took-node (view_of c.args.pass.now) (view_of c.step_11.new.pass) c.args.link c.requires.pool c.step_11.ensures.step c.requires.takes
