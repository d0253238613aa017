use Rattle.pass_table.specs.Passes.{view_of}
use Rattle.free_list.proofs.Pool.{linked-node}
use Rattle.free_list.proofs.pool_steps.store_pool_link.Goals as goal

pub returns-clause-linked : goal.returns-clause-linked
returns-clause-linked c = linked-node (view_of c.args.pass.now) (view_of c.step_10.new.pass) c.args.node c.args.head c.step_10.ensures.step
