use Rattle.pass_table.specs.Passes.{view_of}
use Rattle.free_list.proofs.Pool.{loaded-link}
use Rattle.free_list.proofs.pool_steps.load_pool_link.Goals as goal

pub returns-clause-loaded : goal.returns-clause-loaded
returns-clause-loaded c = loaded-link (view_of c.args.pass.now) (view_of c.step_9.new.pass) c.args.node c.step_9.result c.step_9.ensures.step
