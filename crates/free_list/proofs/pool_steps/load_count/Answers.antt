use Rattle.pass_table.specs.Passes.{view_of}
use Rattle.free_list.proofs.Pool.{loaded-count}
use Rattle.free_list.proofs.pool_steps.load_count.Goals as goal

pub returns-clause-loaded : goal.returns-clause-loaded
returns-clause-loaded c = loaded-count (view_of c.args.pass.now) (view_of c.step_9.new.pass) c.step_9.result c.requires.pool c.step_9.ensures.step
