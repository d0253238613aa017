use Rattle.pass_table.specs.Passes.{view_of}
use Rattle.free_list.proofs.Heads.{loaded-link}
use Rattle.free_list.proofs.index_steps.load_link.Goals as goal

pub returns-clause-loaded : goal.returns-clause-loaded
returns-clause-loaded c = loaded-link (view_of c.args.pass.now) (view_of c.step_9.new.pass) c.args.index c.step_9.result c.step_9.ensures.step
