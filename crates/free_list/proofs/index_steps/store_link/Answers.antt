use Rattle.pass_table.specs.Passes.{view_of}
use Rattle.free_list.proofs.Heads.{linked-to}
use Rattle.free_list.proofs.index_steps.store_link.Goals as goal

pub returns-clause-linked : goal.returns-clause-linked
returns-clause-linked c = linked-to (view_of c.args.pass.now) (view_of c.step_10.new.pass) c.args.index c.args.head c.step_10.ensures.step
