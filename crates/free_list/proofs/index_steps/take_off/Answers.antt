use Rattle.pass_table.specs.Passes.{view_of}
use Rattle.free_list.proofs.Heads.{took-off}
use Rattle.free_list.proofs.index_steps.take_off.Goals as goal

pub returns-clause-taken : goal.returns-clause-taken
returns-clause-taken c = took-off (view_of c.args.pass.now) (view_of c.step_11.new.pass) c.args.link c.requires.list c.step_11.ensures.step c.requires.takes
