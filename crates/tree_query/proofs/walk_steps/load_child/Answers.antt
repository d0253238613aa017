use Rattle.std.proofs.Common.{refl}
use Rattle.word_map.specs.declared.name.Name.TheVariants.{Child}
use Rattle.pass_table.specs.Passes.{view_of}
use Rattle.tree_query.proofs.WalkOn.{child-on, child-step, child-made}
use Rattle.tree_query.proofs.walk_steps.load_child.Goals as goal

pub step_32-requires-clause-asks : goal.step_32-requires-clause-asks
step_32-requires-clause-asks c = record { node = c.args.node; child = c.args.child; names = refl; walks = c.requires.walks }

pub returns-clause-on : goal.returns-clause-on
returns-clause-on c = child-on (view_of c.args.pass.now) (view_of c.step_32.new.pass) (Child c.args.node c.args.child) c.step_32.result c.step_32.ensures.step

pub returns-clause-step : goal.returns-clause-step
returns-clause-step c = child-step (view_of c.args.pass.now) (view_of c.step_32.new.pass) (Child c.args.node c.args.child) c.step_32.result c.step_32.ensures.step

pub returns-clause-made : goal.returns-clause-made
returns-clause-made c = child-made (view_of c.args.pass.now) (view_of c.step_32.new.pass) (Child c.args.node c.args.child) c.step_32.result c.step_32.ensures.step
