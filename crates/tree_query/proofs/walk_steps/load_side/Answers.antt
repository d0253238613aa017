use Rattle.std.proofs.Common.{refl}
use Rattle.word_map.specs.declared.name.Name.TheVariants.{Bound}
use Rattle.pass_table.specs.Passes.{view_of}
use Rattle.tree_query.proofs.WalkOn.{side-on, side-step, side-made}
use Rattle.tree_query.proofs.walk_steps.load_side.Goals as goal

pub step_33-requires-clause-asks : goal.step_33-requires-clause-asks
step_33-requires-clause-asks c = record { node = c.args.node; child = c.args.child; side = c.args.side; names = refl; walks = c.requires.walks }

pub returns-clause-on : goal.returns-clause-on
returns-clause-on c = side-on (view_of c.args.pass.now) (view_of c.step_33.new.pass) (Bound c.args.node c.args.child c.args.side) c.step_33.result c.step_33.ensures.step

pub returns-clause-step : goal.returns-clause-step
returns-clause-step c = side-step (view_of c.args.pass.now) (view_of c.step_33.new.pass) (Bound c.args.node c.args.child c.args.side) c.step_33.result c.step_33.ensures.step

pub returns-clause-made : goal.returns-clause-made
returns-clause-made c = side-made (view_of c.args.pass.now) (view_of c.step_33.new.pass) (Bound c.args.node c.args.child c.args.side) c.step_33.result c.step_33.ensures.step
