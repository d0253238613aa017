use Rattle.std.proofs.Common.{refl}
use Rattle.word_map.specs.declared.name.Name.TheVariants.{Main}
use Rattle.pass_table.specs.Passes.{view_of}
use Rattle.tree_query.proofs.WalkOn.{main-on, main-step, main-made}
use Rattle.tree_query.proofs.walk_steps.load_main.Goals as goal

pub step_31-requires-clause-asks : goal.step_31-requires-clause-asks
step_31-requires-clause-asks c = record { layer = c.args.layer; names = refl; walks = c.requires.walks }

pub returns-clause-on : goal.returns-clause-on
returns-clause-on c = main-on (view_of c.args.pass.now) (view_of c.step_31.new.pass) (Main c.args.layer) c.step_31.result c.step_31.ensures.step

pub returns-clause-step : goal.returns-clause-step
returns-clause-step c = main-step (view_of c.args.pass.now) (view_of c.step_31.new.pass) (Main c.args.layer) c.step_31.result c.step_31.ensures.step

pub returns-clause-made : goal.returns-clause-made
returns-clause-made c = main-made (view_of c.args.pass.now) (view_of c.step_31.new.pass) (Main c.args.layer) c.step_31.result c.step_31.ensures.step
