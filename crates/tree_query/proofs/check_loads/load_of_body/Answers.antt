use Rattle.core_state.specs.declared.view.Mode.TheVariants.{Read}
use Rattle.core_state.specs.Lives.{under_stripe}
use Rattle.pass_table.specs.Passes.{view_of}
use Rattle.pass_table.proofs.Bodies.{loaded-body, body-load-step, body-load-made}
use Rattle.tree_query.proofs.check_loads.load_of_body.Goals as goal

pub step_15-requires-clause-asks : goal.step_15-requires-clause-asks
step_15-requires-clause-asks c = under_stripe c.args.index Read c.requires.of_body c.requires.stripe

pub returns-clause-loaded : goal.returns-clause-loaded
returns-clause-loaded c = loaded-body (view_of c.args.pass.now) (view_of c.step_15.new.pass) c.args.name c.step_15.result c.step_15.ensures.step

pub returns-clause-step : goal.returns-clause-step
returns-clause-step c = body-load-step (view_of c.args.pass.now) (view_of c.step_15.new.pass) c.args.name c.step_15.result c.step_15.ensures.step

pub returns-clause-made : goal.returns-clause-made
returns-clause-made c = body-load-made (view_of c.args.pass.now) (view_of c.step_15.new.pass) c.args.name c.step_15.result c.step_15.ensures.step
