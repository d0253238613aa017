use Rattle.core_state.specs.Lives.{under_stripe}
use Rattle.pass_table.specs.Passes.{view_of}
use Rattle.pass_table.proofs.LockedBodies.{guarded-more}
use Rattle.pass_table.proofs.Bodies.{loaded-body, body-load-step, body-load-made}
use Rattle.body_look.proofs.word_loads.load_word.Goals as goal

pub step_15-requires-clause-asks : goal.step_15-requires-clause-asks
step_15-requires-clause-asks c =
    let guarded = c.requires.guarded in
    under_stripe c.args.id.index guarded.1 c.requires.of_body guarded.2.stripe

pub returns-clause-guarded : goal.returns-clause-guarded
returns-clause-guarded c =
    let loaded = loaded-body (view_of c.args.pass.now) (view_of c.step_15.new.pass) c.args.name c.step_15.result c.step_15.ensures.step in
    guarded-more c.args.id (view_of c.args.pass.now) (view_of c.step_15.new.pass) c.requires.guarded loaded.more

pub returns-clause-loaded : goal.returns-clause-loaded
returns-clause-loaded c = loaded-body (view_of c.args.pass.now) (view_of c.step_15.new.pass) c.args.name c.step_15.result c.step_15.ensures.step

pub returns-clause-step : goal.returns-clause-step
returns-clause-step c = body-load-step (view_of c.args.pass.now) (view_of c.step_15.new.pass) c.args.name c.step_15.result c.step_15.ensures.step

pub returns-clause-made : goal.returns-clause-made
returns-clause-made c = body-load-made (view_of c.args.pass.now) (view_of c.step_15.new.pass) c.args.name c.step_15.result c.step_15.ensures.step
