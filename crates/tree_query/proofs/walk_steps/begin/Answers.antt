use Rattle.std.proofs.Common.{◌<◌, refl, subst}
use Rattle.word_map.specs.declared.config.Config.{Config}
use Rattle.pass_table.specs.Passes.{view_of}
use Rattle.tree_query.proofs.WalkEnds.{number-below, walk-begun, begun-step, begun-made}
use Rattle.tree_query.proofs.walk_steps.begin.Goals as goal

pub step_28-requires-clause-named : goal.step_28-requires-clause-named
step_28-requires-clause-named c =
    let pass = c.args.pass.now in
    subst (λ (s : Config). c.number-number.result < s.passes) c.requires.of.sizes (number-below (view_of pass) c.number-number.result c.number-number.ensures pass.current)

pub step_28-requires-clause-asks : goal.step_28-requires-clause-asks
step_28-requires-clause-asks c = record { number = c.number-number.result; names = refl; pass = c.number-number.ensures; one = refl; rests = c.requires.rests }

pub returns-clause-begins : goal.returns-clause-begins
returns-clause-begins c = (
  c.number-number.result,
  c.step_28.result,
  c.number-number.ensures,
  walk-begun (view_of c.args.pass.now) (view_of c.step_28.new.pass) c.number-number.result c.step_28.result c.step_28.ensures.step,
)

pub returns-clause-step : goal.returns-clause-step
returns-clause-step c = begun-step (view_of c.args.pass.now) (view_of c.step_28.new.pass) c.number-number.result c.step_28.result c.step_28.ensures.step

pub returns-clause-made : goal.returns-clause-made
returns-clause-made c = begun-made (view_of c.args.pass.now) (view_of c.step_28.new.pass) c.number-number.result c.step_28.result c.step_28.ensures.step
