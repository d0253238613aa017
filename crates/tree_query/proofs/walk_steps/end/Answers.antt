use Rattle.std.proofs.Common.{◌<◌, refl, subst}
use Rattle.word_map.specs.declared.config.Config.{Config}
use Rattle.pass_table.specs.Passes.{view_of}
use Rattle.tree_query.proofs.WalkEnds.{number-below, walk-ended, ended-step, ended-made}
use Rattle.tree_query.proofs.walk_steps.end.Goals as goal

pub step_29-requires-clause-named : goal.step_29-requires-clause-named
step_29-requires-clause-named c =
    let pass = c.args.pass.now in
    subst (λ (s : Config). c.number-number.result < s.passes) c.requires.of.sizes (number-below (view_of pass) c.number-number.result c.number-number.ensures pass.current)

pub step_29-requires-clause-asks : goal.step_29-requires-clause-asks
step_29-requires-clause-asks c = record { number = c.number-number.result; names = refl; pass = c.number-number.ensures; one = refl; walks = c.requires.walks }

pub returns-clause-ends : goal.returns-clause-ends
returns-clause-ends c = (
  c.number-number.result,
  c.step_29.result,
  c.number-number.ensures,
  walk-ended (view_of c.args.pass.now) (view_of c.step_29.new.pass) c.number-number.result c.step_29.result c.step_29.ensures.step,
)

pub returns-clause-step : goal.returns-clause-step
returns-clause-step c = ended-step (view_of c.args.pass.now) (view_of c.step_29.new.pass) c.number-number.result c.step_29.result c.step_29.ensures.step

pub returns-clause-made : goal.returns-clause-made
returns-clause-made c = ended-made (view_of c.args.pass.now) (view_of c.step_29.new.pass) c.number-number.result c.step_29.result c.step_29.ensures.step
