use Rattle.std.proofs.Common.{◌∙◌}
use Rattle.pass_table.specs.Passes.{view_of}
use Rattle.batch_add.proofs.GiveBodies.{body-placed, has-none}
use Rattle.batch_add.proofs.kept_batch.KeptBatch.clear.Goals as goal

pub returns-then-not-self-clause-leads : goal.returns-then-not-self-clause-leads
returns-then-not-self-clause-leads c start before batch after begun at =
    let kept = c.args.self.now in (
      at.0,
      has-none start before batch after kept begun (view_of c.args.pass.now) c.args.done at.0 (body-placed kept batch begun.keeps c.args.done at.0 ∙ c.if-not-self.true) at.1,
    )

pub returns-clause-leads : goal.returns-clause-leads
returns-clause-leads c = c.take_back.ensures.step.leads
