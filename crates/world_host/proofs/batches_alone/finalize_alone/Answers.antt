use Rattle.world_host.proofs.EndedBatches.{was-attached}
use Rattle.world_host.proofs.batches_alone.finalize_alone.Goals as goal

pub returns-clause-attached : goal.returns-clause-attached
returns-clause-attached c =
    let t = c.finalize.ensures.attached in
    (t.0, t.1, was-attached c.args.pass.now c.finalize.new.pass c.requires.lone.one t.0 t.2)
