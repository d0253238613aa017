use Rattle.world_host.proofs.EndedBatches.{was-given_up}
use Rattle.world_host.proofs.batches_alone.abort_alone.Goals as goal

pub returns-clause-given_up : goal.returns-clause-given_up
returns-clause-given_up g c =
    let t = c.abort.ensures.aborted in
    (t.0, t.1, was-given_up c.args.pass.now c.abort.new.pass c.requires.lone.one t.0 t.2)
