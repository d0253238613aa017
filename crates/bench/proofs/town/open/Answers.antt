use Rattle.bench.proofs.town.open.Goals as goal

pub returns-clause-idle : goal.returns-clause-idle
returns-clause-idle c = c.in_ok-pass.ensures.idle c.in-Ok.world c.in-Ok.ensures.idle
