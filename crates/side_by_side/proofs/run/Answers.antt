use Rattle.side_by_side.proofs.run.Goals as goal

pub play-requires-clause-idle : goal.play-requires-clause-idle
play-requires-clause-idle g c = c.in_ok-pass.ensures.idle c.in-Ok.world c.in-Ok.ensures.idle
