use Rattle.query_tests.proofs.crowds.open_three.Goals as goal

pub returns-clause-first : goal.returns-clause-first
returns-clause-first c = c.in_ok-first.ensures.idle c.in-Ok.world c.in-Ok.ensures.idle

pub returns-clause-second : goal.returns-clause-second
returns-clause-second c = c.in_ok-second.ensures.idle c.in-Ok.world (c.in_ok-first.ensures.others c.in-Ok.world c.in-Ok.ensures.idle)

pub returns-clause-third : goal.returns-clause-third
returns-clause-third c =
    let one = c.in_ok-first.ensures.others c.in-Ok.world c.in-Ok.ensures.idle in
    c.in_ok-third.ensures.idle c.in-Ok.world (c.in_ok-second.ensures.others c.in-Ok.world one)
