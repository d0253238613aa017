use Rattle.widen_bounds.proofs.climbing.Climb.widen_high.Given as goal

abbrev pub ghost-step_35 : goal.ghost-step_35
ghost-step_35 g a = g.index
