use Rattle.widen_bounds.proofs.climbing.Climb.widen_low.Given as goal

abbrev pub ghost-step_34 : goal.ghost-step_34
ghost-step_34 g a = g.index
