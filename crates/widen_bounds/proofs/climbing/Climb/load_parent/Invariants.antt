use Rattle.widen_bounds.proofs.climbing.Climb.load_parent.Given as goal

abbrev pub ghost-step_36 : goal.ghost-step_36
ghost-step_36 g a = g.index
