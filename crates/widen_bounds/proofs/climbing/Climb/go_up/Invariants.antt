use Rattle.widen_bounds.proofs.climbing.Climb.go_up.Given as goal

abbrev pub ghost-widen_low : goal.ghost-widen_low
ghost-widen_low g a = g.index

abbrev pub ghost-widen_high : goal.ghost-widen_high
ghost-widen_high g a = g.index

abbrev pub ghost-load_parent : goal.ghost-load_parent
ghost-load_parent g a = g.index
