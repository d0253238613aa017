use Rattle.widen_bounds.proofs.widening.Widening.on_second.Given as goal

abbrev pub ghost-go_up : goal.ghost-go_up
ghost-go_up g a = g.index
