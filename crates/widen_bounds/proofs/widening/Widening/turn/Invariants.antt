use Rattle.widen_bounds.proofs.widening.Widening.turn.Given as goal

abbrev pub ghost-on_first : goal.ghost-on_first
ghost-on_first g a = g.index

abbrev pub ghost-on_second : goal.ghost-on_second
ghost-on_second g a = g.index
