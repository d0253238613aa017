use Rattle.widen_bounds.proofs.moving_guarded.move_free.Given as goal

abbrev pub ghost-widen_all : goal.ghost-widen_all
ghost-widen_all g a = g.index
