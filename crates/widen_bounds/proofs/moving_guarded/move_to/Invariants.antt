use Rattle.widen_bounds.proofs.moving_guarded.move_to.Given as goal

abbrev pub ghost-move_free : goal.ghost-move_free
ghost-move_free a = a.id.index
