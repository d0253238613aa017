use Rattle.widen_bounds.proofs.move_op.MoveOp.widen.Given as goal

abbrev pub ghost-turn : goal.ghost-turn
ghost-turn g a = g.index
