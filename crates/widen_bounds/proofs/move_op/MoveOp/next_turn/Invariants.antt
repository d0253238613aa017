use Rattle.widen_bounds.proofs.move_op.MoveOp.next_turn.Given as goal

abbrev pub ghost-widen : goal.ghost-widen
ghost-widen a = a.self.now.id.index
