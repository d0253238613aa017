use Rattle.tree_query.proofs.check_op.Check.turn.Goals as goal

pub returns-in-Taking-clause-turn : goal.returns-in-Taking-clause-turn
returns-in-Taking-clause-turn c = c.take.ensures.turn c.args.shape.now c.args.mask

pub returns-in-Striped-clause-turn : goal.returns-in-Striped-clause-turn
returns-in-Striped-clause-turn c = c.load_state.ensures.turn c.args.shape.now c.args.mask

pub returns-in-Live-clause-turn : goal.returns-in-Live-clause-turn
returns-in-Live-clause-turn c = c.load_phase.ensures.turn c.args.shape.now c.args.mask

pub returns-in-Joining-clause-turn : goal.returns-in-Joining-clause-turn
returns-in-Joining-clause-turn c = c.load_layer_joined.ensures.turn c.args.shape.now c.args.mask

pub returns-in-Placed-clause-turn : goal.returns-in-Placed-clause-turn
returns-in-Placed-clause-turn c = c.load_slot.ensures.turn c.args.shape.now

pub returns-in-Inside-clause-turn : goal.returns-in-Inside-clause-turn
returns-in-Inside-clause-turn c = c.load_layer.ensures.turn c.args.shape.now

pub returns-in-Sides-clause-turn : goal.returns-in-Sides-clause-turn
returns-in-Sides-clause-turn c = c.load_side.ensures.turn c.args.mask

pub returns-in-Leaving-clause-turn : goal.returns-in-Leaving-clause-turn
returns-in-Leaving-clause-turn c = c.leave.ensures.turn c.args.shape.now c.args.mask
