use Rattle.tree_query.proofs.checks.Checks.turn.Goals as goal

pub returns-else-self-clause-turn : goal.returns-else-self-clause-turn
returns-else-self-clause-turn c = c.pick.ensures.turn c.args.shape.now c.args.mask
