use Rattle.std.proofs.Common.{sym, ◌∙◌}
use Rattle.tree_bounds.proofs.FirstChildren.{below_later, first_there}
use Rattle.tree_bounds.proofs.tree_bounds.bound_of_child.Goals as goal

pub hull_of_node-requires-clause-node : goal.hull_of_node-requires-clause-node
hull_of_node-requires-clause-node c =
    (below_later c.requires.planned.0 c.args.planner.now c.requires.planned.1 c.args.node c.args.c c.in-Node.below c.requires.node c.requires.child (sym c.child.ensures ∙ c.in-Node.is)).1

pub hull_of_node-requires-clause-first : goal.hull_of_node-requires-clause-first
hull_of_node-requires-clause-first c =
    let below = below_later c.requires.planned.0 c.args.planner.now c.requires.planned.1 c.args.node c.args.c c.in-Node.below c.requires.node c.requires.child (sym c.child.ensures ∙ c.in-Node.is) in
    first_there c.requires.planned.0 c.args.planner.now c.requires.planned.1 c.in-Node.below below.1
