use Rattle.tree_bounds.specs.Held.{bound_in}
use Rattle.tree_bounds.proofs.NodeHulls.{IsHullOfSome}
use Rattle.tree_bounds.proofs.hull.hull_of_node.Given as goal

abbrev pub invariant-loop-c : goal.invariant-loop-c
invariant-loop-c l = IsHullOfSome l.planner (bound_in l.bounds) l.node l.c l.hull
