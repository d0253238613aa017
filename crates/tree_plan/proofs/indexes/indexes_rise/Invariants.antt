use Rattle.tree_plan.proofs.Rising.{RisesTo}
use Rattle.tree_plan.proofs.indexes.indexes_rise.Given as goal

abbrev pub invariant-loop-i : goal.invariant-loop-i
invariant-loop-i l = RisesTo l.bodies l.i
