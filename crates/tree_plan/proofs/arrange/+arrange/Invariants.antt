use Rattle.std.proofs.Common.{length}
use Rattle.tree_plan.proofs.arrange.+arrange.Given as goal

abbrev pub decreases-arrange : goal.decreases-arrange
decreases-arrange l = length l.bodies.now
