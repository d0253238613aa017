use Rattle.core_update.proofs.NewChildren.{new_bound-widens}
use Rattle.core_update.proofs.laws.new_trees.new_bounds_leave_trees.Goals as goal

pub returns : goal.returns
returns c = new_bound-widens
