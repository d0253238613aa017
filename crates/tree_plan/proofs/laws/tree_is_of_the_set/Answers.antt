use Rattle.tree_plan.proofs.Standing.{tree-permutation}
use Rattle.tree_plan.proofs.laws.tree_is_of_the_set.Goals as goal

pub returns : goal.returns
returns c = tree-permutation
