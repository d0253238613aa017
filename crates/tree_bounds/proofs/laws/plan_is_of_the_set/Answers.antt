use Rattle.tree_bounds.proofs.Sets.{IsPlanOf-permutation}
use Rattle.tree_bounds.proofs.laws.plan_is_of_the_set.Goals as goal

pub returns : goal.returns
returns c = IsPlanOf-permutation
