use Rattle.tree_bounds.proofs.Sets.{AreBoundsOf-permutation}
use Rattle.tree_bounds.proofs.laws.bounds_are_of_the_set.Goals as goal

pub returns : goal.returns
returns c = AreBoundsOf-permutation
