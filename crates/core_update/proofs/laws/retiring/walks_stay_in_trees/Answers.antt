use Rattle.core_update.proofs.Unreached.{walks-in-trees}
use Rattle.core_update.proofs.laws.retiring.walks_stay_in_trees.Goals as goal

pub returns : goal.returns
returns c = walks-in-trees
