use Rattle.core_update.proofs.Stacked.{top-low}
use Rattle.core_update.proofs.laws.retiring.returned_nodes_have_ten_levels.Goals as goal

pub returns : goal.returns
returns c = top-low
