use Rattle.core_update.proofs.Unreached.{new-nodes-owned}
use Rattle.core_update.proofs.laws.retiring.new_nodes_are_owned.Goals as goal

pub returns : goal.returns
returns c = new-nodes-owned
