use Rattle.core_batch.proofs.BatchGuards.{GuardsHold-attach}
use Rattle.core_batch.proofs.laws.attach_is_guarded.Goals as goal

pub returns : goal.returns
returns c = GuardsHold-attach
