use Rattle.core_batch.proofs.AttachKeep.{Invariants-attach}
use Rattle.core_batch.proofs.laws.attach_keeps_all.Goals as goal

pub returns : goal.returns
returns c = Invariants-attach
