use Rattle.core_update.proofs.PublishGuards.{GuardsHold-clear_slot}
use Rattle.core_update.proofs.SlotClears.{Invariants-clear_slot}
use Rattle.core_update.proofs.laws.exchanges.slots_are_cleared.Goals as goal

pub returns-clause-keeps : goal.returns-clause-keeps
returns-clause-keeps c = Invariants-clear_slot

pub returns-clause-guarded : goal.returns-clause-guarded
returns-clause-guarded c = GuardsHold-clear_slot
