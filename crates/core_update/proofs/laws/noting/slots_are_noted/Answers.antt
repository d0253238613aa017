use Rattle.core_update.proofs.SlotNotes.{Invariants-note_slot, GuardsHold-note_slot}
use Rattle.core_update.proofs.laws.noting.slots_are_noted.Goals as goal

pub returns-clause-keeps : goal.returns-clause-keeps
returns-clause-keeps c = Invariants-note_slot

pub returns-clause-guarded : goal.returns-clause-guarded
returns-clause-guarded c = GuardsHold-note_slot
