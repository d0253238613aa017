use Rattle.core_move.proofs.EntryStores.{Invariants-clear_entry, GuardsHold-clear_entry}
use Rattle.core_move.proofs.removal_laws.entries_are_cleared.Goals as goal

pub returns-clause-keeps : goal.returns-clause-keeps
returns-clause-keeps c = Invariants-clear_entry

pub returns-clause-guarded : goal.returns-clause-guarded
returns-clause-guarded c = GuardsHold-clear_entry
