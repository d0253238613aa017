use Rattle.core_update.proofs.NextReturned.{Invariants-load_returned, GuardsHold-load_returned}
use Rattle.core_update.proofs.laws.retiring.returned_nodes_are_looked_at.Goals as goal

pub returns-clause-keeps : goal.returns-clause-keeps
returns-clause-keeps c = Invariants-load_returned

pub returns-clause-guarded : goal.returns-clause-guarded
returns-clause-guarded c = GuardsHold-load_returned
