use Rattle.core_update.proofs.UpdateEnds.{Invariants-end_update, GuardsHold-end_update}
use Rattle.core_update.proofs.laws.noting.updates_end.Goals as goal

pub returns-clause-keeps : goal.returns-clause-keeps
returns-clause-keeps c = Invariants-end_update

pub returns-clause-guarded : goal.returns-clause-guarded
returns-clause-guarded c = GuardsHold-end_update
