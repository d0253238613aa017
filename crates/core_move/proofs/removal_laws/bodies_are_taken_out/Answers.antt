use Rattle.core_move.proofs.PhaseStores.{Invariants-remove, GuardsHold-remove}
use Rattle.core_move.proofs.removal_laws.bodies_are_taken_out.Goals as goal

pub returns-clause-keeps : goal.returns-clause-keeps
returns-clause-keeps c = Invariants-remove

pub returns-clause-guarded : goal.returns-clause-guarded
returns-clause-guarded c = GuardsHold-remove
