use Rattle.core_update.proofs.PlacedPhases.{Invariants-place_phase, GuardsHold-place_phase}
use Rattle.core_update.proofs.laws.placing.phases_of_placed_bodies_are_stored.Goals as goal

pub returns-clause-keeps : goal.returns-clause-keeps
returns-clause-keeps c = Invariants-place_phase

pub returns-clause-guarded : goal.returns-clause-guarded
returns-clause-guarded c = GuardsHold-place_phase
