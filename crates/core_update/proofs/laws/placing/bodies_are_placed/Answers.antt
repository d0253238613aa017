use Rattle.core_update.proofs.PlacedSteps.{Invariants-place_noted, GuardsHold-place_noted}
use Rattle.core_update.proofs.laws.placing.bodies_are_placed.Goals as goal

pub returns-clause-keeps : goal.returns-clause-keeps
returns-clause-keeps c = Invariants-place_noted

pub returns-clause-guarded : goal.returns-clause-guarded
returns-clause-guarded c = GuardsHold-place_noted
