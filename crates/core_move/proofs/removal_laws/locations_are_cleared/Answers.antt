use Rattle.core_move.proofs.LocationStores.{Invariants-clear_location, GuardsHold-clear_location}
use Rattle.core_move.proofs.removal_laws.locations_are_cleared.Goals as goal

pub returns-clause-keeps : goal.returns-clause-keeps
returns-clause-keeps c = Invariants-clear_location

pub returns-clause-guarded : goal.returns-clause-guarded
returns-clause-guarded c = GuardsHold-clear_location
