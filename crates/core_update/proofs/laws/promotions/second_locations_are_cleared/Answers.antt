use Rattle.core_update.proofs.SecondClears.{Invariants-clear_second, GuardsHold-clear_second}
use Rattle.core_update.proofs.laws.promotions.second_locations_are_cleared.Goals as goal

pub returns-clause-keeps : goal.returns-clause-keeps
returns-clause-keeps c = Invariants-clear_second

pub returns-clause-guarded : goal.returns-clause-guarded
returns-clause-guarded c = GuardsHold-clear_second
