use Rattle.core_update.proofs.SecondLoads.{Invariants-find_second, GuardsHold-find_second}
use Rattle.core_update.proofs.laws.promotions.second_locations_are_found.Goals as goal

pub returns-clause-keeps : goal.returns-clause-keeps
returns-clause-keeps c = Invariants-find_second

pub returns-clause-guarded : goal.returns-clause-guarded
returns-clause-guarded c = GuardsHold-find_second
