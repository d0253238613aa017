use Rattle.core_update.proofs.FirstStores.{Invariants-promote, GuardsHold-promote}
use Rattle.core_update.proofs.laws.promotions.bodies_are_promoted.Goals as goal

pub returns-clause-keeps : goal.returns-clause-keeps
returns-clause-keeps c = Invariants-promote

pub returns-clause-guarded : goal.returns-clause-guarded
returns-clause-guarded c = GuardsHold-promote
