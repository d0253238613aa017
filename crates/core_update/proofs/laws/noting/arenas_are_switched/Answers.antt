use Rattle.core_update.proofs.ArenaSwitches.{Invariants-switch_arena, GuardsHold-switch_arena}
use Rattle.core_update.proofs.laws.noting.arenas_are_switched.Goals as goal

pub returns-clause-keeps : goal.returns-clause-keeps
returns-clause-keeps c = Invariants-switch_arena

pub returns-clause-guarded : goal.returns-clause-guarded
returns-clause-guarded c = GuardsHold-switch_arena
