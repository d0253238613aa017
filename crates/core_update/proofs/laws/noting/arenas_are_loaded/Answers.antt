use Rattle.core_update.proofs.ArenaLoads.{Invariants-load_arena, GuardsHold-load_arena}
use Rattle.core_update.proofs.laws.noting.arenas_are_loaded.Goals as goal

pub returns-clause-keeps : goal.returns-clause-keeps
returns-clause-keeps c = Invariants-load_arena

pub returns-clause-guarded : goal.returns-clause-guarded
returns-clause-guarded c = GuardsHold-load_arena
