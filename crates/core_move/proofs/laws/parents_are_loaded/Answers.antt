use Rattle.core_move.proofs.ParentLoads.{Invariants-load_parent_moving, GuardsHold-load_parent_moving}
use Rattle.core_move.proofs.laws.parents_are_loaded.Goals as goal

pub returns-clause-keeps : goal.returns-clause-keeps
returns-clause-keeps c = Invariants-load_parent_moving

pub returns-clause-guarded : goal.returns-clause-guarded
returns-clause-guarded c = GuardsHold-load_parent_moving
