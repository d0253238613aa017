use Rattle.core_update.proofs.PlacingLoads.{Invariants-load_parent_placing, GuardsHold-load_parent_placing}
use Rattle.core_update.proofs.laws.placing.parents_are_loaded_to_place.Goals as goal

pub returns-clause-keeps : goal.returns-clause-keeps
returns-clause-keeps c = Invariants-load_parent_placing

pub returns-clause-guarded : goal.returns-clause-guarded
returns-clause-guarded c = GuardsHold-load_parent_placing
