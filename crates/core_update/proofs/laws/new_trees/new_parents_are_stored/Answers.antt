use Rattle.core_update.proofs.NewParents.{Invariants-store_new_parent, GuardsHold-store_new_parent}
use Rattle.core_update.proofs.PlanSteps.{Invariants-finish_plan, GuardsHold-finish_plan}
use Rattle.core_update.proofs.laws.new_trees.new_parents_are_stored.Goals as goal

pub returns-clause-parents : goal.returns-clause-parents
returns-clause-parents c = Invariants-store_new_parent

pub returns-clause-last : goal.returns-clause-last
returns-clause-last c = Invariants-finish_plan

pub returns-clause-parents_guarded : goal.returns-clause-parents_guarded
returns-clause-parents_guarded c = GuardsHold-store_new_parent

pub returns-clause-last_guarded : goal.returns-clause-last_guarded
returns-clause-last_guarded c = GuardsHold-finish_plan
