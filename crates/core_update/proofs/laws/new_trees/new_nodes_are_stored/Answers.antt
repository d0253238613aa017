use Rattle.core_update.proofs.NewChildren.{Invariants-store_new_child, Invariants-store_new_bound, GuardsHold-store_new_child, GuardsHold-store_new_bound}
use Rattle.core_update.proofs.laws.new_trees.new_nodes_are_stored.Goals as goal

pub returns-clause-children : goal.returns-clause-children
returns-clause-children c = Invariants-store_new_child

pub returns-clause-bounds : goal.returns-clause-bounds
returns-clause-bounds c = Invariants-store_new_bound

pub returns-clause-children_guarded : goal.returns-clause-children_guarded
returns-clause-children_guarded c = GuardsHold-store_new_child

pub returns-clause-bounds_guarded : goal.returns-clause-bounds_guarded
returns-clause-bounds_guarded c = GuardsHold-store_new_bound
