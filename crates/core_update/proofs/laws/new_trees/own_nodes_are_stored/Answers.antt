use Rattle.core_update.proofs.OwnersStore.{batch-stores, child-stores, bound-stores, parent-stores, last-stores}
use Rattle.core_update.proofs.laws.new_trees.own_nodes_are_stored.Goals as goal

pub returns-clause-batches : goal.returns-clause-batches
returns-clause-batches c = batch-stores

pub returns-clause-children : goal.returns-clause-children
returns-clause-children c = child-stores

pub returns-clause-bounds : goal.returns-clause-bounds
returns-clause-bounds c = bound-stores

pub returns-clause-parents : goal.returns-clause-parents
returns-clause-parents c = λ layer before after h formed. parent-stores before after h formed layer

pub returns-clause-last : goal.returns-clause-last
returns-clause-last c = λ layer before after h formed. last-stores before after h formed layer
