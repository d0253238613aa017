use Rattle.core_batch.proofs.BatchGuards.{GuardsHold-reserve, GuardsHold-let_slot_go, GuardsHold-store_node, GuardsHold-store_pool_link, GuardsHold-store_pool_head, GuardsHold-store_pool_count}
use Rattle.core_batch.proofs.laws.slots_and_nodes_are_guarded.Goals as goal

pub returns-clause-reserves : goal.returns-clause-reserves
returns-clause-reserves c = GuardsHold-reserve

pub returns-clause-goes : goal.returns-clause-goes
returns-clause-goes c = GuardsHold-let_slot_go

pub returns-clause-nodes : goal.returns-clause-nodes
returns-clause-nodes c = GuardsHold-store_node

pub returns-clause-links : goal.returns-clause-links
returns-clause-links c = GuardsHold-store_pool_link

pub returns-clause-heads : goal.returns-clause-heads
returns-clause-heads c = GuardsHold-store_pool_head

pub returns-clause-counts : goal.returns-clause-counts
returns-clause-counts c = GuardsHold-store_pool_count
