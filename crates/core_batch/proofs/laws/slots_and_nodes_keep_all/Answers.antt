use Rattle.core_batch.proofs.PoolKeep.{Invariants-reserve, Invariants-let_slot_go, Invariants-store_node, Invariants-store_pool_link, Invariants-store_pool_head, Invariants-store_pool_count}
use Rattle.core_batch.proofs.laws.slots_and_nodes_keep_all.Goals as goal

pub returns-clause-reserves : goal.returns-clause-reserves
returns-clause-reserves c = Invariants-reserve

pub returns-clause-goes : goal.returns-clause-goes
returns-clause-goes c = Invariants-let_slot_go

pub returns-clause-nodes : goal.returns-clause-nodes
returns-clause-nodes c = Invariants-store_node

pub returns-clause-links : goal.returns-clause-links
returns-clause-links c = Invariants-store_pool_link

pub returns-clause-heads : goal.returns-clause-heads
returns-clause-heads c = Invariants-store_pool_head

pub returns-clause-counts : goal.returns-clause-counts
returns-clause-counts c = Invariants-store_pool_count
