-- The groups of steps on batches and on the pool keep everything.
use Rattle.std.proofs.Common.{refl}
use Rattle.core_state.specs.Event.{BatchEvent, loads_slot, reserves, marks, stores_node, places, attaches, takes_back, unmarks, lets_slot_go, PoolEvent, stores_pool_link, stores_pool_head, stores_pool_count}
use Rattle.core_state.specs.Keeping.{KeepsAll}
use Rattle.core_state.proofs.Guarding.{GuardsHold-load}
use Rattle.core_state.proofs.Keeping.{Invariants-unseen, load-unseen, load_slot-plain}
use Rattle.core_batch.proofs.AttachKeep.{Invariants-attach}
use Rattle.core_batch.proofs.HeldKeep.{Invariants-mark, Invariants-unmark, Invariants-place_body, Invariants-take_back}
use Rattle.core_batch.proofs.PoolKeep.{Invariants-reserve, Invariants-let_slot_go, Invariants-store_node, Invariants-store_pool_link, Invariants-store_pool_head, Invariants-store_pool_count}
use Rattle.core_batch.proofs.BatchGuards.{GuardsHold-reserve, GuardsHold-let_slot_go, GuardsHold-store_node, GuardsHold-store_pool_link, GuardsHold-store_pool_head, GuardsHold-store_pool_count, GuardsHold-mark, GuardsHold-unmark, GuardsHold-place_body, GuardsHold-take_back, GuardsHold-attach}

pub batches-keep : KeepsAll BatchEvent
batches-keep before after (loads_slot e) formed guards h = (Invariants-unseen before after (load-unseen _ _ before after load_slot-plain e) h, GuardsHold-load _ _ before after (λ found first. refl) e guards)
batches-keep before after (reserves e) formed guards h = (Invariants-reserve before after e formed guards h, GuardsHold-reserve before after e formed h guards)
batches-keep before after (marks e) formed guards h = (Invariants-mark before after e formed guards h, GuardsHold-mark before after e formed h guards)
batches-keep before after (stores_node e) formed guards h = (Invariants-store_node before after e formed guards h, GuardsHold-store_node before after e formed h guards)
batches-keep before after (places e) formed guards h = (Invariants-place_body before after e formed guards h, GuardsHold-place_body before after e formed h guards)
batches-keep before after (attaches e) formed guards h = (Invariants-attach before after e formed guards h, GuardsHold-attach before after e formed h guards)
batches-keep before after (takes_back e) formed guards h = (Invariants-take_back before after e formed guards h, GuardsHold-take_back before after e formed h guards)
batches-keep before after (unmarks e) formed guards h = (Invariants-unmark before after e formed guards h, GuardsHold-unmark before after e formed h guards)
batches-keep before after (lets_slot_go e) formed guards h = (Invariants-let_slot_go before after e formed guards h, GuardsHold-let_slot_go before after e formed h guards)

pub pool-keep : KeepsAll PoolEvent
pool-keep before after (stores_pool_link e) formed guards h = (Invariants-store_pool_link before after e formed guards h, GuardsHold-store_pool_link before after e formed h guards)
pool-keep before after (stores_pool_head e) formed guards h = (Invariants-store_pool_head before after e formed guards h, GuardsHold-store_pool_head before after e formed h guards)
pool-keep before after (stores_pool_count e) formed guards h = (Invariants-store_pool_count before after e formed guards h, GuardsHold-store_pool_count before after e formed h guards)
