-- The groups of steps on locks, lists and bodies keep everything.
use Rattle.std.proofs.Common.{refl}
use Rattle.core_state.specs.Event.{LockEvent, loads_lock, takes_read, takes_write, releases, ListEvent, loads_list, stores_link, stores_head, BodyEvent, stores_field, creates, destroys, loads_body, sets_user}
use Rattle.core_state.specs.Keeping.{KeepsAll}
use Rattle.core_state.proofs.Guarding.{GuardsHold-load, GuardsHold-lock}
use Rattle.core_state.proofs.Keeping.{Invariants-unseen, load-unseen, load_lock-plain, load_list-plain, load_body-plain}
use Rattle.core_guard.proofs.LockKeep.{Invariants-reads, Invariants-writes, Invariants-releases}
use Rattle.core_guard.proofs.ListSteps.{Invariants-store_link, Invariants-store_head}
use Rattle.core_guard.proofs.LivesKeep.{Invariants-store_field, Invariants-create, Invariants-destroy, Invariants-set_user}
use Rattle.core_guard.proofs.LivesGuarded.{GuardsHold-store_link, GuardsHold-store_head, GuardsHold-store_field, GuardsHold-create, GuardsHold-destroy, GuardsHold-set_user}

pub locks-keep : KeepsAll LockEvent
locks-keep before after (loads_lock e) formed guards h = (Invariants-unseen before after (load-unseen _ _ before after load_lock-plain e) h, GuardsHold-load _ _ before after (λ found first. refl) e guards)
locks-keep before after (takes_read e) formed guards h = (Invariants-reads before after e h, GuardsHold-lock _ _ before after (λ view name first second asked. (asked.lock, asked.names)) e guards)
locks-keep before after (takes_write e) formed guards h = (Invariants-writes before after e h, GuardsHold-lock _ _ before after (λ view name first second asked. (asked.lock, asked.names)) e guards)
locks-keep before after (releases e) formed guards h = (Invariants-releases before after formed e h, GuardsHold-lock _ _ before after (λ view name first second asked. (asked.lock, asked.names)) e guards)

pub lists-keep : KeepsAll ListEvent
lists-keep before after (loads_list e) formed guards h = (Invariants-unseen before after (load-unseen _ _ before after load_list-plain e) h, GuardsHold-load _ _ before after (λ found first. refl) e guards)
lists-keep before after (stores_link e) formed guards h = (Invariants-store_link before after e formed guards h, GuardsHold-store_link before after e formed h guards)
lists-keep before after (stores_head e) formed guards h = (Invariants-store_head before after e formed guards h, GuardsHold-store_head before after e formed h guards)

pub bodies-keep : KeepsAll BodyEvent
bodies-keep before after (stores_field e) formed guards h = (Invariants-store_field before after e formed guards h, GuardsHold-store_field before after e formed h guards)
bodies-keep before after (creates e) formed guards h = (Invariants-create before after e formed guards h, GuardsHold-create before after e formed h guards)
bodies-keep before after (destroys e) formed guards h = (Invariants-destroy before after e formed guards h, GuardsHold-destroy before after e formed h guards)
bodies-keep before after (loads_body e) formed guards h = (Invariants-unseen before after (load-unseen _ _ before after load_body-plain e) h, GuardsHold-load _ _ before after (λ found first. refl) e guards)
bodies-keep before after (sets_user e) formed guards h = (Invariants-set_user before after e formed guards h, GuardsHold-set_user before after e formed h guards)
