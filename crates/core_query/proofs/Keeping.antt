-- The group of steps of a walk keeps everything.
use Rattle.core_state.specs.Event.{WalkEvent, begins_walk, ends_walk, walks_slot, walks_main, walks_child, walks_bound}
use Rattle.core_state.specs.Keeping.{KeepsAll}
use Rattle.core_query.proofs.WalkSteps.{Invariants-begin_walk, Invariants-end_walk, GuardsHold-begin_walk, GuardsHold-end_walk}
use Rattle.core_query.proofs.WalkLoads.{Invariants-walk_slot, Invariants-walk_main, Invariants-walk_child, Invariants-walk_bound, GuardsHold-walk_slot, GuardsHold-walk_main, GuardsHold-walk_child, GuardsHold-walk_bound}

pub walks-keep : KeepsAll WalkEvent
walks-keep before after (begins_walk e) formed guards h = (Invariants-begin_walk before after e formed guards h, GuardsHold-begin_walk before after e formed h guards)
walks-keep before after (ends_walk e) formed guards h = (Invariants-end_walk before after e formed guards h, GuardsHold-end_walk before after e formed h guards)
walks-keep before after (walks_slot e) formed guards h = (Invariants-walk_slot before after e formed guards h, GuardsHold-walk_slot before after e formed h guards)
walks-keep before after (walks_main e) formed guards h = (Invariants-walk_main before after e formed guards h, GuardsHold-walk_main before after e formed h guards)
walks-keep before after (walks_child e) formed guards h = (Invariants-walk_child before after e formed guards h, GuardsHold-walk_child before after e formed h guards)
walks-keep before after (walks_bound e) formed guards h = (Invariants-walk_bound before after e formed guards h, GuardsHold-walk_bound before after e formed h guards)
