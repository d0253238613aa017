-- The group of steps of a removal keeps everything.
use Rattle.core_state.specs.Event.{RemovalEvent, removes, clears_entry, clears_location}
use Rattle.core_state.specs.Keeping.{KeepsAll}
use Rattle.core_move.proofs.PhaseStores.{Invariants-remove, GuardsHold-remove}
use Rattle.core_move.proofs.EntryStores.{Invariants-clear_entry, GuardsHold-clear_entry}
use Rattle.core_move.proofs.LocationStores.{Invariants-clear_location, GuardsHold-clear_location}

pub removals-keep : KeepsAll RemovalEvent
removals-keep before after (removes e) formed guards h = (Invariants-remove before after e formed guards h, GuardsHold-remove before after e formed h guards)
removals-keep before after (clears_entry e) formed guards h = (Invariants-clear_entry before after e formed guards h, GuardsHold-clear_entry before after e formed h guards)
removals-keep before after (clears_location e) formed guards h = (Invariants-clear_location before after e formed guards h, GuardsHold-clear_location before after e formed h guards)
