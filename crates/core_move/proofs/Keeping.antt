-- The group of steps of a move keeps everything.
use Rattle.core_state.specs.Event.{MoveEvent, widens_low, widens_high, loads_parent, stores_side, stores_last_side}
use Rattle.core_state.specs.Keeping.{KeepsAll}
use Rattle.core_move.proofs.ParentLoads.{Invariants-load_parent_moving, GuardsHold-load_parent_moving}
use Rattle.core_move.proofs.WidenSteps.{Invariants-widen_low, Invariants-widen_high, GuardsHold-widen_low, GuardsHold-widen_high}
use Rattle.core_move.proofs.SideStores.{Invariants-store_side, GuardsHold-store_side}
use Rattle.core_move.proofs.LastStores.{Invariants-store_last_side, GuardsHold-store_last_side}

pub moves-keep : KeepsAll MoveEvent
moves-keep before after (widens_low index e) formed guards h = (Invariants-widen_low index before after e formed guards h, GuardsHold-widen_low index before after e formed h guards)
moves-keep before after (widens_high index e) formed guards h = (Invariants-widen_high index before after e formed guards h, GuardsHold-widen_high index before after e formed h guards)
moves-keep before after (loads_parent index e) formed guards h = (Invariants-load_parent_moving index before after e formed guards h, GuardsHold-load_parent_moving index before after e formed h guards)
moves-keep before after (stores_side e) formed guards h = (Invariants-store_side before after e formed guards h, GuardsHold-store_side before after e formed h guards)
moves-keep before after (stores_last_side e) formed guards h = (Invariants-store_last_side before after e formed guards h, GuardsHold-store_last_side before after e formed h guards)
