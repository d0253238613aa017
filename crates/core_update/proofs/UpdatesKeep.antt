-- Each event of an update keeps the invariants, and what passes have for themselves.
use Rattle.core_state.specs.Keeping.{KeepsAll}
use Rattle.core_update.proofs.ArenaLoads.{Invariants-load_arena, GuardsHold-load_arena}
use Rattle.core_update.proofs.ArenaSwitches.{Invariants-switch_arena, GuardsHold-switch_arena}
use Rattle.core_update.proofs.BodyNotes.{Invariants-look_at_body, GuardsHold-look_at_body}
use Rattle.core_update.proofs.FirstStores.{Invariants-promote, GuardsHold-promote}
use Rattle.core_update.proofs.GivenUpSteps.{Invariants-give_up, GuardsHold-give_up}
use Rattle.core_update.proofs.MainNodes.{Invariants-exchange_main}
use Rattle.core_update.proofs.NewChildren.{Invariants-store_new_child, GuardsHold-store_new_child, Invariants-store_new_bound, GuardsHold-store_new_bound}
use Rattle.core_update.proofs.NewParents.{Invariants-store_new_parent, GuardsHold-store_new_parent}
use Rattle.core_update.proofs.NextReturned.{Invariants-load_returned, GuardsHold-load_returned}
use Rattle.core_update.proofs.PlacedPhases.{Invariants-place_phase, GuardsHold-place_phase}
use Rattle.core_update.proofs.PlacedSteps.{Invariants-place_noted, GuardsHold-place_noted}
use Rattle.core_update.proofs.PlacingLoads.{Invariants-load_parent_placing, GuardsHold-load_parent_placing}
use Rattle.core_update.proofs.PlacingWidens.{Invariants-widen_low_placing, GuardsHold-widen_low_placing, Invariants-widen_high_placing, GuardsHold-widen_high_placing}
use Rattle.core_update.proofs.PlanSteps.{Invariants-finish_plan, GuardsHold-finish_plan}
use Rattle.core_update.proofs.PublishGuards.{GuardsHold-exchange_main, GuardsHold-clear_slot}
use Rattle.core_update.proofs.ReaderLoads.{GuardsHold-load_reader}
use Rattle.core_update.proofs.Reclaims.{Invariants-load_reader}
use Rattle.core_update.proofs.ReturnedHeads.{Invariants-give_returned, GuardsHold-give_returned}
use Rattle.core_update.proofs.ReturnedLinks.{Invariants-link_returned, GuardsHold-link_returned}
use Rattle.core_update.proofs.SecondClears.{Invariants-clear_second, GuardsHold-clear_second}
use Rattle.core_update.proofs.SecondLoads.{Invariants-find_second, GuardsHold-find_second}
use Rattle.core_update.proofs.SlotClears.{Invariants-clear_slot}
use Rattle.core_update.proofs.SlotNotes.{Invariants-note_slot, GuardsHold-note_slot}
use Rattle.core_update.proofs.UpdateBegins.{Invariants-begin_update, GuardsHold-begin_update}
use Rattle.core_update.proofs.UpdateEnds.{Invariants-end_update, GuardsHold-end_update}
use Rattle.core_state.specs.UpdateEvent.{UpdateEvent, begins_update, loads_arena, notes_slot, looks_at_body, stores_new_child, stores_new_bound, stores_new_parent, finishes_plan, loads_parent_to_place, widens_low_to_place, widens_high_to_place, places_noted, places_phase, gives_up, exchanges_main, clears_slot, promotes, clears_second, finds_second, loads_reader, loads_returned, links_returned, gives_returned, switches_arena, ends_update}

pub updates-keep : KeepsAll UpdateEvent
updates-keep before after (begins_update e) formed guards h = (Invariants-begin_update before after e formed guards h, GuardsHold-begin_update before after e formed h guards)
updates-keep before after (loads_arena e) formed guards h = (Invariants-load_arena before after e formed guards h, GuardsHold-load_arena before after e formed h guards)
updates-keep before after (notes_slot e) formed guards h = (Invariants-note_slot before after e formed guards h, GuardsHold-note_slot before after e formed h guards)
updates-keep before after (looks_at_body e) formed guards h = (Invariants-look_at_body before after e formed guards h, GuardsHold-look_at_body before after e formed h guards)
updates-keep before after (stores_new_child e) formed guards h = (Invariants-store_new_child before after e formed guards h, GuardsHold-store_new_child before after e formed h guards)
updates-keep before after (stores_new_bound e) formed guards h = (Invariants-store_new_bound before after e formed guards h, GuardsHold-store_new_bound before after e formed h guards)
updates-keep before after (stores_new_parent layer e) formed guards h = (Invariants-store_new_parent layer before after e formed guards h, GuardsHold-store_new_parent layer before after e formed h guards)
updates-keep before after (finishes_plan layer e) formed guards h = (Invariants-finish_plan layer before after e formed guards h, GuardsHold-finish_plan layer before after e formed h guards)
updates-keep before after (loads_parent_to_place index e) formed guards h = (Invariants-load_parent_placing index before after e formed guards h, GuardsHold-load_parent_placing index before after e formed h guards)
updates-keep before after (widens_low_to_place index e) formed guards h = (Invariants-widen_low_placing index before after e formed guards h, GuardsHold-widen_low_placing index before after e formed h guards)
updates-keep before after (widens_high_to_place index e) formed guards h = (Invariants-widen_high_placing index before after e formed guards h, GuardsHold-widen_high_placing index before after e formed h guards)
updates-keep before after (places_noted e) formed guards h = (Invariants-place_noted before after e formed guards h, GuardsHold-place_noted before after e formed h guards)
updates-keep before after (places_phase e) formed guards h = (Invariants-place_phase before after e formed guards h, GuardsHold-place_phase before after e formed h guards)
updates-keep before after (gives_up index e) formed guards h = (Invariants-give_up index before after e formed guards h, GuardsHold-give_up index before after e formed h guards)
updates-keep before after (exchanges_main e) formed guards h = (Invariants-exchange_main before after e formed guards h, GuardsHold-exchange_main before after e formed h guards)
updates-keep before after (clears_slot e) formed guards h = (Invariants-clear_slot before after e formed guards h, GuardsHold-clear_slot before after e formed h guards)
updates-keep before after (promotes e) formed guards h = (Invariants-promote before after e formed guards h, GuardsHold-promote before after e formed h guards)
updates-keep before after (clears_second e) formed guards h = (Invariants-clear_second before after e formed guards h, GuardsHold-clear_second before after e formed h guards)
updates-keep before after (finds_second e) formed guards h = (Invariants-find_second before after e formed guards h, GuardsHold-find_second before after e formed h guards)
updates-keep before after (loads_reader e) formed guards h = (Invariants-load_reader before after e formed guards h, GuardsHold-load_reader before after e formed h guards)
updates-keep before after (loads_returned e) formed guards h = (Invariants-load_returned before after e formed guards h, GuardsHold-load_returned before after e formed h guards)
updates-keep before after (links_returned e) formed guards h = (Invariants-link_returned before after e formed guards h, GuardsHold-link_returned before after e formed h guards)
updates-keep before after (gives_returned e) formed guards h = (Invariants-give_returned before after e formed guards h, GuardsHold-give_returned before after e formed h guards)
updates-keep before after (switches_arena e) formed guards h = (Invariants-switch_arena before after e formed guards h, GuardsHold-switch_arena before after e formed h guards)
updates-keep before after (ends_update e) formed guards h = (Invariants-end_update before after e formed guards h, GuardsHold-end_update before after e formed h guards)
