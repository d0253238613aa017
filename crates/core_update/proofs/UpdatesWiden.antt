-- Each event of an update leaves each bound of a node that stands as wide as it was.
use Rattle.std.proofs.Common.{refl}
use Rattle.word_map.specs.declared.name.Name.TheVariants.{Arena, Child, LocA, LocB, Main, Parent, Phase, PoolHead, PoolNext, Slot, Update}
use Rattle.core_state.specs.Core.{Core}
use Rattle.core_state.specs.Formed.{IsFormed}
use Rattle.core_state.specs.Invariants.{Invariants}
use Rattle.core_state.specs.TreesSound.{BoundsOnlyWiden}
use Rattle.core_move.proofs.BoundsAside.{aside, on_load}
use Rattle.core_update.proofs.NewChildren.{new_bound-widens}
use Rattle.core_update.proofs.PlacingWidens.{widen_low_placing-widens, widen_high_placing-widens}
use Rattle.core_state.specs.UpdateEvent.{UpdateEvent, begins_update, loads_arena, notes_slot, looks_at_body, stores_new_child, stores_new_bound, stores_new_parent, finishes_plan, loads_parent_to_place, widens_low_to_place, widens_high_to_place, places_noted, places_phase, gives_up, exchanges_main, clears_slot, promotes, clears_second, finds_second, loads_reader, loads_returned, links_returned, gives_returned, switches_arena, ends_update}

module _ (before after : Core) (h : Invariants before) (formed : IsFormed before) where
  pub update_widens : UpdateEvent before after → BoundsOnlyWiden h.nodes before after
  update_widens (begins_update e) = let asked = e.allowed.asked in aside h.nodes _ _ before after e Update asked.names (λ none. none)
  update_widens (loads_arena e) = on_load h.nodes _ _ before after e (λ found first. refl)
  update_widens (notes_slot e) = on_load h.nodes _ _ before after e (λ found first. refl)
  update_widens (looks_at_body e) = on_load h.nodes _ _ before after e (λ found first. refl)
  update_widens (stores_new_child e) = let asked = e.allowed.asked in aside h.nodes _ _ before after e (Child asked.node asked.child) asked.names (λ none. none)
  update_widens (stores_new_bound e) = new_bound-widens before after h e formed
  update_widens (stores_new_parent layer e) = let asked = e.allowed.asked in aside h.nodes _ _ before after e (Parent asked.node) asked.names (λ none. none)
  update_widens (finishes_plan layer e) = let asked = e.allowed.asked in aside h.nodes _ _ before after e (Parent asked.node) asked.names (λ none. none)
  update_widens (loads_parent_to_place index e) = on_load h.nodes _ _ before after e (λ found first. refl)
  update_widens (widens_low_to_place index e) = widen_low_placing-widens index h.nodes before after e
  update_widens (widens_high_to_place index e) = widen_high_placing-widens index h.nodes before after e
  update_widens (places_noted e) = let asked = e.allowed.asked in aside h.nodes _ _ before after e (LocB asked.index) asked.names (λ none. none)
  update_widens (places_phase e) = let asked = e.allowed.asked in aside h.nodes _ _ before after e (Phase asked.index) asked.names (λ none. none)
  update_widens (gives_up index e) = let asked = e.allowed.asked in aside h.nodes _ _ before after e (Child asked.node asked.child) asked.names (λ none. none)
  update_widens (exchanges_main e) = let asked = e.allowed.asked in aside h.nodes _ _ before after e (Main asked.layer) asked.names (λ none. none)
  update_widens (clears_slot e) = let asked = e.allowed.asked in aside h.nodes _ _ before after e (Slot asked.layer asked.slot) asked.names (λ none. none)
  update_widens (promotes e) = let asked = e.allowed.asked in aside h.nodes _ _ before after e (LocA asked.index) asked.names (λ none. none)
  update_widens (clears_second e) = let asked = e.allowed.asked in aside h.nodes _ _ before after e (LocB asked.index) asked.names (λ none. none)
  update_widens (finds_second e) = on_load h.nodes _ _ before after e (λ found first. refl)
  update_widens (loads_reader e) = on_load h.nodes _ _ before after e (λ found first. refl)
  update_widens (loads_returned e) = on_load h.nodes _ _ before after e (λ found first. refl)
  update_widens (links_returned e) = let asked = e.allowed.asked in aside h.nodes _ _ before after e (PoolNext asked.node) asked.names (λ none. none)
  update_widens (gives_returned e) = let asked = e.allowed.asked in aside h.nodes _ _ before after e PoolHead asked.names (λ none. none)
  update_widens (switches_arena e) = let asked = e.allowed.asked in aside h.nodes _ _ before after e Arena asked.names (λ none. none)
  update_widens (ends_update e) = let asked = e.allowed.asked in aside h.nodes _ _ before after e Update asked.names (λ none. none)
