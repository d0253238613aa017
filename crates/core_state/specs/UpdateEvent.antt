-- The events of an update, with a constructor for each kind of step and each variant of one.
use Rattle.std.specs.Prelude.{ℕ}
use Rattle.core_state.specs.Core.{Core}
use Rattle.core_state.specs.Kind.{Steps}
use Rattle.core_state.specs.Noting.{MayBeginUpdate, begin_update, MayLoadArena, load_arena, MayNoteSlot, note_slot, MayLookAtBody, look_at_body, MayStoreNewChild, store_new_child, MayStoreNewBound, store_new_bound, MayStoreNewParent, store_new_parent, MayFinishPlan, finish_plan}
use Rattle.core_state.specs.Placing.{MayLoadParentPlacing, load_parent_placing, MayWidenLowToPlace, widen_low_placing, MayWidenHighToPlace, widen_high_placing, MayPlaceNoted, place_noted, MayPlacePhase, place_phase, MayGiveUp, give_up}
use Rattle.core_state.specs.Exchanging.{MayExchange, exchange_main, MayClearSlot, clear_slot}
use Rattle.core_state.specs.Retiring.{MayPromote, promote, MayClearSecond, clear_second, MayFindSecond, find_second, MayLoadReader, load_reader, MayLoadReturned, load_returned, MayLinkReturned, link_returned, MayGiveReturned, give_returned, MaySwitchArena, switch_arena, MayEndUpdate, end_update}

-- one event of an update leads from the one core to the other; docs/steps.md has the kinds by number
pub data UpdateEvent (before after : Core) : Type 0 where
  -- it begins, loads the arena, and notes slots and bodies
  begins_update : Steps MayBeginUpdate begin_update before after → UpdateEvent before after
  loads_arena : Steps MayLoadArena load_arena before after → UpdateEvent before after
  notes_slot : Steps MayNoteSlot note_slot before after → UpdateEvent before after
  looks_at_body : Steps MayLookAtBody look_at_body before after → UpdateEvent before after
  -- it makes its new trees, and the last store plans them
  stores_new_child : Steps MayStoreNewChild store_new_child before after → UpdateEvent before after
  stores_new_bound : Steps MayStoreNewBound store_new_bound before after → UpdateEvent before after
  stores_new_parent : (layer : ℕ) → Steps (MayStoreNewParent layer) (store_new_parent layer) before after → UpdateEvent before after
  finishes_plan : (layer : ℕ) → Steps (MayFinishPlan layer) (finish_plan layer) before after → UpdateEvent before after
  -- it places bodies in them, or gives them up
  loads_parent_to_place : (index : ℕ) → Steps (MayLoadParentPlacing index) (load_parent_placing index) before after → UpdateEvent before after
  widens_low_to_place : (index : ℕ) → Steps (MayWidenLowToPlace index) (widen_low_placing index) before after → UpdateEvent before after
  widens_high_to_place : (index : ℕ) → Steps (MayWidenHighToPlace index) (widen_high_placing index) before after → UpdateEvent before after
  places_noted : Steps MayPlaceNoted place_noted before after → UpdateEvent before after
  places_phase : Steps MayPlacePhase place_phase before after → UpdateEvent before after
  gives_up : (index : ℕ) → Steps (MayGiveUp index) (give_up index) before after → UpdateEvent before after
  -- it takes the old trees out of sight
  exchanges_main : Steps MayExchange exchange_main before after → UpdateEvent before after
  clears_slot : Steps MayClearSlot clear_slot before after → UpdateEvent before after
  -- it promotes the bodies that it placed
  promotes : Steps MayPromote promote before after → UpdateEvent before after
  clears_second : Steps MayClearSecond clear_second before after → UpdateEvent before after
  finds_second : Steps MayFindSecond find_second before after → UpdateEvent before after
  -- it waits for the readers, and gives back the nodes of the trees that it merged
  loads_reader : Steps MayLoadReader load_reader before after → UpdateEvent before after
  loads_returned : Steps MayLoadReturned load_returned before after → UpdateEvent before after
  links_returned : Steps MayLinkReturned link_returned before after → UpdateEvent before after
  gives_returned : Steps MayGiveReturned give_returned before after → UpdateEvent before after
  -- it switches arenas, and ends
  switches_arena : Steps MaySwitchArena switch_arena before after → UpdateEvent before after
  ends_update : Steps MayEndUpdate end_update before after → UpdateEvent before after
