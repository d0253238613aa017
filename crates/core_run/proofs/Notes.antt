-- The first steps of an update, and what they ask as tests, but for the last store of its plan.
use Rattle.std.proofs.Common.{◌≡◌, ℕ, suc, ◌+◌, ◌-◌, ◌*◌, Option, Some, None, refl}
use Rattle.word_map.specs.declared.name.Name.{Name}
use Rattle.word_map.specs.declared.name.Name.TheVariants.{State, Phase, Layer, LocA, Child, Bound, Parent, Slot, Update, Arena}
use Rattle.word_map.specs.Names.{stripe_of}
use Rattle.core_state.specs.declared.view.Rebuild.{Rebuild}
use Rattle.core_state.specs.declared.view.View.{View}
use Rattle.core_state.specs.View.{known_word}
use Rattle.core_state.specs.Encoding.{phase_in, phase_join}
use Rattle.core_state.specs.Event.{of_updates}
use Rattle.core_run.proofs.Tests.{◌>>=◌, same?, below?, at_most?, true?, false?, some?, none?, is_some?, empty?, member?, held?, pass?, idle?}
use Rattle.core_run.proofs.Steps.{Test, Move, act}
use Rattle.core_state.specs.Noting.{MayBeginUpdate, begin_update, IsEarly, MayLoadArena, load_arena, MayNoteSlot, note_slot, is_merged, IsToNote, in_main, in_merged, IsLookedAt, by_state, by_phase, by_layer, by_location, MayLookAtBody, look_at_body, StoresNew, MayStoreNewChild, store_new_child, MayStoreNewBound, store_new_bound, MayStoreNewParent, store_new_parent}
use Rattle.core_state.specs.UpdateEvent.{begins_update, loads_arena, notes_slot, looks_at_body, stores_new_child, stores_new_bound, stores_new_parent}

abbrev pub may_begin_update? : Test MayBeginUpdate
may_begin_update? view Update expected new = do
  pass ← pass? view
  none ← same? expected 0
  own ← same? new (suc pass.0)
  Some (record { number = pass.0; names = refl; pass = pass.1; none = none; own = own })
may_begin_update? view _ expected new = None

abbrev pub begins_updating : (seat : ℕ) → Move
begins_updating seat = act begin_update may_begin_update? (λ before after s. of_updates (begins_update s)) seat Update 0 (suc seat)

abbrev pub early? : (r : Rebuild) → Option (IsEarly r)
early? r = do
  unplanned ← false? r.is_planned
  placed ← empty? r.placed
  given_up ← empty? r.given_up
  swapped ← empty? r.swapped
  cleared ← same? r.cleared 0
  promoted ← empty? r.promoted
  readers ← empty? r.readers
  unreclaimed ← false? r.is_reclaimed
  returning ← empty? r.returning
  unswitched ← false? r.is_switched
  Some (record { unplanned = unplanned; placed = placed; given_up = given_up; swapped = swapped; cleared = cleared; promoted = promoted; readers = readers; unreclaimed = unreclaimed; returning = returning; unswitched = unswitched })

abbrev pub may_load_arena? : Test MayLoadArena
may_load_arena? view Arena first second = do
  r ← some? view.rebuild
  early ← early? r.0
  unread ← none? r.0.arena
  no_slots ← same? r.0.slots_read 0
  no_bodies ← same? r.0.passed 0
  no_trees ← empty? r.0.merged
  no_notes ← empty? r.0.noted
  no_nodes ← empty? r.0.nodes
  none_made ← empty? r.0.made
  Some (record { r = r.0; names = refl; update = r.1; early = early; unread = unread; no_slots = no_slots; no_bodies = no_bodies; no_trees = no_trees; no_notes = no_notes; no_nodes = no_nodes; none_made = none_made })
may_load_arena? view _ first second = None

abbrev pub loads_arena_word : (seat : ℕ) → Move
loads_arena_word seat = act load_arena may_load_arena? (λ before after s. of_updates (loads_arena s)) seat Arena 0 0

-- ---- notes

abbrev pub may_note_slot? : Test MayNoteSlot
may_note_slot? view (Slot layer slot) first second = do
  r ← some? view.rebuild
  early ← early? r.0
  arena ← is_some? r.0.arena
  no_bodies ← same? r.0.passed 0
  next ← same? r.0.slots_read (layer * view.config.slots + slot)
  Some (record { layer = layer; slot = slot; r = r.0; names = refl; update = r.1; early = early; arena = arena; no_bodies = no_bodies; next = next })
may_note_slot? view _ first second = None

abbrev pub notes_slot_word : (seat layer slot : ℕ) → Move
notes_slot_word seat layer slot = act note_slot may_note_slot? (λ before after s. of_updates (notes_slot s)) seat (Slot layer slot) 0 0

-- a phase that names a slot
abbrev pub joined? : (phase : ℕ) → Option ((slot : ℕ) × (phase ≡ phase_join slot))
joined? phase = do
  same ← same? phase (phase_join (phase - 2))
  Some (phase - 2, same)

abbrev pub to_note? : (view : View) (r : Rebuild) (index : ℕ) → Option (IsToNote view r index)
to_note? view r index = elim (same? (known_word view (Phase index)) phase_in) [
  | Some inside ↦ Some (in_main inside)
  | None ↦ do
    slot ← joined? (known_word view (Phase index))
    merged ← true? (is_merged r (known_word view (Layer index)) slot.0)
    Some (in_merged slot.0 slot.1 merged)
]

abbrev pub looked_at? : (view : View) (r : Rebuild) (name : Name) → Option ((index : ℕ) × IsLookedAt view r index name)
looked_at? view r (State index) = Some (index, by_state refl)
looked_at? view r (Phase index) = Some (index, by_phase refl)
looked_at? view r (Layer index) = do
  live ← at_most? 256 (known_word view (State index))
  slot ← joined? (known_word view (Phase index))
  Some (index, by_layer slot.0 refl live slot.1)
looked_at? view r (LocA index) = do
  live ← at_most? 256 (known_word view (State index))
  note ← to_note? view r index
  Some (index, by_location refl live note)
looked_at? view r _ = None

abbrev pub may_look_at_body? : Test MayLookAtBody
may_look_at_body? view name first second = do
  r ← some? view.rebuild
  early ← early? r.0
  all_slots ← same? r.0.slots_read (view.config.layers * view.config.slots)
  looks ← looked_at? view r.0 name
  next ← same? r.0.passed looks.0
  idle ← idle? view.call.task
  stripe ← held? view (stripe_of view.config looks.0)
  Some (record { index = looks.0; mode = stripe.0; r = r.0; update = r.1; early = early; all_slots = all_slots; next = next; idle = idle; stripe = stripe.1; looks = looks.1 })

abbrev pub looks_at_word_of_body : (seat : ℕ) → Name → Move
looks_at_word_of_body seat name = act look_at_body may_look_at_body? (λ before after s. of_updates (looks_at_body s)) seat name 0 0

-- ---- new trees

abbrev pub stores_new? : (view : View) (node : ℕ) → Option ((r : Rebuild) × StoresNew view r node)
stores_new? view node = do
  r ← some? view.rebuild
  early ← early? r.0
  idle ← idle? view.call.task
  arena ← is_some? r.0.arena
  owns ← member? r.0.nodes node
  Some (r.0, record { update = r.1; early = early; idle = idle; arena = arena; owns = owns })

abbrev pub may_store_new_child? : Test MayStoreNewChild
may_store_new_child? view (Child node child) value second = do
  stores ← stores_new? view node
  all ← same? stores.0.passed view.config.bodies
  Some (record { node = node; child = child; r = stores.0; names = refl; stores = stores.1; all_bodies = all })
may_store_new_child? view _ value second = None

abbrev pub stores_child_anew : (seat node child value : ℕ) → Move
stores_child_anew seat node child value = act store_new_child may_store_new_child? (λ before after s. of_updates (stores_new_child s)) seat (Child node child) value 0

abbrev pub may_store_new_bound? : Test MayStoreNewBound
may_store_new_bound? view (Bound node child side) value second = do
  stores ← stores_new? view node
  Some (record { node = node; child = child; side = side; r = stores.0; names = refl; stores = stores.1 })
may_store_new_bound? view _ value second = None

abbrev pub stores_side_anew : (seat node child side value : ℕ) → Move
stores_side_anew seat node child side value = act store_new_bound may_store_new_bound? (λ before after s. of_updates (stores_new_bound s)) seat (Bound node child side) value 0

abbrev pub may_store_new_parent? : (layer : ℕ) → Test (MayStoreNewParent layer)
may_store_new_parent? layer view (Parent node) value second = do
  stores ← stores_new? view node
  of_world ← below? layer view.config.layers
  Some (record { node = node; r = stores.0; names = refl; stores = stores.1; of_world = of_world })
may_store_new_parent? layer view _ value second = None

abbrev pub stores_parent_anew : (seat layer node value : ℕ) → Move
stores_parent_anew seat layer node value = act (store_new_parent layer) (may_store_new_parent? layer) (λ before after s. of_updates (stores_new_parent layer s)) seat (Parent node) value 0
