-- A label for each kind of step, and for each variant of one: each constructor of an event has one of its own.
use Rattle.std.specs.Prelude.{ℕ, if◌then◌else◌, List, [], ◌∷◌, ◌++◌, map, Option, Some, None}
use Rattle.std.specs.List.{range_with_len, list_any}
use Rattle.word_map.specs.declared.name.Name.{Name}
use Rattle.word_map.specs.declared.name.Name.TheVariants.{Child, Bound, Parent}
use Rattle.core_state.specs.declared.view.Rebuild.{Rebuild}
use Rattle.core_state.specs.Names.{same_name}
use Rattle.core_state.specs.Core.{Core}
use Rattle.core_state.specs.Event.{Event, opens_pass, splits_visitor, joins_visitor, looks, of_locks, of_lists, of_bodies, of_batches, of_pool, of_walks, of_moves, of_removals, of_updates}
use Rattle.core_state.specs.Event.{LockEvent, loads_lock, takes_read, takes_write, releases, ListEvent, loads_list, stores_link, stores_head, BodyEvent, stores_field, creates, destroys, loads_body, sets_user}
use Rattle.core_state.specs.Event.{BatchEvent, loads_slot, reserves, marks, stores_node, places, attaches, takes_back, unmarks, lets_slot_go, PoolEvent, stores_pool_link, stores_pool_head, stores_pool_count}
use Rattle.core_state.specs.Event.{WalkEvent, begins_walk, ends_walk, walks_slot, walks_main, walks_child, walks_bound, MoveEvent, widens_low, widens_high, loads_parent, stores_side, stores_last_side, RemovalEvent, removes, clears_entry, clears_location}
use Rattle.core_state.specs.UpdateEvent.{UpdateEvent, begins_update, loads_arena, notes_slot, looks_at_body, stores_new_child, stores_new_bound, stores_new_parent, finishes_plan, loads_parent_to_place, widens_low_to_place, widens_high_to_place, places_noted, places_phase, gives_up}
use Rattle.core_state.specs.UpdateEvent.{exchanges_main, clears_slot, promotes, clears_second, finds_second, loads_reader, loads_returned, links_returned, gives_returned, switches_arena, ends_update}

-- the number of a kind in docs/steps.md, and which variant of it: 0 for the first
pub record Label : Type 0 where
  pub kind : ℕ
  pub variant : ℕ

abbrev pub label : ℕ → ℕ → Label
label kind variant = record { kind = kind; variant = variant }

-- the first variant of a kind
abbrev pub plain : ℕ → Label
plain kind = label kind 0

-- ---- the label of each event

abbrev pub label_of_lock : {before after : Core} → LockEvent before after → Label
label_of_lock (loads_lock s) = plain 5
label_of_lock (takes_read s) = plain 6
label_of_lock (takes_write s) = plain 7
label_of_lock (releases s) = plain 8

abbrev pub label_of_list : {before after : Core} → ListEvent before after → Label
label_of_list (loads_list s) = plain 9
label_of_list (stores_link s) = plain 10
label_of_list (stores_head s) = plain 11

abbrev pub label_of_body : {before after : Core} → BodyEvent before after → Label
label_of_body (stores_field s) = plain 12
label_of_body (creates s) = plain 13
label_of_body (destroys s) = plain 14
label_of_body (loads_body s) = plain 15
label_of_body (sets_user s) = plain 16

-- a store in a node of a batch is one of three kinds, by its word
abbrev pub kind_of_node_word : Name → ℕ
kind_of_node_word (Child n k) = 20
kind_of_node_word (Bound n k q) = 21
kind_of_node_word (Parent n) = 22
kind_of_node_word _ = 0

abbrev pub label_of_batch : {before after : Core} → BatchEvent before after → Label
label_of_batch (loads_slot s) = plain 17
label_of_batch (reserves s) = plain 18
label_of_batch (marks s) = plain 19
label_of_batch (stores_node s) = plain (kind_of_node_word s.step.name)
label_of_batch (places s) = plain 23
label_of_batch (attaches s) = plain 24
label_of_batch (takes_back s) = plain 25
label_of_batch (unmarks s) = plain 26
label_of_batch (lets_slot_go s) = plain 27

abbrev pub label_of_pool : {before after : Core} → PoolEvent before after → Label
label_of_pool (stores_pool_link s) = label 10 1
label_of_pool (stores_pool_head s) = label 11 1
label_of_pool (stores_pool_count s) = label 11 2

abbrev pub label_of_walk : {before after : Core} → WalkEvent before after → Label
label_of_walk (begins_walk s) = plain 28
label_of_walk (ends_walk s) = plain 29
label_of_walk (walks_slot s) = plain 30
label_of_walk (walks_main s) = plain 31
label_of_walk (walks_child s) = plain 32
label_of_walk (walks_bound s) = plain 33

abbrev pub label_of_move : {before after : Core} → MoveEvent before after → Label
label_of_move (widens_low index s) = plain 34
label_of_move (widens_high index s) = plain 35
label_of_move (loads_parent index s) = plain 36
label_of_move (stores_side s) = plain 37
label_of_move (stores_last_side s) = plain 38

abbrev pub label_of_removal : {before after : Core} → RemovalEvent before after → Label
label_of_removal (removes s) = plain 39
label_of_removal (clears_entry s) = plain 40
label_of_removal (clears_location s) = plain 41

-- a reader's word is loaded for the first time, or again
abbrev pub kind_of_reader_load : Option Rebuild → Name → ℕ
kind_of_reader_load None name = 0
kind_of_reader_load (Some r) name = if list_any (λ l. same_name l.name name) r.readers then 52 else 51

abbrev pub label_of_update : {before after : Core} → UpdateEvent before after → Label
label_of_update (begins_update s) = plain 42
label_of_update (loads_arena s) = plain 43
label_of_update (notes_slot s) = label 17 1
label_of_update (looks_at_body s) = label 15 1
label_of_update (stores_new_child s) = label 20 1
label_of_update (stores_new_bound s) = label 21 1
label_of_update (stores_new_parent layer s) = label 22 1
label_of_update (finishes_plan layer s) = label 22 2
label_of_update (widens_low_to_place index s) = label 34 1
label_of_update (widens_high_to_place index s) = label 35 1
label_of_update (loads_parent_to_place index s) = label 36 1
label_of_update (places_noted s) = plain 44
label_of_update (places_phase s) = plain 45
label_of_update (gives_up index s) = plain 46
label_of_update (exchanges_main s) = plain 47
label_of_update (clears_slot s) = plain 48
label_of_update (promotes s) = plain 49
label_of_update (clears_second s) = plain 50
label_of_update (finds_second s) = label 15 2
label_of_update (loads_reader s) = plain (kind_of_reader_load s.step.view.rebuild s.step.name)
label_of_update (loads_returned s) = plain 55
label_of_update (links_returned s) = label 10 2
label_of_update (gives_returned s) = label 11 3
label_of_update (switches_arena s) = plain 53
label_of_update (ends_update s) = plain 54

-- the seat of the pass that makes a step of an update
abbrev pub seat_of_update : {before after : Core} → UpdateEvent before after → ℕ
seat_of_update (begins_update s) = s.step.seat
seat_of_update (loads_arena s) = s.step.seat
seat_of_update (notes_slot s) = s.step.seat
seat_of_update (looks_at_body s) = s.step.seat
seat_of_update (stores_new_child s) = s.step.seat
seat_of_update (stores_new_bound s) = s.step.seat
seat_of_update (stores_new_parent layer s) = s.step.seat
seat_of_update (finishes_plan layer s) = s.step.seat
seat_of_update (widens_low_to_place index s) = s.step.seat
seat_of_update (widens_high_to_place index s) = s.step.seat
seat_of_update (loads_parent_to_place index s) = s.step.seat
seat_of_update (places_noted s) = s.step.seat
seat_of_update (places_phase s) = s.step.seat
seat_of_update (gives_up index s) = s.step.seat
seat_of_update (exchanges_main s) = s.step.seat
seat_of_update (clears_slot s) = s.step.seat
seat_of_update (promotes s) = s.step.seat
seat_of_update (clears_second s) = s.step.seat
seat_of_update (finds_second s) = s.step.seat
seat_of_update (loads_reader s) = s.step.seat
seat_of_update (loads_returned s) = s.step.seat
seat_of_update (links_returned s) = s.step.seat
seat_of_update (gives_returned s) = s.step.seat
seat_of_update (switches_arena s) = s.step.seat
seat_of_update (ends_update s) = s.step.seat

abbrev pub label_of : {before after : Core} → Event before after → Label
label_of (opens_pass s) = plain 1
label_of (splits_visitor s) = plain 2
label_of (joins_visitor s) = plain 3
label_of (looks s) = plain 4
label_of (of_locks e) = label_of_lock e
label_of (of_lists e) = label_of_list e
label_of (of_bodies e) = label_of_body e
label_of (of_batches e) = label_of_batch e
label_of (of_pool e) = label_of_pool e
label_of (of_walks e) = label_of_walk e
label_of (of_moves e) = label_of_move e
label_of (of_removals e) = label_of_removal e
label_of (of_updates e) = label_of_update e

-- ---- all labels

-- the kinds from 1 to 55, and the further variants of some
abbrev pub all_labels : List Label
all_labels =
    map plain (range_with_len 1 55) ++ label 10 1 ∷ label 10 2 ∷ label 11 1 ∷ label 11 2 ∷ label 11 3 ∷ label 15 1 ∷ label 15 2 ∷ label 17 1 ∷
    label 20 1 ∷ label 21 1 ∷ label 22 1 ∷ label 22 2 ∷ label 34 1 ∷ label 35 1 ∷ label 36 1 ∷ []

-- the steps of an update up to its exchange of main words; those from then on, until it has seen all readers off; and the rest
abbrev pub labels_of_plan : List Label
labels_of_plan =
    plain 42 ∷ plain 43 ∷ label 17 1 ∷ label 15 1 ∷ label 20 1 ∷ label 21 1 ∷ label 22 1 ∷ label 22 2 ∷ label 34 1 ∷ label 35 1 ∷ label 36 1 ∷
    plain 44 ∷ plain 45 ∷ plain 46 ∷ plain 47 ∷ []

abbrev pub labels_of_exchange : List Label
labels_of_exchange = plain 48 ∷ label 15 2 ∷ plain 49 ∷ plain 50 ∷ plain 51 ∷ plain 52 ∷ []

abbrev pub labels_of_end : List Label
labels_of_end = plain 55 ∷ label 10 2 ∷ label 11 3 ∷ plain 53 ∷ plain 54 ∷ []
