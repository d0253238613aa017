-- A run through every kind of step. Pass 0 makes two updates, pass 1 walks, and pass 2 does all else.
use Rattle.std.proofs.Common.{ℕ, nat_lt, List, [], ◌∷◌, ◌++◌, refl}
use Rattle.std.specs.Prelude.{if◌then◌else◌}
use Rattle.word_map.specs.declared.config.Config.{Config}
use Rattle.word_map.specs.declared.name.Name.{Name}
use Rattle.word_map.specs.declared.name.Name.TheVariants.{SlotHead, SlotNext, State, Phase, Layer, User, BoxWord, LocA, LocB, Child, Bound, Parent, PoolHead, PoolNext, PoolFree}
use Rattle.core_state.specs.declared.view.Mode.TheVariants.{Read, Write}
use Rattle.core_state.specs.Encoding.{body_child, node_child, place}
use Rattle.core_state.specs.Core.{opening}
use Rattle.core_state.specs.Event.{Run, begins, goes_on}
use Rattle.core_run.proofs.Steps.{Move, Ahead}
use Rattle.core_run.proofs.Beginnings.{opens, sends_visitor, receives_visitor, looks_at, loads_lock_of, locks_to_read, locks_to_write, unlocks, loads_list_word, links_index, takes_index, puts_index}
use Rattle.core_run.proofs.Bodies.{stores_field_of, creates_body, destroys_body, loads_word_of_body, loads_state, sets_user_of}
use Rattle.core_run.proofs.Preparing.{loads_slot_word, reserves_slot, lets_go_of_slot, marks_body, places_at, takes_place_back, unmarks_body, stores_own_node, links_node, takes_first_node, gives_node_back, counts_nodes}
use Rattle.core_run.proofs.Attaching.{attaches_tree}
use Rattle.core_run.proofs.Walking.{begins_walking, ends_walking, walks_to_slot, walks_to_main, walks_to_child, walks_to_side}
use Rattle.core_run.proofs.Moves.{widens_low_side, widens_high_side, loads_parent_of, stores_box_side, stores_last_box_side, removes_body, clears_entry_at, clears_location_word}
use Rattle.core_run.proofs.Notes.{begins_updating, loads_arena_word, notes_slot_word, looks_at_word_of_body, stores_child_anew, stores_side_anew, stores_parent_anew}
use Rattle.core_run.proofs.Planning.{finishes_planning}
use Rattle.core_run.proofs.Placings.{widens_low_for_place, widens_high_for_place, loads_parent_for_place, places_noted_body, places_phase_of, gives_up_body}
use Rattle.core_run.proofs.Publishings.{exchanges_main_word, clears_slot_word}
use Rattle.core_run.proofs.Retirings.{promotes_body, clears_second_location, finds_second_location, loads_reader_of, loads_child_returned, links_node_returned, gives_node_returned, switches_to_arena, ends_updating}

-- two bodies under one stripe, two layers with a slot each, two batch nodes; nodes 2 to 5 are those of arena 0, 6 to 9 those
-- of arena 1. Lock 0 is the stripe, 1 that of the indexes, 2 that of the pool
abbrev pub sizes : Config
sizes = record { bodies = 2; stripes = 1; layers = 2; slots = 1; nodes = 2; passes = 3 }

-- all passes are there
abbrev first_opened : Ahead (opening sizes)
first_opened = opens 0 0 1 (opening sizes) refl

abbrev second_opened : Ahead first_opened.0
second_opened = opens 1 1 0 first_opened.0 refl

abbrev pub opened : Run (opening sizes) second_opened.0
opened = goes_on (goes_on begins first_opened.1) second_opened.1

-- ---- parts that come again

abbrev six : (ℕ → Move) → List Move
six move = move 0 ∷ move 1 ∷ move 2 ∷ move 3 ∷ move 4 ∷ move 5 ∷ []

abbrev three : (ℕ → Move) → List Move
three move = move 0 ∷ move 1 ∷ move 2 ∷ []

abbrev last_three : (ℕ → Move) → List Move
last_three move = move 3 ∷ move 4 ∷ move 5 ∷ []

-- a side of a box that is as wide on each axis
abbrev side : ℕ → ℕ → ℕ → ℕ
side low high q = if nat_lt q 3 then low else high

abbrev under_lock : ℕ → ℕ → List Move → List Move
under_lock seat lock moves = loads_lock_of seat lock ∷ locks_to_write seat lock ∷ moves ++ unlocks seat lock Write ∷ []

-- pass 2 creates a body
abbrev creation : (index layer low high : ℕ) → List Move
creation index layer low high = under_lock 2 1 (
    loads_list_word 2 SlotHead ∷ loads_list_word 2 (SlotNext index) ∷ takes_index 2 index ∷ loads_state 2 index ∷
    stores_field_of 2 (Layer index) layer ∷ stores_field_of 2 (User index) 7 ∷ six (λ q. stores_field_of 2 (BoxWord index q) (side low high q)) ++ creates_body 2 index ∷ [])

-- pass 2 takes nodes of the pool
abbrev taking : List ℕ → List Move
taking [] = []
taking (node ∷ rest) = loads_list_word 2 PoolHead ∷ loads_list_word 2 (PoolNext node) ∷ takes_first_node 2 node ∷ taking rest

abbrev marking : (index : ℕ) → List Move
marking index = under_lock 2 0 (loads_word_of_body 2 (State index) ∷ loads_word_of_body 2 (Phase index) ∷ loads_word_of_body 2 (Layer index) ∷ marks_body 2 index 0 ∷ [])

-- it stores a child with its bound
abbrev child_of_batch : (node value low high : ℕ) → List Move
child_of_batch node value low high = stores_own_node 2 (Child node 0) value ∷ six (λ q. stores_own_node 2 (Bound node 0 q) (side low high q))

-- a batch of one body, whose tree has a root, node 0, and a node below it, node 1
abbrev batch_of : (index layer low high : ℕ) → List ℕ → List Move
batch_of index layer low high nodes =
    loads_slot_word 2 layer 0 ∷ reserves_slot 2 layer 0 ∷ under_lock 2 2 (loads_list_word 2 PoolFree ∷ taking nodes ++ counts_nodes 2 2 0 ∷ []) ++
    marking index ++ child_of_batch 0 (node_child 1) low high ++ stores_own_node 2 (Parent 0) 0 ∷
    child_of_batch 1 (body_child index) low high ++ places_at 2 index 1 0 ∷ stores_own_node 2 (Parent 1) (place 0 0) ∷ attaches_tree 2 layer 0 0 ∷ []

-- a batch that is given up again, with the body at index 0
abbrev batch_taken_back : List Move
batch_taken_back =
    loads_slot_word 2 0 0 ∷ reserves_slot 2 0 0 ∷ under_lock 2 2 (loads_list_word 2 PoolFree ∷ taking (0 ∷ []) ++ counts_nodes 2 1 0 ∷ []) ++
    marking 0 ++ child_of_batch 0 (body_child 0) 100 200 ++ places_at 2 0 0 0 ∷ stores_own_node 2 (Parent 0) 0 ∷
    under_lock 2 0 (takes_place_back 2 0 ∷ unmarks_body 2 0 ∷ []) ++ lets_go_of_slot 2 0 0 ∷
    under_lock 2 2 (loads_list_word 2 PoolFree ∷ loads_list_word 2 PoolHead ∷ links_node 2 0 ∷ gives_node_back 2 0 ∷ counts_nodes 2 0 1 ∷ [])

-- ---- updates

abbrev looking : (index : ℕ) → Name → List Move
looking index name = locks_to_read 0 0 ∷ loads_word_of_body 0 (State index) ∷ looks_at_word_of_body 0 name ∷ unlocks 0 0 Read ∷ []

abbrev new_child : (node value low high : ℕ) → List Move
new_child node value low high = stores_child_anew 0 node 0 value ∷ six (λ q. stores_side_anew 0 node 0 q (side low high q))

-- a body is placed as the first child of a root
abbrev placing : (index node : ℕ) → List Move
placing index node = under_lock 0 0 (
    three (λ q. widens_low_for_place 0 index node 0 q) ++ last_three (λ q. widens_high_for_place 0 index node 0 q) ++
    loads_parent_for_place 0 index node ∷ places_noted_body 0 index node 0 ∷ places_phase_of 0 index ∷ [])

abbrev promoting : (index : ℕ) → List Move
promoting index = under_lock 0 0 (finds_second_location 0 index ∷ promotes_body 0 index ∷ clears_second_location 0 index ∷ [])

-- a node of a merged tree is given back
abbrev returning : (node : ℕ) → List Move
returning node =
    loads_child_returned 0 node 0 ∷ loads_child_returned 0 node 1 ∷ loads_child_returned 0 node 2 ∷ loads_child_returned 0 node 3 ∷
    loads_list_word 0 PoolHead ∷ links_node_returned 0 node ∷ gives_node_returned 0 node ∷ []

-- the nodes of the tree of a batch are given back, and the update ends with the other arena
abbrev ending : (arena : ℕ) → List Move
ending arena =
    under_lock 0 2 (returning 0 ++ returning 1 ++ loads_list_word 0 PoolFree ∷ counts_nodes 0 0 2 ∷ []) ++ switches_to_arena 0 arena ∷ ends_updating 0 ∷ []

-- the first update: body 0 comes from the tree of its batch into a main tree
abbrev first_update : List Move
first_update =
    begins_updating 0 ∷ loads_arena_word 0 ∷ notes_slot_word 0 0 0 ∷ notes_slot_word 0 1 0 ∷ looking 0 (LocA 0) ++ looking 1 (State 1) ++
    new_child 6 (body_child 0) 100 200 ++ finishes_planning 0 0 6 0 ∷ placing 0 6 ++ exchanges_main_word 0 0 7 ∷ exchanges_main_word 0 1 0 ∷
    clears_slot_word 0 0 0 ∷ promoting 0 ++ loads_reader_of 0 0 ∷ loads_reader_of 0 1 ∷ loads_reader_of 0 2 ∷ ending 1

-- ---- walks, moves and removals

-- pass 1 begins a walk in layer 0, and comes to a side of the bound of the first child of the root
abbrev half_a_walk : (root : ℕ) → List Move
half_a_walk root = begins_walking 1 ∷ walks_to_slot 1 0 0 ∷ walks_to_main 1 0 ∷ walks_to_child 1 root 0 ∷ walks_to_side 1 root 0 0 ∷ []

-- pass 2 takes body 0 out, and destroys it
abbrev removal : List Move
removal =
    under_lock 2 0 (removes_body 2 0 ∷ clears_entry_at 2 6 0 ∷ clears_location_word 2 (LocA 0) ∷ clears_location_word 2 (LocB 0) ∷ []) ++
    under_lock 2 0 (under_lock 2 1 (loads_list_word 2 SlotHead ∷ links_index 2 0 ∷ puts_index 2 0 ∷ destroys_body 2 0 ∷ []))

abbrev widening : (index node low high : ℕ) → List Move
widening index node low high =
    three (λ q. widens_low_side 2 index node 0 q low) ++ last_three (λ q. widens_high_side 2 index node 0 q high) ++ loads_parent_of 2 index node ∷ []

-- it moves body 1, which is in the tree of its batch and in the new tree of its layer
abbrev movement : List Move
movement = under_lock 2 0 (
    widening 1 1 250 450 ++ widening 1 0 250 450 ++ widening 1 3 250 450 ++
    stores_box_side 2 1 0 250 ∷ stores_box_side 2 1 1 250 ∷ stores_box_side 2 1 2 250 ∷ stores_box_side 2 1 3 450 ∷ stores_box_side 2 1 4 450 ∷ stores_last_box_side 2 1 450 ∷
    sets_user_of 2 1 9 ∷ [])

-- ---- the whole

abbrev before_first : List Move
before_first = looks_at 2 SlotHead ∷ creation 0 0 100 200 ++ batch_taken_back ++ batch_of 0 0 100 200 (0 ∷ 1 ∷ [])

-- all that a second update does before it exchanges the main words: body 0 is gone when it comes to place it
abbrev second_plan : List Move
second_plan =
    begins_updating 0 ∷ loads_arena_word 0 ∷ notes_slot_word 0 0 0 ∷ notes_slot_word 0 1 0 ∷ looking 0 (LocA 0) ++ looking 1 (LocA 1) ++
    new_child 2 (body_child 0) 100 200 ++ stores_parent_anew 0 0 2 0 ∷ new_child 3 (body_child 1) 300 400 ++ finishes_planning 0 1 3 0 ∷
    removal ++ under_lock 0 0 (gives_up_body 0 0 2 0 ∷ []) ++ placing 1 3

abbrev second_end : List Move
second_end =
    exchanges_main_word 0 0 3 ∷ exchanges_main_word 0 1 4 ∷ movement ++ clears_slot_word 0 1 0 ∷ promoting 1 ++
    loads_reader_of 0 0 ∷ loads_reader_of 0 1 ∷ loads_reader_of 0 2 ∷ loads_reader_of 0 1 ∷ ends_walking 1 ∷ loads_reader_of 0 1 ∷
    half_a_walk 2 ++ ending 0

abbrev pub moves : List Move
moves = before_first ++ first_update ++ sends_visitor 0 ∷ receives_visitor 2 3 ∷ creation 1 1 300 400 ++ batch_of 1 1 300 400 (1 ∷ 0 ∷ []) ++ half_a_walk 6 ++ second_plan ++ second_end
