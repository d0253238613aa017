-- Small cores that no run leads to, each of which breaks one invariant. So none of these is empty.
use Rattle.std.specs.Prelude.{ℕ, true, List, [], ◌∷◌, ◌++◌, Option, Some, None}
use Rattle.fixed_box.specs.declared.fix_box.FixBox.{FixBox}
use Rattle.scene_model.specs.declared.entry.Entry.{Entry}
use Rattle.scene_model.specs.declared.entry.Entry.TheVariants.{Create, Mark, Join}
use Rattle.word_map.specs.declared.config.Config.{Config}
use Rattle.word_map.specs.declared.name.Name.{Name}
use Rattle.word_map.specs.declared.name.Name.TheVariants.{Lock, State, Phase, LocA, Child, PoolFree, Main, Slot, Reader}
use Rattle.core_state.specs.declared.item.Item.{Item}
use Rattle.core_state.specs.declared.view.Role.TheVariants.{Pass}
use Rattle.core_state.specs.declared.view.View.{View}
use Rattle.core_state.specs.View.{blank_view}
use Rattle.core_state.specs.Core.{Core, opening}
use Rattle.core_state.specs.Encoding.{node_child, place, phase_join, slot_tree}

-- the smallest world: one of everything, so node 0 is the batch node, nodes 1 and 2 are those of arena 0
abbrev pub smallest : Config
smallest = record { bodies = 1; stripes = 1; layers = 1; slots = 1; nodes = 1; passes = 1 }

-- pass 0 stored this value, with this entry or none
abbrev pub stored : Name → ℕ → Option Entry → Item
stored name value entry = record { pass = 0; name = name; value = value; entry = entry }

abbrev pub with_log : List Item → Core
with_log log = record (opening smallest) { log = log }

-- a lock word has a bit, and nobody holds the lock
abbrev pub bit_of_nobody : Core
bit_of_nobody = with_log (stored (Lock 0) 1 None ∷ [])

-- a state word says that a body is live, and none was created
abbrev pub body_of_nothing : Core
body_of_nothing = with_log (stored (State 0) 257 None ∷ [])

-- the count of free nodes is 0, and one is in their list
abbrev pub miscounted_pool : Core
miscounted_pool = with_log (stored PoolFree 0 None ∷ [])

-- the main tree's root is its own child
abbrev pub endless_tree : Core
endless_tree = with_log (stored (Main 0) 2 None ∷ stored (Child 1 0) (node_child 1) None ∷ [])

-- a body that came into the broad phase in this box
abbrev pub one_body : FixBox → List Item
one_body b = stored (State 0) 257 (Some (Create 0 0 b 0)) ∷ stored (Phase 0) (phase_join 0) (Some (Mark 0)) ∷ stored (Slot 0 0) (slot_tree 0) (Some (Join 0 (0 ∷ []))) ∷ []

-- it says where its entry is, and no entry is there
abbrev pub body_without_entry : FixBox → Core
body_without_entry b = with_log (one_body b ++ stored (LocA 0) (place 0 0) None ∷ [])

-- it says nothing
abbrev pub body_without_location : FixBox → Core
body_without_location b = with_log (one_body b)

-- a pass has begun to walk after that, and read the slot and the main word without finding a tree
abbrev pub walker : View
walker = record (blank_view smallest (Pass 0 0)) {
  walk = record {
    is_on = true;
    from = 3;
    loads = record { name = Slot 0 0; value = 0 } ∷ record { name = Main 0; value = 0 } ∷ [];
    bound = [];
  };
}

abbrev pub walk_past_a_body : FixBox → Core
walk_past_a_body b = record { config = smallest; log = one_body b; views = walker ∷ [] }

-- a reader word is odd, and its pass does not walk
abbrev pub uncounted_reader : Core
uncounted_reader = with_log (stored (Reader 0) 1 None ∷ [])
