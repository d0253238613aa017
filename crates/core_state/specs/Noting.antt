-- The first steps of an update: it begins, loads the arena, notes slots and bodies, and makes the new trees. The nodes of the
-- other arena become its own when the arena is loaded (from spare to owned), and with the last store of the plan those in
-- which the trees are made stand in them (from owned to made).
use Rattle.std.specs.Prelude.{◌≡◌, ◌≢◌, ◌⊎◌, ℕ, suc, ◌+◌, ◌-◌, ◌*◌, ◌/◌, ◌%◌, ◌<◌, ◌≤◌, ◌==◌, ◌&&◌, Bool, true, false, not, nat_le, if◌then◌else◌, List, [], ◌∷◌, ◌++◌, length, map, filter, Contains, Option, Some, None, option_map, IsSome, slice_index, slice_set}
use Rattle.std.specs.List.{range_with_len, list_any}
use Rattle.scene_model.specs.Scene.{Record, record_at}
use Rattle.word_map.specs.declared.config.Config.{Config}
use Rattle.word_map.specs.declared.name.Name.{Name}
use Rattle.word_map.specs.declared.name.Name.TheVariants.{State, Phase, Layer, BoxWord, LocA, Child, Bound, Parent, Slot, Update, Arena}
use Rattle.word_map.specs.Names.{stripe_of, arena_nodes}
use Rattle.core_state.specs.declared.view.Mode.{Mode}
use Rattle.core_state.specs.declared.view.Task.TheVariants.{Nothing}
use Rattle.core_state.specs.declared.view.Merged.{Merged}
use Rattle.core_state.specs.declared.view.Noted.{Noted}
use Rattle.core_state.specs.declared.view.NewNode.{NewNode}
use Rattle.core_state.specs.declared.view.Rebuild.{Rebuild}
use Rattle.core_state.specs.declared.view.View.{View}
use Rattle.core_state.specs.Names.{same_name}
use Rattle.core_state.specs.Log.{history}
use Rattle.core_state.specs.View.{IsPass, Holds, known_word}
use Rattle.core_state.specs.Encoding.{body_child, node_child, place, phase_in, phase_join, sides_of, IsBox, Covers, bound_in}
use Rattle.core_state.specs.Nodes.{Above}
use Rattle.core_state.specs.Space.{IsInHull}
use Rattle.core_state.specs.Parts.{no_rebuild}
use Rattle.core_state.specs.Updates.{merged_tree}
use Rattle.core_state.specs.Operation.{load, store, compare_exchange}
use Rattle.core_state.specs.Kind.{Kind}
use Rattle.core_state.specs.Batches.{also_written}
use Rattle.core_state.specs.Guards.{scene_at}

-- the view with its update changed
abbrev pub with_update : (Rebuild → Rebuild) → View → View
with_update change view = record view { rebuild = option_map change view.rebuild }

-- ---- the beginning

-- beginning an update asks that the word expected is 0; the new one has the pass's number
pub record MayBeginUpdate (view : View) (name : Name) (expected new : ℕ) : Type 0 where
  pub number : ℕ
  pub names : name ≡ Update
  pub pass : IsPass view number
  pub none : expected ≡ 0
  pub own : new ≡ suc number

-- an update that has done nothing, with no main tree for any layer yet
abbrev pub new_update : View → Rebuild
new_update view = record no_rebuild { from = length (history view.known); roots = map (λ l. 0) (range_with_len 0 view.config.layers) }

abbrev pub update_begun_if : View → ℕ → ℕ → View
update_begun_if view found expected = if found == expected then record view { rebuild = Some (new_update view) } else view

-- Kind 42, begin an update
abbrev pub begin_update : Kind
begin_update = record {
  operation = compare_exchange;
  entry = λ view name value. None;
  leaves = λ view name found first second. update_begun_if view found first;
}

-- nothing of the update is done yet but to note and to plan
pub record IsEarly (r : Rebuild) : Type 0 where
  pub unplanned : r.is_planned ≡ false
  pub placed : r.placed ≡ []
  pub given_up : r.given_up ≡ []
  pub swapped : r.swapped ≡ []
  pub cleared : r.cleared ≡ 0
  pub promoted : r.promoted ≡ []
  pub readers : r.readers ≡ []
  pub unreclaimed : r.is_reclaimed ≡ false
  pub returning : r.returning ≡ []
  pub unswitched : r.is_switched ≡ false

-- loading the arena asks that the update has noted nothing and has no nodes
pub record MayLoadArena (view : View) (name : Name) (first second : ℕ) : Type 0 where
  pub r : Rebuild
  pub names : name ≡ Arena
  pub update : view.rebuild ≡ Some r
  pub early : IsEarly r
  pub unread : r.arena ≡ None
  pub no_slots : r.slots_read ≡ 0
  pub no_bodies : r.passed ≡ 0
  pub no_trees : r.merged ≡ []
  pub no_notes : r.noted ≡ []
  pub no_nodes : r.nodes ≡ []
  pub none_made : r.made ≡ []

-- the nodes of an arena, in order
abbrev pub nodes_of_arena : Config → ℕ → List ℕ
nodes_of_arena c arena = range_with_len (c.nodes + arena * arena_nodes c) (arena_nodes c)

abbrev pub with_arena : Config → ℕ → Rebuild → Rebuild
with_arena c found r = record r { arena = Some found; nodes = nodes_of_arena c (1 - found) }

-- Kind 43, load the arena
abbrev pub load_arena : Kind
load_arena = record {
  operation = load;
  entry = λ view name value. None;
  leaves = λ view name found first second. with_update (with_arena view.config found) view;
}

-- ---- notes

-- noting a slot asks that it is the next one, before any body is looked at
pub record MayNoteSlot (view : View) (name : Name) (first second : ℕ) : Type 0 where
  pub layer : ℕ
  pub slot : ℕ
  pub r : Rebuild
  pub names : name ≡ Slot layer slot
  pub update : view.rebuild ≡ Some r
  pub early : IsEarly r
  pub arena : IsSome r.arena
  pub no_bodies : r.passed ≡ 0
  pub next : r.slots_read ≡ layer * view.config.slots + slot

-- where a tree is found there, it is to be merged
abbrev pub merged_with : ℕ → ℕ → ℕ → List Merged → List Merged
merged_with layer slot found merged = if nat_le 1024 found then merged ++ merged_tree layer slot (found - 1024) ∷ [] else merged

abbrev pub with_slot : Name → ℕ → Rebuild → Rebuild
with_slot (Slot layer slot) found r = record r { slots_read = r.slots_read + 1; merged = merged_with layer slot found r.merged }
with_slot name found r = r

-- Kind 17, load a slot for an update
abbrev pub note_slot : Kind
note_slot = record {
  operation = load;
  entry = λ view name value. None;
  leaves = λ view name found first second. with_update (with_slot name found) view;
}

-- a tree that is to be merged was found in the slot
abbrev pub is_merged : Rebuild → ℕ → ℕ → Bool
is_merged r layer slot = list_any (λ m. (m.layer == layer) && (m.slot == slot)) r.merged

-- a body whose phase says so is in a tree that the update replaces: a main tree, or one that it merges
pub data IsToNote (view : View) (r : Rebuild) (index : ℕ) : Type 0 where
  in_main : known_word view (Phase index) ≡ phase_in → IsToNote view r index
  in_merged : (slot : ℕ) → known_word view (Phase index) ≡ phase_join slot → is_merged r (known_word view (Layer index)) slot ≡ true → IsToNote view r index

-- the words by which an update may come to know that it has not to note a body: its state, its phase, and its layer where
-- it is in the tree of a slot; and the one that it notes it by
pub data IsLookedAt (view : View) (r : Rebuild) (index : ℕ) (name : Name) : Type 0 where
  by_state : name ≡ State index → IsLookedAt view r index name
  by_phase : name ≡ Phase index → IsLookedAt view r index name
  by_layer : (slot : ℕ) → name ≡ Layer index → 256 ≤ known_word view (State index) → known_word view (Phase index) ≡ phase_join slot → IsLookedAt view r index name
  by_location : name ≡ LocA index → 256 ≤ known_word view (State index) → IsToNote view r index → IsLookedAt view r index name

-- looking at a body asks that it is the next one, after all slots, under its stripe
pub record MayLookAtBody (view : View) (name : Name) (first second : ℕ) : Type 0 where
  pub index : ℕ
  pub mode : Mode
  pub r : Rebuild
  pub update : view.rebuild ≡ Some r
  pub early : IsEarly r
  pub all_slots : r.slots_read ≡ view.config.layers * view.config.slots
  pub next : r.passed ≡ index
  pub idle : view.call.task ≡ Nothing
  pub stripe : Holds view (stripe_of view.config index) mode
  pub looks : IsLookedAt view r index name

-- which creation at an index it is that is live there
abbrev pub generation_of : Option Record → ℕ
generation_of None = 0
generation_of (Some r) = r.generation

abbrev pub generation_known : View → ℕ → ℕ
generation_known view index = generation_of (record_at (scene_at view.config view.known) index)

-- the body as it is known, with its location; it has no place in a new tree yet
abbrev pub note_of : View → ℕ → ℕ → Noted
note_of view index location = record {
  index = index;
  generation = generation_known view index;
  state = known_word view (State index);
  phase = known_word view (Phase index);
  layer = known_word view (Layer index);
  bounds = map (λ q. known_word view (BoxWord index q)) (range_with_len 0 6);
  location = location;
  place = 0;
}

-- the next body is passed over, where the word that was found says so; else the update stays at it
abbrev pub passed_if : Bool → Rebuild → Rebuild
passed_if test r = record r { passed = if test then r.passed + 1 else r.passed }

abbrev pub body_looked_at : View → Name → ℕ → Rebuild → Rebuild
body_looked_at view (State index) found r = passed_if (not (nat_le 256 found)) r
body_looked_at view (Phase index) found r = passed_if (found == 0) r
body_looked_at view (Layer index) found r = passed_if (not (is_merged r found (known_word view (Phase index) - 2))) r
body_looked_at view (LocA index) found r = record r { passed = r.passed + 1; noted = r.noted ++ note_of view index found ∷ [] }
body_looked_at view name found r = r

-- Kind 15, load a word of a body for an update
abbrev pub look_at_body : Kind
look_at_body = record {
  operation = load;
  entry = λ view name value. None;
  leaves = λ view name found first second. with_update (body_looked_at view name found) view;
}

-- ---- new trees

-- storing a word of a node asks that the node is the update's, and that the new trees are not planned yet
pub record StoresNew (view : View) (r : Rebuild) (node : ℕ) : Type 0 where
  pub update : view.rebuild ≡ Some r
  pub early : IsEarly r
  pub idle : view.call.task ≡ Nothing
  pub arena : IsSome r.arena
  pub owns : Contains r.nodes node

-- a child is stored only once all bodies are noted
pub record MayStoreNewChild (view : View) (name : Name) (value second : ℕ) : Type 0 where
  pub node : ℕ
  pub child : ℕ
  pub r : Rebuild
  pub names : name ≡ Child node child
  pub stores : StoresNew view r node
  pub all_bodies : r.passed ≡ view.config.bodies

-- the place of a body is where its entry is stored
abbrev pub placed_note : ℕ → ℕ → Noted → Noted
placed_note index at n = if n.index == index then record n { place = at } else n

abbrev pub noted_at : ℕ → ℕ → List Noted → List Noted
noted_at index at noted = map (placed_note index at) noted

abbrev pub with_entry : Name → ℕ → Rebuild → Rebuild
with_entry (Child n k) value r = record r { noted = if value % 2 == 1 then noted_at (value / 2) (place n k) r.noted else r.noted }
with_entry name value r = r

abbrev pub with_written : Name → ℕ → View → View
with_written name value view = record view { written = also_written name value view.written }

-- Kind 20, store a child in a new tree
abbrev pub store_new_child : Kind
store_new_child = record {
  operation = store;
  entry = λ view name value. None;
  leaves = λ view name found value second. with_update (with_entry name value) (with_written name value view);
}

pub record MayStoreNewBound (view : View) (name : Name) (value second : ℕ) : Type 0 where
  pub node : ℕ
  pub child : ℕ
  pub side : ℕ
  pub r : Rebuild
  pub names : name ≡ Bound node child side
  pub stores : StoresNew view r node

-- Kind 21, store a side of a bound in a new tree
abbrev pub store_new_bound : Kind
store_new_bound = record {
  operation = store;
  entry = λ view name value. None;
  leaves = λ view name found value second. with_written name value view;
}

pub record MayStoreNewParent (layer : ℕ) (view : View) (name : Name) (value second : ℕ) : Type 0 where
  pub node : ℕ
  pub r : Rebuild
  pub names : name ≡ Parent node
  pub stores : StoresNew view r node
  pub of_world : layer < view.config.layers

-- the node is then one of the new tree of the layer; the root is the one without a parent
abbrev pub new_node : ℕ → ℕ → NewNode
new_node layer node = record { layer = layer; node = node }

abbrev pub made_with : ℕ → ℕ → List NewNode → List NewNode
made_with layer node made = filter (λ m. not (m.node == node)) made ++ new_node layer node ∷ []

abbrev pub roots_with : ℕ → ℕ → ℕ → List ℕ → List ℕ
roots_with layer node value roots = if value == 0 then slice_set roots layer (suc node) else roots

abbrev pub with_new_node : ℕ → Name → ℕ → Rebuild → Rebuild
with_new_node layer (Parent n) value r = record r { made = made_with layer n r.made; roots = roots_with layer n value r.roots }
with_new_node layer name value r = r

-- Kind 22, store a parent in a new tree of a layer
abbrev pub store_new_parent : ℕ → Kind
store_new_parent layer = record {
  operation = store;
  entry = λ view name value. None;
  leaves = λ view name found value second. with_update (with_new_node layer name value) (with_written name value view);
}

-- ---- the last store of the plan

-- what stands at a place of a node of a new tree: nothing, a body that is noted there, or a node below
pub data IsNewPart (word : Name → ℕ) (r : Rebuild) (depth : ℕ → ℕ) (layer n k : ℕ) : Type 0 where
  nothing : word (Child n k) ≡ 0 → IsNewPart word r depth layer n k
  a_body : (m : Noted) → Contains r.noted m → m.layer ≡ layer → m.place ≡ place n k → word (Child n k) ≡ body_child m.index → IsNewPart word r depth layer n k
  a_node : (c : ℕ) → Contains r.made (new_node layer c) → word (Child n k) ≡ node_child c → word (Parent c) ≡ place n k → depth c ≡ suc (depth n) → IsNewPart word r depth layer n k

-- a node of it is the root, or stands where its parent word says
abbrev pub IsBelowNewRoot : (Name → ℕ) → Rebuild → ℕ → ℕ → ℕ → Type 0
IsBelowNewRoot word r layer root c =
    ((c ≡ root) × (word (Parent c) ≡ 0))
    ⊎ ((n : ℕ) × (k : ℕ) × (k < 4) × Contains r.made (new_node layer n) × (word (Parent c) ≡ place n k) × (word (Child n k) ≡ node_child c))

-- a body that was noted has its entry at its place, and every bound from there up to the root contains the box that it had
pub record IsNewEntry (word : Name → ℕ) (r : Rebuild) (m : Noted) : Type 0 where
  pub node : ℕ
  pub child : ℕ
  pub below : child < 4
  pub in_tree : Contains r.made (new_node m.layer node)
  pub at : m.place ≡ place node child
  pub entry : word (Child node child) ≡ body_child m.index
  pub encloses : (a b : ℕ) → Above word node child a b → Covers (bound_in word a b) (sides_of m.bounds)

-- a body that was noted stands at a place, or below it
abbrev pub StandsBelow : (Name → ℕ) → Noted → ℕ → ℕ → Type 0
StandsBelow word m n k = (a : ℕ) × (b : ℕ) × (b < 4) × (m.place ≡ place a b) × Above word a b n k

-- one of those has this side
abbrev pub HasSideBelow : (Name → ℕ) → Rebuild → ℕ → ℕ → ℕ → ℕ → Type 0
HasSideBelow word r n k q side = (m : Noted) × Contains r.noted m × StandsBelow word m n k × (sides_of m.bounds q ≡ side)

-- the nodes that were made for a layer are one tree over the bodies that were noted in it, of ten levels at most, with
-- bounds that contain all boxes below and reach no further than these
pub record IsNewTree (word : Name → ℕ) (r : Rebuild) (depth : ℕ → ℕ) (layer root : ℕ) : Type 0 where
  pub named : slice_index r.roots layer ≡ suc root
  pub rooted : Contains r.made (new_node layer root)
  pub top : word (Parent root) ≡ 0
  pub parts : (n k : ℕ) → Contains r.made (new_node layer n) → k < 4 → IsNewPart word r depth layer n k
  pub under_root : (n : ℕ) → Contains r.made (new_node layer n) → IsBelowNewRoot word r layer root n
  pub height : (n : ℕ) → Contains r.made (new_node layer n) → depth n < 10
  pub entered : (m : Noted) → Contains r.noted m → m.layer ≡ layer → IsNewEntry word r m
  pub boxes : (n k : ℕ) → Contains r.made (new_node layer n) → k < 4 → word (Child n k) ≢ 0 → IsBox (bound_in word n k)
  pub tight : (n k : ℕ) → Contains r.made (new_node layer n) → k < 4 → word (Child n k) ≢ 0 → IsInHull (HasSideBelow word r n k) (bound_in word n k)

-- a layer in which no body was noted has no tree
pub record HasNoTree (r : Rebuild) (layer : ℕ) : Type 0 where
  pub no_root : slice_index r.roots layer ≡ 0
  pub no_nodes : (n : ℕ) → ¬ Contains r.made (new_node layer n)
  pub no_bodies : (m : Noted) → Contains r.noted m → m.layer ≢ layer

-- the new trees, by the words as they then stand: each node is one of one tree, in a layer of the world
pub record AreNewTrees (c : Config) (word : Name → ℕ) (r : Rebuild) : Type 0 where
  pub depth : ℕ → ℕ
  pub some : (m : Noted) × Contains r.noted m
  pub owned : (layer n : ℕ) → Contains r.made (new_node layer n) → Contains r.nodes n
  pub layers : (layer n : ℕ) → Contains r.made (new_node layer n) → layer < c.layers
  pub once : (layer other n : ℕ) → Contains r.made (new_node layer n) → Contains r.made (new_node other n) → layer ≡ other
  pub trees : (layer : ℕ) → ((root : ℕ) × IsNewTree word r depth layer root) ⊎ HasNoTree r layer

-- the words as they are known, with one store more
abbrev pub known_with : View → Name → ℕ → Name → ℕ
known_with view stored value name = if same_name name stored then value else known_word view name

-- the last store of a plan asks that the new trees stand with it
pub record MayFinishPlan (layer : ℕ) (view : View) (name : Name) (value second : ℕ) : Type 0 where
  pub node : ℕ
  pub r : Rebuild
  pub names : name ≡ Parent node
  pub stores : StoresNew view r node
  pub of_world : layer < view.config.layers
  pub all_bodies : r.passed ≡ view.config.bodies
  pub whole : AreNewTrees view.config (known_with view name value) (with_new_node layer name value r)

abbrev pub with_plan : ℕ → Name → ℕ → Rebuild → Rebuild
with_plan layer name value r = record (with_new_node layer name value r) { is_planned = true }

-- Kind 22, store the last parent of the new trees
abbrev pub finish_plan : ℕ → Kind
finish_plan layer = record {
  operation = store;
  entry = λ view name value. None;
  leaves = λ view name found value second. with_update (with_plan layer name value) (with_written name value view);
}
