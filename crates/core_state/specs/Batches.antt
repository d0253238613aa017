-- The steps on batches: a slot is reserved, bodies are marked, nodes are stored, and the batch is attached; or all of it
-- is taken back.
use Rattle.std.specs.Prelude.{◌≡◌, ◌≢◌, ◌⊎◌, ℕ, suc, ◌-◌, ◌<◌, ◌≤◌, ◌==◌, Bool, true, false, not, ◌&&◌, if◌then◌else◌, List, [], ◌∷◌, ◌++◌, map, flat_map, filter, find, Contains, Option, Some, None, option_map}
use Rattle.std.specs.List.{range_with_len, list_any}
use Rattle.scene_model.specs.declared.entry.Entry.{Entry}
use Rattle.scene_model.specs.declared.entry.Entry.TheVariants.{Mark, Unmark, Join}
use Rattle.word_map.specs.declared.name.Name.{Name}
use Rattle.word_map.specs.declared.name.Name.TheVariants.{State, Phase, Layer, BoxWord, LocA, Child, Parent, Slot}
use Rattle.word_map.specs.Names.{stripe_of}
use Rattle.core_state.specs.declared.item.Store.{Store}
use Rattle.core_state.specs.declared.view.Mode.TheVariants.{Write}
use Rattle.core_state.specs.declared.view.Task.TheVariants.{Nothing}
use Rattle.core_state.specs.declared.view.Marked.{Marked}
use Rattle.core_state.specs.declared.view.Batch.{Batch}
use Rattle.core_state.specs.declared.view.View.{View}
use Rattle.core_state.specs.Names.{same_name}
use Rattle.core_state.specs.View.{IsPass, Holds, known_word}
use Rattle.core_state.specs.Encoding.{reserved_by, slot_tree, body_child, node_child, place, phase_out, phase_join, sides_of, IsBox, Covers, bound_in}
use Rattle.core_state.specs.Nodes.{node_in, Above}
use Rattle.core_state.specs.Bodies.{IsForSlot}
use Rattle.core_state.specs.Space.{IsInHull}
use Rattle.core_state.specs.Operation.{load, store, compare_exchange}
use Rattle.core_state.specs.Kind.{Kind, Asking}

-- ---- the batches of a view

-- the pass has this batch, for this slot
pub record HasBatch (view : View) (layer slot : ℕ) (batch : Batch) : Type 0 where
  pub among : Contains view.batches batch
  pub for_slot : IsForSlot layer slot batch

abbrev pub is_for : ℕ → ℕ → Batch → Bool
is_for layer slot batch = (batch.layer == layer) && (batch.slot == slot)

-- the batch for a slot is changed, or gone
abbrev pub change_batch : ℕ → ℕ → (Batch → Batch) → List Batch → List Batch
change_batch layer slot change batches = map (λ b. if is_for layer slot b then change b else b) batches

abbrev pub without_batch : ℕ → ℕ → List Batch → List Batch
without_batch layer slot batches = filter (λ b. not (is_for layer slot b)) batches

-- the newest batch is changed: the one that is being prepared
abbrev pub change_newest : (Batch → Batch) → List Batch → List Batch
change_newest change [] = []
change_newest change (b ∷ []) = change b ∷ []
change_newest change (b ∷ c ∷ rest) = b ∷ change_newest change (c ∷ rest)

-- the bodies of a batch
abbrev pub with_bodies : (List Marked → List Marked) → Batch → Batch
with_bodies change b = record b { marked = change b.marked }

abbrev pub changed_at : ℕ → (Marked → Marked) → Marked → Marked
changed_at index change m = if m.index == index then change m else m

-- the body at an index is changed where a batch has marked it, or gone
abbrev pub change_marked : ℕ → (Marked → Marked) → List Batch → List Batch
change_marked index change batches = map (with_bodies (map (changed_at index change))) batches

abbrev pub without_marked : ℕ → List Batch → List Batch
without_marked index batches = map (with_bodies (filter (λ m. not (m.index == index)))) batches

-- a body that a batch of the pass has marked
pub record HasMarked (view : View) (batch : Batch) (m : Marked) : Type 0 where
  pub among : Contains view.batches batch
  pub marked : Contains batch.marked m

-- ---- slots

-- Kind 17, load a slot
abbrev pub MayLoadSlot : Asking
MayLoadSlot view name first second = (layer : ℕ) × (slot : ℕ) × (name ≡ Slot layer slot)

abbrev pub load_slot : Kind
load_slot = record {
  operation = load;
  entry = λ view name value. None;
  leaves = λ view name found first second. view;
}

-- reserving a slot asks that the word expected is 0; the new one has the pass's number
pub record MayReserve (view : View) (name : Name) (expected new : ℕ) : Type 0 where
  pub layer : ℕ
  pub slot : ℕ
  pub number : ℕ
  pub names : name ≡ Slot layer slot
  pub pass : IsPass view number
  pub empty : expected ≡ 0
  pub own : new ≡ reserved_by number

-- a batch of which nothing is there but its slot
abbrev pub new_batch : ℕ → ℕ → Batch
new_batch layer slot = record { layer = layer; slot = slot; nodes = []; marked = [] }

-- the view after an exchange of a slot: the pass has a new batch where the word was the one expected
abbrev pub reserved_if : View → Name → ℕ → ℕ → View
reserved_if view (Slot layer slot) found expected = if found == expected then record view { batches = view.batches ++ new_batch layer slot ∷ [] } else view
reserved_if view name found expected = view

-- Kind 18, reserve a slot
abbrev pub reserve : Kind
reserve = record {
  operation = compare_exchange;
  entry = λ view name value. None;
  leaves = λ view name found first second. reserved_if view name found first;
}

-- ---- marks

-- marking a body asks that it is live, out, and in the layer of a batch of the pass, under its stripe
pub record MayMark (view : View) (name : Name) (value second : ℕ) : Type 0 where
  pub index : ℕ
  pub layer : ℕ
  pub slot : ℕ
  pub batch : Batch
  pub names : name ≡ Phase index
  pub has : HasBatch view layer slot batch
  pub stripe : Holds view (stripe_of view.config index) Write
  pub idle : view.call.task ≡ Nothing
  pub live : 256 ≤ known_word view (State index)
  pub out : known_word view (Phase index) ≡ phase_out
  pub in_layer : known_word view (Layer index) ≡ layer
  pub joins : value ≡ phase_join slot

-- a body as it is marked: with its box, and at no place yet
abbrev pub marked_now : View → ℕ → Marked
marked_now view index = record { index = index; bounds = map (λ k. known_word view (BoxWord index k)) (range_with_len 0 6); place = 0; is_placed = false }

abbrev pub with_mark : View → Name → ℕ → View
with_mark view (Phase index) value =
    record view { batches = change_batch (known_word view (Layer index)) (value - 2) (λ b. record b { marked = b.marked ++ marked_now view index ∷ [] }) view.batches }
with_mark view name value = view

abbrev pub mark_of : Name → Option Entry
mark_of (Phase index) = Some (Mark index)
mark_of _ = None

-- Kind 19, mark a body
abbrev pub mark : Kind
mark = record {
  operation = store;
  entry = λ view name value. mark_of name;
  leaves = λ view name found value second. with_mark view name value;
}

-- unmarking asks that the body is held for a batch of the pass, under its stripe, and that its location was taken back
pub record MayUnmark (view : View) (name : Name) (value second : ℕ) : Type 0 where
  pub batch : Batch
  pub m : Marked
  pub has : HasMarked view batch m
  pub names : name ≡ Phase m.index
  pub stripe : Holds view (stripe_of view.config m.index) Write
  pub idle : view.call.task ≡ Nothing
  pub unplaced : m.is_placed ≡ false
  pub out : value ≡ phase_out

abbrev pub with_unmark : View → Name → View
with_unmark view (Phase index) = record view { batches = without_marked index view.batches }
with_unmark view name = view

abbrev pub unmark_of : Name → Option Entry
unmark_of (Phase index) = Some (Unmark index)
unmark_of _ = None

-- Kind 26, unmark a body
abbrev pub unmark : Kind
unmark = record {
  operation = store;
  entry = λ view name value. unmark_of name;
  leaves = λ view name found value second. with_unmark view name;
}

-- ---- nodes

-- the nodes of batches, and those that it is to give back
abbrev pub batch_nodes_of : View → List ℕ
batch_nodes_of view = flat_map (λ b. b.nodes) view.batches ++ view.loose

-- storing a word of a node asks that the pass owns the node, and that it stands in no tree
pub record MayStoreNode (view : View) (name : Name) (value second : ℕ) : Type 0 where
  pub node : ℕ
  pub of_node : node_in name ≡ Some node
  pub owns : Contains (batch_nodes_of view) node

-- what was stored in own nodes, with one word more; of each word the last is kept
abbrev pub also_written : Name → ℕ → List Store → List Store
also_written name value written = filter (λ s. not (same_name s.name name)) written ++ record { name = name; value = value } ∷ []

-- Kinds 20, 21, 22, store a child, a side of a bound, a parent
abbrev pub store_node : Kind
store_node = record {
  operation = store;
  entry = λ view name value. None;
  leaves = λ view name found value second. record view { written = also_written name value view.written };
}

-- what was stored in other nodes than these
abbrev pub is_in_nodes : List ℕ → Option ℕ → Bool
is_in_nodes nodes None = false
is_in_nodes nodes (Some n) = list_any (λ m. m == n) nodes

abbrev pub written_outside : List ℕ → List Store → List Store
written_outside nodes written = filter (λ s. not (is_in_nodes nodes (node_in s.name))) written

-- ---- locations

-- storing a first location asks that the body is held for a batch of the pass and has none; it is a place in its nodes
pub record MayPlace (view : View) (name : Name) (value second : ℕ) : Type 0 where
  pub batch : Batch
  pub m : Marked
  pub has : HasMarked view batch m
  pub names : name ≡ LocA m.index
  pub unplaced : m.is_placed ≡ false
  pub node : ℕ
  pub child : ℕ
  pub below : child < 4
  pub in_batch : Contains batch.nodes node
  pub at : value ≡ place node child

abbrev pub with_place : View → Name → ℕ → View
with_place view (LocA index) value = record view { batches = change_marked index (λ m. record m { place = value; is_placed = true }) view.batches }
with_place view name value = view

-- Kind 23, store a first location
abbrev pub place_body : Kind
place_body = record {
  operation = store;
  entry = λ view name value. None;
  leaves = λ view name found value second. with_place view name value;
}

-- taking it back asks for the body's stripe
pub record MayTakeBack (view : View) (name : Name) (value second : ℕ) : Type 0 where
  pub batch : Batch
  pub m : Marked
  pub has : HasMarked view batch m
  pub names : name ≡ LocA m.index
  pub stripe : Holds view (stripe_of view.config m.index) Write
  pub none : value ≡ 0

abbrev pub without_place : View → Name → View
without_place view (LocA index) = record view { batches = change_marked index (λ m. record m { is_placed = false }) view.batches }
without_place view name = view

-- Kind 25, take a location back
abbrev pub take_back : Kind
take_back = record {
  operation = store;
  entry = λ view name value. None;
  leaves = λ view name found value second. without_place view name;
}

-- ---- the end of a batch

-- what stands at a place of a node of the batch: nothing, a body that is placed there, or a node below
pub data IsPart (word : Name → ℕ) (batch : Batch) (depth : ℕ → ℕ) (n k : ℕ) : Type 0 where
  nothing : word (Child n k) ≡ 0 → IsPart word batch depth n k
  a_body : (m : Marked) → Contains batch.marked m → m.place ≡ place n k → word (Child n k) ≡ body_child m.index → IsPart word batch depth n k
  a_node : (c : ℕ) → Contains batch.nodes c → word (Child n k) ≡ node_child c → word (Parent c) ≡ place n k → depth c ≡ suc (depth n) → IsPart word batch depth n k

-- a node of the batch is the root, or stands where its parent word says
abbrev pub IsBelowRoot : (Name → ℕ) → Batch → ℕ → ℕ → Type 0
IsBelowRoot word batch root c =
    ((c ≡ root) × (word (Parent c) ≡ 0))
    ⊎ ((n : ℕ) × (k : ℕ) × (k < 4) × Contains batch.nodes n × (word (Parent c) ≡ place n k) × (word (Child n k) ≡ node_child c))

-- a body of the batch has its entry where it is placed, and every bound from there up to the root contains its box
pub record IsEntered (word : Name → ℕ) (batch : Batch) (m : Marked) : Type 0 where
  pub placed : m.is_placed ≡ true
  pub node : ℕ
  pub child : ℕ
  pub below : child < 4
  pub in_batch : Contains batch.nodes node
  pub at : m.place ≡ place node child
  pub entry : word (Child node child) ≡ body_child m.index
  pub encloses : (a b : ℕ) → Above word node child a b → Covers (bound_in word a b) (sides_of m.bounds)

-- some body of the batch has this side
abbrev pub HasSide : Batch → ℕ → ℕ → Type 0
HasSide batch q side = (m : Marked) × Contains batch.marked m × (sides_of m.bounds q ≡ side)

-- the nodes of the batch are one tree over its bodies, of ten levels at most, with bounds that contain all boxes below
-- and reach no further than the boxes of the batch
pub record IsWholeTree (word : Name → ℕ) (batch : Batch) (root : ℕ) : Type 0 where
  pub depth : ℕ → ℕ
  pub rooted : Contains batch.nodes root
  pub parts : (n k : ℕ) → Contains batch.nodes n → k < 4 → IsPart word batch depth n k
  pub under_root : (n : ℕ) → Contains batch.nodes n → IsBelowRoot word batch root n
  pub height : (n : ℕ) → Contains batch.nodes n → depth n < 10
  pub entered : (m : Marked) → Contains batch.marked m → IsEntered word batch m
  pub some : (m : Marked) × Contains batch.marked m
  pub boxes : (n k : ℕ) → Contains batch.nodes n → k < 4 → word (Child n k) ≢ 0 → IsBox (bound_in word n k)
  pub tight : (n k : ℕ) → Contains batch.nodes n → k < 4 → word (Child n k) ≢ 0 → IsInHull (HasSide batch) (bound_in word n k)

-- attaching asks that the nodes of the batch are such a tree
pub record MayAttach (view : View) (name : Name) (value second : ℕ) : Type 0 where
  pub layer : ℕ
  pub slot : ℕ
  pub batch : Batch
  pub names : name ≡ Slot layer slot
  pub has : HasBatch view layer slot batch
  pub root : ℕ
  pub whole : IsWholeTree (known_word view) batch root
  pub attached : value ≡ slot_tree root

-- the batch for a slot
abbrev pub batch_for : ℕ → ℕ → View → Option Batch
batch_for layer slot view = find (λ b. is_for layer slot b) view.batches

abbrev pub joined_by : View → Name → Option Entry
joined_by view (Slot layer slot) = option_map (λ b. Join layer (map (λ m. m.index) b.marked)) (batch_for layer slot view)
joined_by view _ = None

-- the pass has the batch no more, and owns none of its nodes
abbrev pub nodes_for : Option Batch → List ℕ
nodes_for None = []
nodes_for (Some batch) = batch.nodes

abbrev pub attached_view : View → Name → View
attached_view view (Slot layer slot) =
    record view { batches = without_batch layer slot view.batches; written = written_outside (nodes_for (batch_for layer slot view)) view.written }
attached_view view _ = view

-- Kind 24, attach a batch
abbrev pub attach : Kind
attach = record {
  operation = store;
  entry = λ view name value. joined_by view name;
  leaves = λ view name found value second. attached_view view name;
}

-- letting a slot go asks that the batch has marked no body, or none any more
pub record MayLetSlotGo (view : View) (name : Name) (value second : ℕ) : Type 0 where
  pub layer : ℕ
  pub slot : ℕ
  pub batch : Batch
  pub names : name ≡ Slot layer slot
  pub has : HasBatch view layer slot batch
  pub bare : batch.marked ≡ []
  pub empty : value ≡ 0

-- its nodes are then to be given back
abbrev pub let_go_view : View → Name → View
let_go_view view (Slot layer slot) = record view { batches = without_batch layer slot view.batches; loose = view.loose ++ nodes_for (batch_for layer slot view) }
let_go_view view _ = view

-- Kind 27, let a slot go
abbrev pub let_slot_go : Kind
let_slot_go = record {
  operation = store;
  entry = λ view name value. None;
  leaves = λ view name found value second. let_go_view view name;
}
