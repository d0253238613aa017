-- The steps by which an update publishes its new trees: main words are exchanged, and then the merged slots are cleared. The
-- nodes of the tree that a word named are superseded from then on (from under to superseded), and those of the new tree of
-- a layer stand under its main word (from made to under).
use Rattle.std.specs.Prelude.{◌≡◌, ◌≢◌, ◌⊎◌, ℕ, zero, suc, ◌+◌, ◌-◌, ◌/◌, ◌%◌, ◌<◌, ◌==◌, true, false, not, if◌then◌else◌, List, [], ◌∷◌, ◌++◌, length, map, filter, find, Contains, Option, Some, None, IsSome, slice_index, slice_index_or}
use Rattle.std.specs.List.{list_any}
use Rattle.fixed_box.specs.FixBox.{words_of}
use Rattle.fixed_box.specs.declared.fix_box.FixBox.{FixBox}
use Rattle.scene_model.specs.Tree.{Tree, nothing, body, node, tree}
use Rattle.word_map.specs.declared.name.Name.{Name}
use Rattle.word_map.specs.declared.name.Name.TheVariants.{Child, Main, Slot}
use Rattle.core_state.specs.declared.item.Store.{Store}
use Rattle.core_state.specs.declared.view.Task.TheVariants.{Nothing}
use Rattle.core_state.specs.declared.view.Noted.{Noted}
use Rattle.core_state.specs.declared.view.Rebuild.{Rebuild}
use Rattle.core_state.specs.declared.view.View.{View}
use Rattle.core_state.specs.Names.{same_name}
use Rattle.core_state.specs.Updates.{IsDone, merged_tree}
use Rattle.core_state.specs.Operation.{store, exchange}
use Rattle.core_state.specs.Kind.{Kind}
use Rattle.core_state.specs.Batches.{written_outside}
use Rattle.core_state.specs.Noting.{with_update}

-- ---- the tree that was stored in own nodes

-- what was stored last under a name, and 0 where nothing was
abbrev pub value_of : Option Store → ℕ
value_of None = 0
value_of (Some s) = s.value

abbrev pub written_word : List Store → Name → ℕ
written_word written name = value_of (find (λ s. same_name s.name name) written)

-- the tree of a child word, by those of nodes
abbrev pub tree_of_child : (ℕ → Tree) → ℕ → Tree
tree_of_child below x = if x == 0 then nothing else (if x % 2 == 1 then body (x / 2) else below ((x - 2) / 2))

-- the tree that was stored from a node on, as far as so many levels reach
abbrev pub written_tree : List Store → ℕ → ℕ → Tree
written_tree written zero n = nothing
written_tree written (suc levels) n =
    let at = λ (k : ℕ). tree_of_child (written_tree written levels) (written_word written (Child n k)) in
    node (at 0) (at 1) (at 2) (at 3)

-- the bodies that were noted in a layer, in the order in which they were, with the boxes that they had then
abbrev pub notes_of_layer : Rebuild → ℕ → List Noted
notes_of_layer r layer = filter (λ n. n.layer == layer) r.noted

pub record AreNotes (r : Rebuild) (layer : ℕ) (bodies : List (ℕ × FixBox)) : Type 0 where
  pub indexes : map (λ b. b.0) bodies ≡ map (λ n. n.index) (notes_of_layer r layer)
  pub bounds : map (λ b. words_of b.1) bodies ≡ map (λ n. n.bounds) (notes_of_layer r layer)

-- a new main word: of a layer in which nothing was noted it is 0, else it names the root of the tree over what was noted
-- there, as the pass stored it before it placed any body
pub data IsNewMain (view : View) (r : Rebuild) (layer value : ℕ) : Type 0 where
  of_none : value ≡ 0 → notes_of_layer r layer ≡ [] → IsNewMain view r layer value
  of_tree : (root : ℕ) (bodies : List (ℕ × FixBox)) → r.is_planned ≡ true → value ≡ suc root → AreNotes r layer bodies → bodies ≢ []
      → written_tree view.written 10 root ≡ tree bodies → IsNewMain view r layer value

-- ---- the steps

-- exchanging a main word asks that it is the next one, and that all bodies that were noted are placed or given up
pub record MayExchange (view : View) (name : Name) (value second : ℕ) : Type 0 where
  pub layer : ℕ
  pub r : Rebuild
  pub names : name ≡ Main layer
  pub update : view.rebuild ≡ Some r
  pub idle : view.call.task ≡ Nothing
  pub arena : IsSome r.arena
  pub all_bodies : r.passed ≡ view.config.bodies
  pub planned : (r.is_planned ≡ true) ⊎ (r.noted ≡ [])
  pub next : layer ≡ length r.swapped
  pub done : (n : Noted) → Contains r.noted n → IsDone view r n.index
  pub unread : r.readers ≡ []
  pub unreclaimed : r.is_reclaimed ≡ false
  pub root : value ≡ slice_index r.roots layer
  pub of_notes : IsNewMain view r layer value

-- the nodes that were made for a layer, once they are planned: from then on they are no longer the update's own
abbrev pub nodes_made : Rebuild → ℕ → List ℕ
nodes_made r layer = if r.is_planned then map (λ m. m.node) (filter (λ m. m.layer == layer) r.made) else []

abbrev pub with_exchange : ℕ → ℕ → Rebuild → Rebuild
with_exchange layer found r = record r {
  swapped = r.swapped ++ found ∷ [];
  nodes = filter (λ n. not (list_any (λ m. m == n) (nodes_made r layer))) r.nodes;
  made = if r.is_planned then filter (λ m. not (m.layer == layer)) r.made else r.made;
}

abbrev pub nodes_made_in : Option Rebuild → ℕ → List ℕ
nodes_made_in None layer = []
nodes_made_in (Some r) layer = nodes_made r layer

abbrev pub exchanged_view : View → Name → ℕ → View
exchanged_view view (Main layer) found =
    record (with_update (with_exchange layer found) view) { written = written_outside (nodes_made_in view.rebuild layer) view.written }
exchanged_view view name found = view

-- Kind 47, exchange a main word
abbrev pub exchange_main : Kind
exchange_main = record {
  operation = exchange;
  entry = λ view name value. None;
  leaves = λ view name found first second. exchanged_view view name found;
}

-- clearing a slot asks that all main words are exchanged, and that it is the next of those in which a tree was found
pub record MayClearSlot (view : View) (name : Name) (value second : ℕ) : Type 0 where
  pub layer : ℕ
  pub slot : ℕ
  pub root : ℕ
  pub r : Rebuild
  pub names : name ≡ Slot layer slot
  pub update : view.rebuild ≡ Some r
  pub all_bodies : r.passed ≡ view.config.bodies
  pub planned : (r.is_planned ≡ true) ⊎ (r.noted ≡ [])
  pub all_swapped : length r.swapped ≡ view.config.layers
  pub some_left : r.cleared < length r.merged
  pub next : slice_index_or r.merged r.cleared (merged_tree layer slot root) ≡ merged_tree layer slot root
  pub unread : r.readers ≡ []
  pub unreclaimed : r.is_reclaimed ≡ false
  pub none : value ≡ 0

-- Kind 48, clear a merged slot
abbrev pub clear_slot : Kind
clear_slot = record {
  operation = store;
  entry = λ view name value. None;
  leaves = λ view name found first second. with_update (λ r. record r { cleared = r.cleared + 1 }) view;
}
