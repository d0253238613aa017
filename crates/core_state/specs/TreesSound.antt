-- The trees are sound: child and parent words agree, each node stands once, trees are low, and bounds are boxes.
use Rattle.std.specs.Prelude.{◌≡◌, ◌≢◌, ◌⊎◌, ℕ, suc, ◌<◌, ◌≤◌, Bool, true, false, length, map, Contains, option_map, slice_index, slice_index_or, IfSome}
use Rattle.word_map.specs.declared.name.Name.{Name}
use Rattle.word_map.specs.declared.name.Name.TheVariants.{Child, Bound, Parent, Main, Slot}
use Rattle.core_state.specs.declared.item.Store.{Store}
use Rattle.core_state.specs.declared.view.Rebuild.{Rebuild}
use Rattle.core_state.specs.declared.view.Waiting.{Waiting}
use Rattle.core_state.specs.Core.{Core, word_of}
use Rattle.core_state.specs.Scope.{Scope, Sight, sight, IsOnce, HasPass, EachPass}
use Rattle.core_state.specs.Encoding.{body_child, node_child, place, NamesRoot, IsBox, bound_in}
use Rattle.core_state.specs.Parts.{update_on_trees}
use Rattle.core_state.specs.Nodes.{Nodes, Home, node_in, owned, made, under, superseded, returning, Stands, IsOwnedBy}
use Rattle.core_state.specs.Updates.{EachUpdate, HasUpdate, merged_tree}

abbrev pub is_tree_word : Name → Bool
is_tree_word (Child n k) = true
is_tree_word (Bound n k q) = true
is_tree_word (Parent n) = true
is_tree_word (Main l) = true
is_tree_word (Slot l t) = true
is_tree_word _ = false

-- it reads those words, and of each view what was stored in own nodes, and the trees of the update
abbrev pub tree_scope : Scope
tree_scope = record {
  names = is_tree_word;
  reads_history = false;
  part = λ bare view. record bare { written = view.written; rebuild = option_map update_on_trees view.rebuild };
}

-- the root of a tree that an update took out of sight: of a main tree that it exchanged, or of a merged one whose slot it
-- cleared
pub data IsSupersededRoot (r : Rebuild) : Name → ℕ → Type 0 where
  of_main : (l root : ℕ) → l < length r.swapped → slice_index r.swapped l ≡ suc root → IsSupersededRoot r (Main l) root
  of_slot : (l t root k : ℕ) → k < r.cleared → k < length r.merged → slice_index_or r.merged k (merged_tree l t root) ≡ merged_tree l t root
      → IsSupersededRoot r (Slot l t) root

-- the node is the root of a tree of this home
abbrev pub IsRootOf : Sight → Home → ℕ → Type 0
IsRootOf s (under name) root = NamesRoot name (s.word name) root
IsRootOf s (made number l) root = HasPass s number (λ view. HasUpdate view (λ r. slice_index r.roots l ≡ suc root))
IsRootOf s (superseded number name) root = HasPass s number (λ view. HasUpdate view (λ r. IsSupersededRoot r name root))
IsRootOf s _ root = ⊥

-- what a child word may be: nothing, a body of the world, or a node below, which stands in the same tree one level lower
pub data IsChild (nodes : Nodes) (s : Sight) (n k : ℕ) : Type 0 where
  nothing : s.word (Child n k) ≡ 0 → IsChild nodes s n k
  a_body : (i : ℕ) → i < s.config.bodies → s.word (Child n k) ≡ body_child i → IsChild nodes s n k
  a_node : (m : ℕ) → s.word (Child n k) ≡ node_child m → nodes.home m ≡ nodes.home n → s.word (Parent m) ≡ place n k
      → nodes.depth m ≡ suc (nodes.depth n) → IsChild nodes s n k

-- a node has no parent and is a root, or stands at the place that its parent word names
pub data IsPlaced (nodes : Nodes) (s : Sight) (m : ℕ) : Type 0 where
  as_root : s.word (Parent m) ≡ 0 → IsRootOf s (nodes.home m) m → IsPlaced nodes s m
  at_place : (n k : ℕ) → k < 4 → s.word (Parent m) ≡ place n k → s.word (Child n k) ≡ node_child m → nodes.home n ≡ nodes.home m
      → IsPlaced nodes s m

-- a node that stands in a tree
pub record IsSoundNode (nodes : Nodes) (s : Sight) (n : ℕ) : Type 0 where
  pub children : (k : ℕ) → k < 4 → IsChild nodes s n k
  pub placed : IsPlaced nodes s n
  pub height : nodes.depth n < 10
  pub bounds : (k : ℕ) → k < 4 → s.word (Child n k) ≢ 0 → IsBox (bound_in s.word n k)

-- an owned node has what its owner stored there. In a tree that an update has made others may since have widened bounds
-- and taken bodies away
abbrev pub IsAsStored : (Name → ℕ) → Home → Name → ℕ → Type 0
IsAsStored word (owned number) name value = word name ≡ value
IsAsStored word (made number l) (Parent n) value = word (Parent n) ≡ value
IsAsStored word (made number l) (Child n k) value = (word (Child n k) ≡ value) ⊎ ((word (Child n k) ≡ 0) × ((i : ℕ) × (value ≡ body_child i)))
IsAsStored word (made number l) (Bound n k q) value = (q < 3 → word (Bound n k q) ≤ value) × (3 ≤ q → value ≤ word (Bound n k q))
IsAsStored word _ name value = ⊥

-- ---- what is left of merged trees that are given back

-- a node that is to be given back is one of the tops of what is left, or stands below another such node
pub data IsLeft (nodes : Nodes) (s : Sight) (number : ℕ) (r : Rebuild) (m : ℕ) : Type 0 where
  as_top : (level : ℕ) → Contains r.returning (record { node = m; level = level }) → IsLeft nodes s number r m
  below : (n k : ℕ) → k < 4 → s.word (Parent m) ≡ place n k → s.word (Child n k) ≡ node_child m → nodes.home n ≡ returning number
      → IsLeft nodes s number r m

pub record IsLeftNode (nodes : Nodes) (s : Sight) (number : ℕ) (r : Rebuild) (n : ℕ) : Type 0 where
  pub children : (k : ℕ) → k < 4 → IsChild nodes s n k
  pub left : IsLeft nodes s number r n
  pub height : nodes.depth n < 10

-- a top: no node above it is left, and its level is not too high
pub record IsTop (nodes : Nodes) (s : Sight) (number : ℕ) (top : Waiting) : Type 0 where
  pub owned : nodes.home top.node ≡ returning number
  pub alone : (n k : ℕ) → k < 4 → s.word (Parent top.node) ≡ place n k → nodes.home n ≢ returning number
  pub low : top.level ≤ suc (nodes.depth top.node)

pub record AreTops (nodes : Nodes) (s : Sight) (number : ℕ) (r : Rebuild) : Type 0 where
  pub tops : (top : Waiting) → Contains r.returning top → IsTop nodes s number top
  pub once : IsOnce (map (λ w. w.node) r.returning)

-- ---- the law

-- the root of each new tree, until it is published, and of each tree that was taken out of sight, until no reader is left
abbrev pub RootsMade : Nodes → Sight → ℕ → Rebuild → Type 0
RootsMade nodes s number r = (l root : ℕ) → r.is_planned ≡ true → length r.swapped ≤ l → slice_index r.roots l ≡ suc root
    → (nodes.home root ≡ made number l) × (s.word (Parent root) ≡ 0)

abbrev pub RootsSuperseded : Nodes → Sight → ℕ → Rebuild → Type 0
RootsSuperseded nodes s number r = (name : Name) (root : ℕ) → r.is_reclaimed ≡ false → IsSupersededRoot r name root
    → (nodes.home root ≡ superseded number name) × (s.word (Parent root) ≡ 0)

pub record TreesSoundIn (nodes : Nodes) (s : Sight) : Type 0 where
  pub sound : (n : ℕ) → Stands (nodes.home n) → IsSoundNode nodes s n
  -- the root that a main or slot word names is of that tree, and has no parent
  pub roots : (name : Name) (root : ℕ) → NamesRoot name (s.word name) root → (nodes.home root ≡ under name) × (s.word (Parent root) ≡ 0)
  -- what a pass stored in its own nodes stands there
  pub stored : EachPass s (λ number view. (store : Store) → Contains view.written store
      → IfSome (node_in store.name) (λ n. IsOwnedBy number (nodes.home n) × IsAsStored s.word (nodes.home n) store.name store.value))
  -- the roots of trees that are not published are known to the update
  pub made_roots : EachUpdate s (λ number view r. RootsMade nodes s number r)
  pub superseded_roots : EachUpdate s (λ number view r. RootsSuperseded nodes s number r)
  -- of merged trees that are given back none of the nodes is lost
  pub left_nodes : (n number : ℕ) → nodes.home n ≡ returning number → HasPass s number (λ view. HasUpdate view (λ r. IsLeftNode nodes s number r n))
  pub tops : EachUpdate s (λ number view r. AreTops nodes s number r)

abbrev pub TreesSound : Nodes → Core → Type 0
TreesSound nodes core = TreesSoundIn nodes (sight tree_scope core)

-- bounds of trees only widen: so every event leaves them
abbrev pub BoundsOnlyWiden : Nodes → Core → Core → Type 0
BoundsOnlyWiden nodes before after = (n k q : ℕ) → Stands (nodes.home n) →
    (q < 3 → word_of after (Bound n k q) ≤ word_of before (Bound n k q)) × (3 ≤ q → word_of before (Bound n k q) ≤ word_of after (Bound n k q))
