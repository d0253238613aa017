-- Where each node of the trees is. The laws of trees speak of one such map; it is no part of the words or views.
use Rattle.std.specs.Prelude.{◌≡◌, ℕ, ◌<◌, List, [], ◌++◌, flat_map, Option, Some, None, ⊤}
use Rattle.word_map.specs.declared.name.Name.{Name}
use Rattle.word_map.specs.declared.name.Name.TheVariants.{Child, Bound, Parent}
use Rattle.core_state.specs.declared.view.View.{View}
use Rattle.core_state.specs.declared.view.Rebuild.{Rebuild}
use Rattle.core_state.specs.Encoding.{node_child, place, layer_of}

-- where a node is; passes are numbers and trees go by the name of their word
pub data Home : Type 0 where
  -- in the list of free batch nodes
  free : Home
  -- an arena node that nobody uses
  spare : Home
  -- a pass's own: in a batch that it prepares, or for an update
  owned : ℕ → Home
  -- a pass's own: in the new tree of a layer that its update has planned and not published
  made : ℕ → ℕ → Home
  -- published: in the tree that this main or slot word names
  under : Name → Home
  -- in a tree that this word named, which the update of a pass took out of sight
  superseded : ℕ → Name → Home
  -- a batch node of such a tree that no walk can reach any more: the pass is to give it back
  returning : ℕ → Home

-- how deep a node stands below its root, beside its home
pub record Nodes : Type 0 where
  pub home : ℕ → Home
  pub depth : ℕ → ℕ

-- the pass owns the node
abbrev pub IsOwnedBy : ℕ → Home → Type 0
IsOwnedBy pass (owned p) = p ≡ pass
IsOwnedBy pass (made p l) = p ≡ pass
IsOwnedBy pass _ = ⊥

-- the node is in a tree that others may reach: a published or superseded one
abbrev pub IsLive : Home → Type 0
IsLive (under name) = ⊤
IsLive (superseded p name) = ⊤
IsLive _ = ⊥

-- the node stands in a tree, be it one that is only made yet
abbrev pub Stands : Home → Type 0
Stands (made p l) = ⊤
Stands home = IsLive home

-- the node stands, or is part of what is left of a tree
abbrev pub IsInTree : Home → Type 0
IsInTree (returning p) = ⊤
IsInTree home = Stands home

-- it is in a published tree
abbrev pub IsPublished : Home → Type 0
IsPublished (under name) = ⊤
IsPublished _ = ⊥

-- the tree is one of this layer
abbrev pub IsOfLayer : ℕ → Home → Type 0
IsOfLayer layer (under name) = layer_of name ≡ Some layer
IsOfLayer layer (made p l) = l ≡ layer
IsOfLayer layer (superseded p name) = layer_of name ≡ Some layer
IsOfLayer layer _ = ⊥

-- the node of a word of a tree
abbrev pub node_in : Name → Option ℕ
node_in (Child n k) = Some n
node_in (Bound n k q) = Some n
node_in (Parent n) = Some n
node_in _ = None

-- ---- ways up and down, by the words of places

-- the child at a place of a node, or one above it
pub data Above (word : Name → ℕ) : ℕ → ℕ → ℕ → ℕ → Type 0 where
  here : (n k : ℕ) → Above word n k n k
  higher : (n k m j a b : ℕ) → word (Parent n) ≡ place m j → j < 4 → Above word m j a b → Above word n k a b

-- a node, or one below it
pub data Below (word : Name → ℕ) : ℕ → ℕ → Type 0 where
  itself : (n : ℕ) → Below word n n
  lower : (n k m a : ℕ) → k < 4 → word (Child n k) ≡ node_child m → Below word m a → Below word n a

-- ---- the nodes that a pass owns

abbrev pub nodes_in : Option Rebuild → List ℕ
nodes_in None = []
nodes_in (Some r) = r.nodes

abbrev pub nodes_of : View → List ℕ
nodes_of view = flat_map (λ b. b.nodes) view.batches ++ (view.loose ++ nodes_in view.rebuild)
