-- The readers are counted: a reader word is odd while its pass walks, and no walk reaches what an update gives back.
use Rattle.std.specs.Prelude.{◌≡◌, ◌≢◌, ◌⊎◌, ◌↔◌, ℕ, suc, ◌+◌, ◌%◌, ◌<◌, ◌≤◌, Bool, true, false, List, ◌∷◌, ◌++◌, map, fold, Contains, AllPairs, Option, Some, None, option_map, IfSome, ⊤}
use Rattle.word_map.specs.declared.name.Name.{Name}
use Rattle.word_map.specs.declared.name.Name.TheVariants.{Reader, Child, Bound, Parent, LocA, LocB, Main, Slot}
use Rattle.core_state.specs.declared.item.Load.{Load}
use Rattle.core_state.specs.declared.view.Task.{Task}
use Rattle.core_state.specs.declared.view.Task.TheVariants.{Moving, Removing}
use Rattle.core_state.specs.declared.view.Noted.{Noted}
use Rattle.core_state.specs.declared.view.Waiting.{Waiting}
use Rattle.core_state.specs.declared.view.Walk.{Walk}
use Rattle.core_state.specs.declared.view.Rebuild.{Rebuild}
use Rattle.core_state.specs.Core.{Core}
use Rattle.core_state.specs.Scope.{Scope, Sight, sight, HasPass, EachPass}
use Rattle.core_state.specs.Parts.{call_at, task_at_place, update_on_readers}
use Rattle.core_state.specs.Encoding.{Sides, node_child, place, bound_in}
use Rattle.core_state.specs.Nodes.{Nodes, made, under, superseded, IsLive, Stands, IsOfLayer, Above, Below}
use Rattle.core_state.specs.Updates.{EachUpdate, IsSameBody}
use Rattle.core_state.specs.LocationsHold.{IsLocation}
use Rattle.core_state.specs.Space.{HadAs, IsComing, IsInHull, IsInLayer, IsInSpace, IsSideIn}
use Rattle.core_state.specs.WalkRecord.{IsLoaded}
use Rattle.core_state.specs.Walking.{Query, Spot, resting, at_child, at_bound, Position, waiting, Follows, position_of}

abbrev pub is_reader_word : Name → Bool
is_reader_word (Reader p) = true
is_reader_word (Child n k) = true
is_reader_word (Bound n k q) = true
is_reader_word (Parent n) = true
is_reader_word (LocA i) = true
is_reader_word (LocB i) = true
is_reader_word _ = false

-- it reads those words, the history, and of each view the walk, which body it moves or removes, and what the update noted
-- and which readers it loaded
abbrev pub reader_scope : Scope
reader_scope = record {
  names = is_reader_word;
  reads_history = true;
  part = λ bare view. record bare { walk = view.walk; call = call_at (task_at_place view.call.task); rebuild = option_map update_on_readers view.rebuild };
}

-- ---- what a walk can still reach

-- from the node at hand by the children from one on
abbrev pub ReachesByChild : (Name → ℕ) → ℕ → ℕ → ℕ → Type 0
ReachesByChild word n from a = (k : ℕ) × (m : ℕ) × (from ≤ k) × (k < 4) × (word (Child n k) ≡ node_child m) × Below word m a

pub data ReachesBySpot (word : Name → ℕ) (a : ℕ) : Spot → Type 0 where
  the_node : (level k : ℕ) → ReachesBySpot word a (at_child a level k)
  the_node_of_bound : (level k x : ℕ) (read : List ℕ) → ReachesBySpot word a (at_bound a level k x read)
  by_child : (n level k : ℕ) → ReachesByChild word n k a → ReachesBySpot word a (at_child n level k)
  by_next_child : (n level k x : ℕ) (read : List ℕ) → ReachesByChild word n (k + 1) a → ReachesBySpot word a (at_bound n level k x read)
  by_part : (n level k x m : ℕ) (read : List ℕ) → x ≡ node_child m → Below word m a → ReachesBySpot word a (at_bound n level k x read)

pub data Reaches (word : Name → ℕ) (at : Position) (a : ℕ) : Type 0 where
  by_stack : (w : Waiting) → Contains at.stack w → Below word w.node a → Reaches word at a
  by_spot : ReachesBySpot word a at.spot → Reaches word at a

-- the layer of the main word or slot that was read last
abbrev pub layer_after : Option ℕ → Load → Option ℕ
layer_after before l = elim (l.name) [ Main layer ↦ Some layer | Slot layer t ↦ Some layer | _ ↦ before ]

abbrev pub layer_at_hand : List Load → Option ℕ
layer_at_hand loads = fold layer_after None loads

-- the node at hand, and whether a child of it was read
abbrev pub IsAtHand : Spot → ℕ → Type 0
IsAtHand (at_child n level k) m = n ≡ m
IsAtHand (at_bound n level k x read) m = n ≡ m
IsAtHand resting m = ⊥

abbrev pub IsBegun : Spot → ℕ → Type 0
IsBegun (at_child n level k) m = (n ≡ m) × (0 < k)
IsBegun (at_bound n level k x read) m = n ≡ m
IsBegun resting m = ⊥

-- the nodes that a walk stands at, with their levels
abbrev pub waiting_at : Spot → List Waiting → List Waiting
waiting_at resting stack = stack
waiting_at (at_child n level k) stack = waiting n level ∷ stack
waiting_at (at_bound n level k x read) stack = waiting n level ∷ stack

-- neither node stands below the other
abbrev pub AreApart : (Name → ℕ) → ℕ → ℕ → Type 0
AreApart word a b = (¬ Below word a b) × (¬ Below word b a)

-- a node was walked: its first child was read
abbrev pub IsWalkedAt : List Load → ℕ → Type 0
IsWalkedAt loads n = (value : ℕ) × IsLoaded loads (Child n 0) value

-- what a walk still reaches, and what it has walked
pub record WalkStays (nodes : Nodes) (word : Name → ℕ) (loads : List Load) (at : Position) : Type 0 where
  -- all that it reaches is in published or superseded trees of the layer at hand
  pub live : (a : ℕ) → Reaches word at a → IsLive (nodes.home a) × IfSome (layer_at_hand loads) (λ l. IsOfLayer l (nodes.home a))
  -- no node is reached in two ways: by two nodes on the stack, or by one of them and by the node at hand
  pub apart : AllPairs (AreApart word) (map (λ w. w.node) at.stack)
  pub ahead : (w : Waiting) → Contains at.stack w → ¬ ReachesBySpot word w.node at.spot
  pub behind : (w : Waiting) (n : ℕ) → Contains at.stack w → IsAtHand at.spot n → ¬ Below word w.node n
  pub levels : (w : Waiting) → Contains (waiting_at at.spot at.stack) w → w.level ≤ suc (nodes.depth w.node)
  -- it comes to no tree of a word that it has still to read, nor back to a node that it has walked
  pub read : (a : ℕ) (name : Name) → Reaches word at a ⊎ IsWalkedAt loads a → nodes.home a ≡ under name → ¬ Contains at.rest name
  pub visited : (n : ℕ) → IsWalkedAt loads n → IsLive (nodes.home n) × (Reaches word at n → IsBegun at.spot n)

-- the sides of bounds that it read lie in the space of the layer that was then at hand, and so does the bound that it has
-- read in part
pub record ReadsInSpace (s : Sight) (loads : List Load) (at : Position) : Type 0 where
  pub sides : (before later : List Load) (n k q value : ℕ) → loads ≡ before ++ record { name = Bound n k q; value = value } ∷ later
      → IfSome (layer_at_hand before) (λ l. IsSideIn (IsInLayer s l) q value)
  pub part : (n level k x : ℕ) (read : List ℕ) → at.spot ≡ at_bound n level k x read → IfSome (layer_at_hand loads) (λ l. IsInSpace s l (bound_in s.word n k))

-- ---- readers that an update has seen

-- a walk that is under way reaches nothing that the update of this pass superseded, and has walked nothing of it
abbrev pub AvoidsSuperseded : Nodes → Sight → ℕ → Walk → Type 0
AvoidsSuperseded nodes s number walk = walk.is_on ≡ true → (query : Query) → Follows s.config query walk.loads
    → (a : ℕ) (name : Name) → Reaches s.word (position_of s.config query walk.loads) a ⊎ IsWalkedAt walk.loads a → nodes.home a ≢ superseded number name

-- the update loaded the reader word of a pass, and the pass did not walk then or has ended that walk since
abbrev pub HasSeenOff : Sight → Rebuild → ℕ → Type 0
HasSeenOff s r q = (value : ℕ) × Contains r.readers (record { name = Reader q; value = value }) × ((value % 2 ≡ 0) ⊎ (value ≢ s.word (Reader q)))

-- ---- those who climb, and how far bounds reach

-- a pass that moves, removes or places a body stands only at nodes of trees
abbrev pub ClimbsInTrees : Nodes → Sight → Task → Type 0
ClimbsInTrees nodes s (Moving index target) = (n k a b : ℕ) → IsLocation s index n k → Above s.word n k a b → Stands (nodes.home a)
ClimbsInTrees nodes s (Removing index) = (n k a b : ℕ) → IsLocation s index n k → Above s.word n k a b → Stands (nodes.home a)
ClimbsInTrees nodes s _ = ⊤

-- a bound of an update's new tree lies in the hull of the boxes that noted bodies below it had since the update began,
-- and of those that they are about to get
abbrev pub IsPlannedBelow : Sight → Noted → ℕ → ℕ → Type 0
IsPlannedBelow s noted n k = (a : ℕ) × (b : ℕ) × (b < 4) × (noted.place ≡ place a b) × Above s.word a b n k

abbrev pub IsSideOf : Sight → Rebuild → Noted → ℕ → ℕ → Type 0
IsSideOf s r noted q side = ((box : Sides) × HadAs s r.from noted box × (box q ≡ side)) ⊎ (IsSameBody s noted × IsComing s noted.index q side)

abbrev pub IsTight : Nodes → Sight → ℕ → Rebuild → Type 0
IsTight nodes s number r = (n k l : ℕ) → nodes.home n ≡ made number l → k < 4 → s.word (Child n k) ≢ 0 →
    IsInHull (λ q side. (noted : Noted) × Contains r.noted noted × IsPlannedBelow s noted n k × IsSideOf s r noted q side) (bound_in s.word n k)

pub record ReadersCountedIn (nodes : Nodes) (s : Sight) : Type 0 where
  pub odd : (number : ℕ) → (s.word (Reader number) % 2 ≡ 1) ↔ HasPass s number (λ view. view.walk.is_on ≡ true)
  pub stays : EachPass s (λ number view. view.walk.is_on ≡ true → (query : Query) → Follows s.config query view.walk.loads
      → WalkStays nodes s.word view.walk.loads (position_of s.config query view.walk.loads))
  pub in_space : EachPass s (λ number view. view.walk.is_on ≡ true → (query : Query) → Follows s.config query view.walk.loads
      → ReadsInSpace s view.walk.loads (position_of s.config query view.walk.loads))
  -- a walk that an update has seen off reaches nothing that this update superseded
  pub seen_off : EachUpdate s (λ number view r. EachPass s (λ q other. HasSeenOff s r q → AvoidsSuperseded nodes s number other.walk))
  pub climbs : EachPass s (λ number view. ClimbsInTrees nodes s view.call.task)
  -- the bounds of published and superseded trees lie in the space of their layer, those of new trees in a smaller hull
  pub space : (n k l : ℕ) → IsLive (nodes.home n) → IsOfLayer l (nodes.home n) → k < 4 → s.word (Child n k) ≢ 0 → IsInSpace s l (bound_in s.word n k)
  pub tight : EachUpdate s (λ number view r. r.is_planned ≡ true → IsTight nodes s number r)

abbrev pub ReadersCounted : Nodes → Core → Type 0
ReadersCounted nodes core = ReadersCountedIn nodes (sight reader_scope core)
