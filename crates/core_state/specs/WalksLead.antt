-- The walks lead on: each body that a query has to find is a candidate already, or what is left to read leads to it.
use Rattle.std.specs.Prelude.{◌≡◌, ℕ, ◌+◌, ◌<◌, ◌≤◌, Bool, true, false, nat_lt, if◌then◌else◌, List, [], length, Contains, slice_index, ⊤}
use Rattle.scene_model.specs.History.{Interval, IsDue}
use Rattle.fixed_box.specs.Touch.{Touch}
use Rattle.word_map.specs.declared.name.Name.{Name}
use Rattle.word_map.specs.declared.name.Name.TheVariants.{Main, Slot, Child, Bound}
use Rattle.core_state.specs.declared.view.Waiting.{Waiting}
use Rattle.core_state.specs.declared.view.Walk.{Walk}
use Rattle.core_state.specs.Core.{Core}
use Rattle.core_state.specs.Scope.{Scope, Sight, sight, EachPass}
use Rattle.core_state.specs.Encoding.{body_child, node_child, NamesRoot, Sides, sides_of, IsBox, Covers, bound_in}
use Rattle.core_state.specs.Space.{HadSince}
use Rattle.core_state.specs.WalkRecord.{IsCandidate, WalksOnce, ReadsBodies}
use Rattle.core_state.specs.Walking.{Query, Spot, resting, at_child, at_bound, Position, Follows, position_of}

abbrev pub is_walk_word : Name → Bool
is_walk_word (Child n k) = true
is_walk_word (Bound n k q) = true
is_walk_word (Main l) = true
is_walk_word (Slot l t) = true
is_walk_word _ = false

-- it reads those words, the history, and of each view the walk
abbrev pub walk_scope : Scope
walk_scope = record { names = is_walk_word; reads_history = true; part = λ bare view. record bare { walk = view.walk } }

-- ---- ways down to a body

-- a bound contains a box of these
abbrev pub HoldsOne : (Sides → Type 0) → Sides → Type 0
HoldsOne Had bound = (box : Sides) × Had box × Covers bound box

-- down to the entry of a body by child words as they are now, each with a bound that contains a box that the body had
pub data Way (word : Name → ℕ) (Had : Sides → Type 0) (index : ℕ) : ℕ → Type 0 where
  to_entry : (n k : ℕ) → k < 4 → word (Child n k) ≡ body_child index → HoldsOne Had (bound_in word n k) → Way word Had index n
  to_node : (n k m : ℕ) → k < 4 → word (Child n k) ≡ node_child m → HoldsOne Had (bound_in word n k) → Way word Had index m → Way word Had index n

-- a child word is the body's entry, or leads on to it
pub data Leads (word : Name → ℕ) (Had : Sides → Type 0) (index x : ℕ) : Type 0 where
  is_entry : x ≡ body_child index → Leads word Had index x
  by_node : (m : ℕ) → x ≡ node_child m → Way word Had index m → Leads word Had index x

-- some child of a node, from this one on, leads to the body
abbrev pub ChildLeads : (Name → ℕ) → (Sides → Type 0) → ℕ → ℕ → ℕ → Type 0
ChildLeads word Had index n from = (k : ℕ) × (from ≤ k) × (k < 4) × HoldsOne Had (bound_in word n k) × Leads word Had index (word (Child n k))

-- ---- the four ways that are left to a walk

-- a slot, or a main word, that it has not read: the tree that it publishes now leads to the body
abbrev pub LeadsUnread : (Name → ℕ) → (Sides → Type 0) → ℕ → Position → Name → Type 0
LeadsUnread word Had index at name = Contains at.rest name × ((root : ℕ) × NamesRoot name (word name) root × Way word Had index root)

abbrev pub LeadsBySlot : (Name → ℕ) → (Sides → Type 0) → ℕ → Position → Type 0
LeadsBySlot word Had index at = (l : ℕ) × (t : ℕ) × LeadsUnread word Had index at (Slot l t)

abbrev pub LeadsByMain : (Name → ℕ) → (Sides → Type 0) → ℕ → Position → Type 0
LeadsByMain word Had index at = (l : ℕ) × LeadsUnread word Had index at (Main l)

-- a node on its stack, or a child that it has not read of the node at hand
abbrev pub LeadsBySpot : (Name → ℕ) → (Sides → Type 0) → ℕ → Spot → Type 0
LeadsBySpot word Had index resting = ⊥
LeadsBySpot word Had index (at_child n level k) = ChildLeads word Had index n k
LeadsBySpot word Had index (at_bound n level k x read) = ChildLeads word Had index n (k + 1)

-- the bound that stood when the walk read its first side; before that, the one that stands now
abbrev pub begun_bound : (Name → ℕ) → Walk → ℕ → ℕ → List ℕ → Sides
begun_bound word walk n k [] = bound_in word n k
begun_bound word walk n k read = sides_of walk.bound

-- a child whose bound it has read in part
abbrev pub LeadsByPart : (Name → ℕ) → (Sides → Type 0) → ℕ → Walk → Spot → Type 0
LeadsByPart word Had index walk (at_bound n level k x read) = HoldsOne Had (begun_bound word walk n k read) × Leads word Had index x
LeadsByPart word Had index walk _ = ⊥

pub data IsAhead (word : Name → ℕ) (Had : Sides → Type 0) (index : ℕ) (query : Query) (walk : Walk) (at : Position) : Type 0 where
  is_found : IsCandidate query.shape walk.loads index → IsAhead word Had index query walk at
  by_slot : LeadsBySlot word Had index at → IsAhead word Had index query walk at
  by_main : LeadsByMain word Had index at → IsAhead word Had index query walk at
  by_stack : (w : Waiting) → Contains at.stack w → Way word Had index w.node → IsAhead word Had index query walk at
  by_child : LeadsBySpot word Had index at.spot → IsAhead word Had index query walk at
  by_part : LeadsByPart word Had index walk at.spot → IsAhead word Had index query walk at

-- ---- the law

-- a bound that is read in part: the sides that were read, and then those that stand now
abbrev pub mixed : List ℕ → Sides → Sides
mixed read now = λ q. if nat_lt q (length read) then slice_index read q else now q

-- such a bound was and is a box; read to the end it contains what it was when its first side was read, and what stands now
-- contains that. A node whose bound is read stands at its place
pub record IsReadInPart (word : Name → ℕ) (walk : Walk) (n k x : ℕ) (read : List ℕ) : Type 0 where
  pub box : IsBox (bound_in word n k)
  pub begun_box : IsBox (begun_bound word walk n k read)
  pub now : Covers (bound_in word n k) (mixed read (bound_in word n k))
  pub begun : Covers (mixed read (bound_in word n k)) (begun_bound word walk n k read)
  pub child : (m : ℕ) → x ≡ node_child m → word (Child n k) ≡ x

abbrev pub OnlyWidens : (Name → ℕ) → Walk → Spot → Type 0
OnlyWidens word walk (at_bound n level k x read) = IsReadInPart word walk n k x read
OnlyWidens word walk _ = ⊤

-- where a slot of a layer is still to be read, so is its main word
abbrev pub ReadsMainLast : Position → Type 0
ReadsMainLast at = (l t : ℕ) → Contains at.rest (Slot l t) → Contains at.rest (Main l)

-- the points of the history since the walk began
abbrev pub since_begun : Sight → Walk → Interval
since_begun s walk = record { history = s.history; from = walk.from; to = length s.history }

pub record WalkLeads (s : Sight) (walk : Walk) (query : Query) (at : Position) : Type 0 where
  pub ahead : (index generation : ℕ) → IsDue (Touch query.shape) query.mask s.config.bodies (since_begun s walk) index generation
      → IsAhead s.word (HadSince s walk.from index) index query walk at
  pub widens : OnlyWidens s.word walk at.spot
  pub order : ReadsMainLast at
  -- no node was walked twice, and each body that was read is one of the world
  pub once : WalksOnce walk.loads
  pub bodies : ReadsBodies s.config walk.loads

-- of each walk that is under way, for every query that reads what it has read
pub record WalksLeadIn (s : Sight) : Type 0 where
  pub leads : EachPass s (λ number view. view.walk.is_on ≡ true → (query : Query) → Follows s.config query view.walk.loads
      → WalkLeads s view.walk query (position_of s.config query view.walk.loads))
  pub begun : EachPass s (λ number view. view.walk.from ≤ length s.history)

abbrev pub WalksLead : Core → Type 0
WalksLead core = WalksLeadIn (sight walk_scope core)
