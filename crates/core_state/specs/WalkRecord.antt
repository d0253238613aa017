-- What a walk has read: the nodes that it walked and the bodies that are candidates.
use Rattle.std.specs.Prelude.{◌≡◌, ◌≢◌, ℕ, ◌<◌, List, Contains, AllPairs, slice_index}
use Rattle.fixed_box.specs.FixBox.{words_of}
use Rattle.fixed_box.specs.Touch.{Touch}
use Rattle.fixed_box.specs.declared.fix_box.FixBox.{FixBox}
use Rattle.fixed_box.specs.declared.shape.Shape.{Shape}
use Rattle.word_map.specs.declared.config.Config.{Config}
use Rattle.word_map.specs.declared.name.Name.{Name}
use Rattle.word_map.specs.declared.name.Name.TheVariants.{Child, Bound}
use Rattle.core_state.specs.declared.item.Load.{Load}
use Rattle.core_state.specs.Encoding.{body_child, node_child, NamesRoot}

-- the walk read this value
abbrev pub IsLoaded : List Load → Name → ℕ → Type 0
IsLoaded loads name value = Contains loads (record { name = name; value = value })

-- it read all six sides of the bound of a child, and they are a box that touches the shape
abbrev pub HasTouchingBound : Shape → List Load → ℕ → ℕ → Type 0
HasTouchingBound shape loads n k = (b : FixBox) × Touch shape b × ((q : ℕ) → q < 6 → IsLoaded loads (Bound n k q) (slice_index (words_of b) q))

-- a node is walked where it is a root that was read, or a child that was read with such a bound
pub data IsWalked (shape : Shape) (loads : List Load) (n : ℕ) : Type 0 where
  as_root : (name : Name) (value : ℕ) → IsLoaded loads name value → NamesRoot name value n → IsWalked shape loads n
  as_child : (m k : ℕ) → IsLoaded loads (Child m k) (node_child n) → HasTouchingBound shape loads m k → IsWalked shape loads n

-- a body is a candidate where it is a child that was read with such a bound
abbrev pub IsCandidate : Shape → List Load → ℕ → Type 0
IsCandidate shape loads index = (m : ℕ) × (k : ℕ) × IsLoaded loads (Child m k) (body_child index) × HasTouchingBound shape loads m k

-- no node was walked twice: no two loads are of the first child of one node
abbrev pub WalksOnce : List Load → Type 0
WalksOnce loads = AllPairs (λ a b. (n : ℕ) → a.name ≡ Child n 0 → b.name ≢ Child n 0) loads

-- each body that was read as a child is one of the world
abbrev pub ReadsBodies : Config → List Load → Type 0
ReadsBodies c loads = (n k index : ℕ) → IsLoaded loads (Child n k) (body_child index) → index < c.bodies
