-- How far a walk that collects candidates is: what it has read, and what its finder holds.
use Rattle.std.specs.Prelude.{◌≡◌, ◌↔◌, ◌⊎◌, ℕ, ◌+◌, ◌-◌, ◌/◌, ◌%◌, ◌==◌, Bool, true, nat_lt, if◌then◌else◌, List, [], ◌∷◌, ◌++◌, length, map, flat_map, filter, Contains, Option, Some, None}
use Rattle.std.specs.Int.{bit_at}
use Rattle.std.specs.List.{range_with_len}
use Rattle.fixed_box.specs.declared.shape.Shape.{Shape}
use Rattle.word_map.specs.declared.config.Config.{Config}
use Rattle.word_map.specs.declared.name.Name.{Name}
use Rattle.word_map.specs.declared.name.Name.TheVariants.{Main, Slot}
use Rattle.core_state.specs.declared.item.Load.{Load}
use Rattle.core_state.specs.declared.item.Store.{Store}
use Rattle.core_state.specs.declared.view.Waiting.{Waiting}
use Rattle.core_state.specs.declared.view.View.{View}
use Rattle.core_state.specs.Walking.{words_of_layer, Query, Spot, resting, at_child, at_bound, Position, waiting, start as first_place, next_node, next_child, pushed, advance}
use Rattle.tree_query.specs.declared.finder.Finder.{Finder}
use Rattle.tree_query.specs.Finding.{has_index, seq_of, room_of}
use Rattle.tree_query.specs.Walking.{HasWalked, IsWalkingAt}

-- ---- the bodies that a walk finds

-- the body that a child word names, if it names one
abbrev pub body_named : ℕ → List ℕ
body_named x = if x % 2 == 0 then [] else (x - 1) / 2 ∷ []

-- what a walk finds at a place with a value: with the sixth side of a bound that touches, the body whose bound it is
abbrev pub found_with : Query → Spot → ℕ → List ℕ
found_with query resting value = []
found_with query (at_child n level k) value = []
found_with query (at_bound n level k x read) value = if nat_lt (length (read ++ value ∷ [])) 6 then [] else if query.test (read ++ value ∷ []) then body_named x else []

-- what it finds from a place on
abbrev pub found_from : Query → Position → List Load → List ℕ
found_from query at [] = []
found_from query at (l ∷ loads) = found_with query at.spot l.value ++ found_from query (advance query at l) loads

-- and from its first word on
abbrev pub found_by : Config → Query → List Load → List ℕ
found_by c query loads = found_from query (first_place c query) loads

-- ---- a walk of a call

-- the pass as it began the call, what it has stored in it before the walk, and what it asks for
pub record Trip : Type 0 where
  pub start : View
  pub told : List Store
  pub query : Query

-- the walk has come to this place, and all else is as it was when it began
pub record IsOnTrip (trip : Trip) (view : View) (at : Position) : Type 0 where
  pub walked : HasWalked trip.start view trip.told
  pub walking : IsWalkingAt trip.query trip.start view at

-- the bodies that it has found so far
abbrev pub found_so_far : Trip → View → List ℕ
found_so_far trip view = found_by trip.start.config trip.query view.walk.loads

-- it went on to this place, by so many loads, and found these bodies
pub record Reaches (trip : Trip) (view next : View) (at : Position) (found : List ℕ) (count : ℕ) : Type 0 where
  pub on : IsOnTrip trip next at
  pub found_more : found_so_far trip next ≡ found_so_far trip view ++ found
  pub loaded : length next.walk.loads ≡ length view.walk.loads + count

-- the finder holds just the bodies that were found, and the number of loads
pub record IsKept (trip : Trip) (finder : Finder) (view : View) : Type 0 where
  pub found : (index : ℕ) → (has_index finder index ≡ true) ↔ Contains (found_so_far trip view) index
  pub seqs : (index : ℕ) → has_index finder index ≡ true → seq_of finder index ≡ 0
  pub loads : finder.loads ≡ length view.walk.loads

-- the walk of a call that asks for the shape has come to this place, and its finder holds what it found
pub record IsCollecting (trip : Trip) (shape : Shape) (finder : Finder) (view : View) (at : Position) : Type 0 where
  pub asks : trip.query.shape ≡ shape
  pub on : IsOnTrip trip view at
  pub kept : IsKept trip finder view

-- ---- its places

-- the nodes of a stack, the next one last
abbrev pub nodes_in : List Waiting → List ℕ
nodes_in [] = []
nodes_in (w ∷ stack) = nodes_in stack ++ w.node ∷ []

-- at a child of a node, or past its last one
abbrev pub child_place : List Name → List Waiting → ℕ → ℕ → ℕ → Position
child_place rest stack n level k = if nat_lt k 4 then record { rest = rest; stack = stack; spot = at_child n level k } else next_node rest stack

-- at the first side of the bound of a child that has this word
abbrev pub bound_place : List Name → List Waiting → ℕ → ℕ → ℕ → ℕ → Position
bound_place rest stack n level k x = record { rest = rest; stack = stack; spot = at_bound n level k x [] }

-- past the sixth
abbrev pub past_bound : List Name → List Waiting → ℕ → ℕ → ℕ → ℕ → Bool → Position
past_bound rest stack n level k x touches = next_child rest (if touches then pushed level x stack else stack) n level k

-- before the next word
abbrev pub word_place : List Name → Position
word_place rest = record { rest = rest; stack = []; spot = resting }

-- it is to read this child of a node, with these nodes on its stack, or has read the last one
abbrev pub IsAtChild : Trip → List Name → Shape → Finder → List ℕ → View → ℕ → ℕ → Type 0
IsAtChild trip rest shape finder nodes view n k =
    (level : ℕ) × (stack : List Waiting) × (nodes ≡ nodes_in stack) × IsCollecting trip shape finder view (child_place rest stack n level k)

-- this holds of some walk and some words that are still to be read
abbrev pub OfSomeTrip : (Trip → List Name → Type 0) → Type 0
OfSomeTrip P = (trip : Trip) × (rest : List Name) × P trip rest

-- it is to walk the nodes on its stack
abbrev pub IsAtNodes : Trip → List Name → Shape → Finder → List ℕ → View → Type 0
IsAtNodes trip rest shape finder nodes view = (stack : List Waiting) × (nodes ≡ nodes_in stack) × IsCollecting trip shape finder view (next_node rest stack)

-- the root that a word names, if it names one
abbrev pub roots_of : Option ℕ → List Waiting
roots_of None = []
roots_of (Some root) = waiting root 1 ∷ []

-- the words of a layer from a slot on
abbrev pub words_from : Config → ℕ → ℕ → List Name
words_from c layer slot = map (Slot layer) (range_with_len slot (c.slots - slot)) ++ Main layer ∷ []

-- those of a layer, where it is asked
abbrev pub words_asked : Config → ℕ → ℕ → List Name
words_asked c mask layer = if bit_at mask layer == 1 then words_of_layer c layer else []

-- the words of the asked layers from one on
abbrev pub layers_from : Config → ℕ → ℕ → List Name
layers_from c mask layer = flat_map (words_of_layer c) (filter (λ k. bit_at mask k == 1) (range_with_len layer (c.layers - layer)))

-- it has read the bound of a child that has this word
abbrev pub HasReadBound : Trip → View → View → List Name → List Waiting → ℕ → ℕ → ℕ → ℕ → Bool → Type 0
HasReadBound trip view next rest stack n level k x touches = Reaches trip view next (past_bound rest stack n level k x touches) (if touches then body_named x else []) 6

-- ---- what is put into a finder

-- these bodies are put in, each with sequence number 0
pub record Puts (before after : Finder) (bodies : List ℕ) : Type 0 where
  pub has : (index : ℕ) → (has_index after index ≡ true) ↔ (has_index before index ≡ true) ⊎ Contains bodies index
  pub seqs : ((index : ℕ) → has_index before index ≡ true → seq_of before index ≡ 0) → (index : ℕ) → has_index after index ≡ true → seq_of after index ≡ 0

-- the node that a child word names, if it names one
abbrev pub node_named : ℕ → List ℕ
node_named x = if x % 2 == 0 then (x - 2) / 2 ∷ [] else []

-- a child that touches goes where it is to go: a body into the finder, a node onto the stack
pub record KeepsChild (touches : Bool) (x : ℕ) (nodes later : List ℕ) (before after : Finder) : Type 0 where
  pub stack : later ≡ nodes ++ (if touches then node_named x else [])
  pub puts : Puts before after (if touches then body_named x else [])
  pub loads : after.loads ≡ before.loads
  pub room : room_of after ≡ room_of before
