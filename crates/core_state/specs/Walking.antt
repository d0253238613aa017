-- The order in which a query reads its words, as a replay of what it has read.
use Rattle.std.specs.Prelude.{◌≡◌, ◌↔◌, ℕ, zero, suc, ◌+◌, ◌-◌, ◌/◌, ◌%◌, ◌==◌, Bool, IsTrue, nat_lt, nat_le, if◌then◌else◌, List, [], ◌∷◌, ◌++◌, map, fold, flat_map, filter, length, Option, Some, None, ⊤}
use Rattle.std.specs.Int.{bit_at}
use Rattle.std.specs.List.{range_with_len}
use Rattle.fixed_box.specs.FixBox.{words_of}
use Rattle.fixed_box.specs.Touch.{Touch}
use Rattle.fixed_box.specs.declared.fix_box.FixBox.{FixBox}
use Rattle.fixed_box.specs.declared.shape.Shape.{Shape}
use Rattle.word_map.specs.declared.config.Config.{Config}
use Rattle.word_map.specs.declared.name.Name.{Name}
use Rattle.word_map.specs.declared.name.Name.TheVariants.{Main, Slot, Child, Bound}
use Rattle.core_state.specs.declared.item.Load.{Load}
use Rattle.core_state.specs.declared.view.Waiting.{Waiting}

-- the layers that a query asks and its shape, with the test of six words that a walk makes
pub record Query : Type 0 where
  pub mask : ℕ
  pub shape : Shape
  pub test : List ℕ → Bool
  pub tests : (words : List ℕ) → IsTrue (test words) ↔ ((b : FixBox) × (words_of b ≡ words) × Touch shape b)

-- where a walk is: at rest, or at a node with its level, about to read a child, or a side of the bound of a child, of which
-- it has read the child word and these sides. The level of a root is 1
pub data Spot : Type 0 where
  resting : Spot
  at_child : (n level k : ℕ) → Spot
  at_bound : (n level k x : ℕ) → List ℕ → Spot

-- the main words and slots still to be read, and the nodes still to be walked, the next one first
pub record Position : Type 0 where
  pub rest : List Name
  pub stack : List Waiting
  pub spot : Spot

abbrev pub waiting : ℕ → ℕ → Waiting
waiting node level = record { node = node; level = level }

-- for each layer that is asked, ascending, its slots and then its main word
abbrev pub words_of_layer : Config → ℕ → List Name
words_of_layer c layer = map (Slot layer) (range_with_len 0 c.slots) ++ Main layer ∷ []

abbrev pub asked_words : Config → ℕ → List Name
asked_words c mask = flat_map (words_of_layer c) (filter (λ layer. bit_at mask layer == 1) (range_with_len 0 c.layers))

abbrev pub start : Config → Query → Position
start c query = record { rest = asked_words c query.mask; stack = []; spot = resting }

-- a walk that has done with a node goes on with the next one on its stack
abbrev pub next_node : List Name → List Waiting → Position
next_node rest [] = record { rest = rest; stack = []; spot = resting }
next_node rest (w ∷ stack) = record { rest = rest; stack = stack; spot = at_child w.node w.level 0 }

abbrev pub next_child : List Name → List Waiting → ℕ → ℕ → ℕ → Position
next_child rest stack n level k = if nat_lt k 3 then record { rest = rest; stack = stack; spot = at_child n level (k + 1) } else next_node rest stack

-- the root that a word names, to be walked at once
abbrev pub roots_in : Name → ℕ → List Waiting
roots_in (Main l) zero = []
roots_in (Main l) (suc root) = waiting root 1 ∷ []
roots_in (Slot l t) value = if nat_le 1024 value then waiting (value - 1024) 1 ∷ [] else []
roots_in _ value = []

-- a child whose bound touches: a node is put on the stack, one level below the node at hand
abbrev pub pushed : ℕ → ℕ → List Waiting → List Waiting
pushed level x stack = if x % 2 == 0 then waiting ((x - 2) / 2) (suc level) ∷ stack else stack

-- a side more of a bound: after the sixth the bound is tested
abbrev pub after_side : Query → List Name → List Waiting → (n level k x : ℕ) → List ℕ → Position
after_side query rest stack n level k x sides =
    if nat_lt (length sides) 6 then record { rest = rest; stack = stack; spot = at_bound n level k x sides }
    else next_child rest (if query.test sides then pushed level x stack else stack) n level k

-- where a walk is after it read a value
abbrev pub advance_from : Query → List Name → List Waiting → Spot → ℕ → Position
advance_from query [] stack resting value = record { rest = []; stack = stack; spot = resting }
advance_from query (name ∷ rest) stack resting value = next_node rest (roots_in name value)
advance_from query rest stack (at_child n level k) value =
    if value == 0 then next_child rest stack n level k else record { rest = rest; stack = stack; spot = at_bound n level k value [] }
advance_from query rest stack (at_bound n level k x read) value = after_side query rest stack n level k x (read ++ value ∷ [])

abbrev pub advance : Query → Position → Load → Position
advance query at l = advance_from query at.rest at.stack at.spot l.value

abbrev pub replay : Query → Position → List Load → Position
replay query from loads = fold (advance query) from loads

-- the word that a walk reads next
abbrev pub next_word : List Name → Spot → Option Name
next_word [] resting = None
next_word (name ∷ rest) resting = Some name
next_word rest (at_child n level k) = Some (Child n k)
next_word rest (at_bound n level k x read) = Some (Bound n k (length read))

-- each value was read of the word that was next
abbrev pub FollowsFrom : Query → Position → List Load → Type 0
FollowsFrom query at [] = ⊤
FollowsFrom query at (l ∷ later) = (next_word at.rest at.spot ≡ Some l.name) × FollowsFrom query (advance query at l) later

-- what was read is what the query reads, in its order
abbrev pub Follows : Config → Query → List Load → Type 0
Follows c query loads = FollowsFrom query (start c query) loads

abbrev pub position_of : Config → Query → List Load → Position
position_of c query loads = replay query (start c query) loads
