-- The record of a whole walk: each word that the query asks for, and behind it the tree that it names, node by node.
use Rattle.std.specs.Prelude.{ℕ, ◌-◌, ◌/◌, ◌%◌, ◌==◌, if◌then◌else◌, List, [], ◌∷◌, ◌++◌, map, flat_map}
use Rattle.std.specs.List.{range_with_len}
use Rattle.word_map.specs.declared.name.Name.{Name}
use Rattle.word_map.specs.declared.name.Name.TheVariants.{Child, Bound}
use Rattle.core_state.specs.declared.item.Load.{Load}
use Rattle.core_state.specs.Encoding.{Sides}
use Rattle.core_state.specs.Walking.{Query, roots_in}

-- what was read of a child: its word, and where that is not 0 the six sides of its bound
pub record ReadChild : Type 0 where
  pub word : ℕ
  pub bound : Sides

-- the six sides as they are tested
abbrev pub six_words : Sides → List ℕ
six_words bound = map bound (range_with_len 0 6)

abbrev pub side_load : ℕ → ℕ → Sides → ℕ → Load
side_load n k bound q = record { name = Bound n k q; value = bound q }

-- one load of the child word, and where that is not 0 one of each side of its bound
abbrev pub child_loads : ℕ → ℕ → ReadChild → List Load
child_loads n k child = record { name = Child n k; value = child.word } ∷ (if child.word == 0 then [] else map (side_load n k child.bound) (range_with_len 0 6))

-- of a node the four children, one after the other
abbrev pub node_loads : ℕ → (ℕ → ReadChild) → List Load
node_loads n children = flat_map (λ k. child_loads n k (children k)) (range_with_len 0 4)

-- the node that a child is, where it is one, as even words are, and its bound touches the shape
abbrev pub node_to_walk : Query → ReadChild → List ℕ
node_to_walk query child = if child.word == 0 then [] else if query.test (six_words child.bound) then if child.word % 2 == 0 then (child.word - 2) / 2 ∷ [] else [] else []

-- the nodes that are to be walked next, the last child first
abbrev pub nodes_to_walk : Query → (ℕ → ReadChild) → List ℕ
nodes_to_walk query children = flat_map (λ k. node_to_walk query (children k)) (3 ∷ 2 ∷ 1 ∷ 0 ∷ [])

-- the node that a main word or a slot names
abbrev pub nodes_named : Name → ℕ → List ℕ
nodes_named name value = map (λ w. w.node) (roots_in name value)

-- what is read where these nodes are to be walked and these words to be read, the first of each list first. A node is walked
-- before the next word is read, and what it leads to before the next node
pub data IsWholeRecord (query : Query) : List ℕ → List Name → List Load → Type 0 where
  nothing_left : IsWholeRecord query [] [] []
  of_word : (name : Name) (value : ℕ) (names : List Name) (loads : List Load) → IsWholeRecord query (nodes_named name value) names loads
      → IsWholeRecord query [] (name ∷ names) (record { name = name; value = value } ∷ loads)
  of_node : (n : ℕ) (children : ℕ → ReadChild) (nodes : List ℕ) (names : List Name) (loads : List Load) → IsWholeRecord query (nodes_to_walk query children ++ nodes) names loads
      → IsWholeRecord query (n ∷ nodes) names (node_loads n children ++ loads)
