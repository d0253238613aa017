-- The bodies that a walk found: each is a child of a node whose four children it read one after the other.
use Rattle.std.specs.Prelude.{◌≡◌, ℕ, ◌<◌, IsTrue, List, ◌++◌}
use Rattle.core_state.specs.declared.item.Load.{Load}
use Rattle.core_state.specs.Encoding.{body_child}
use Rattle.core_state.specs.Walking.{Query}
use Rattle.core_query.specs.WholeRecord.{ReadChild, six_words, node_loads}

-- the walk read the node so
abbrev pub HasRead : List Load → ℕ → (ℕ → ReadChild) → Type 0
HasRead loads n children = (before : List Load) × (later : List Load) × (loads ≡ before ++ (node_loads n children ++ later))

-- one of its children is the body, and the bound that was read with it touches the shape
pub record IsFound (query : Query) (loads : List Load) (index : ℕ) : Type 0 where
  pub node : ℕ
  pub children : ℕ → ReadChild
  pub read : HasRead loads node children
  pub k : ℕ
  pub low : k < 4
  pub body : (children k).word ≡ body_child index
  pub touches : IsTrue (query.test (six_words (children k).bound))
