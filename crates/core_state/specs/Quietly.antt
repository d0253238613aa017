-- What a pass comes to know without harm: words that it has for itself, and those of live bodies under its stripes, stand.
use Rattle.std.specs.Prelude.{◌≡◌, ℕ, ◌≤◌, List, ◌∷◌, ◌++◌}
use Rattle.word_map.specs.declared.name.Name.{Name}
use Rattle.word_map.specs.declared.name.Name.TheVariants.{State}
use Rattle.word_map.specs.Names.{stripe_of}
use Rattle.core_state.specs.declared.item.Item.{Item}
use Rattle.core_state.specs.declared.view.Mode.{Mode}
use Rattle.core_state.specs.declared.view.View.{View}
use Rattle.core_state.specs.View.{Holds, known_word}
use Rattle.core_state.specs.Guards.{Owns, IsBodyWord, IsQuiet}

-- the pass knows more than before, and no item of that stores a word which the pass has for itself
pub record KnowsQuietly (view next : View) : Type 0 where
  pub since : List Item
  pub known : next.known ≡ view.known ++ since
  pub quiet : (early later : List Item) (item : Item) → since ≡ early ++ item ∷ later → IsQuiet view.config view (view.known ++ early) item

-- a word that others leave as it is: the pass has it for itself, or it is a word of a live body whose stripe it holds
pub data IsSteady (view : View) (name : Name) : Type 0 where
  of_pass : Owns view.config view name → IsSteady view name
  of_live : (index : ℕ) (mode : Mode) → Holds view (stripe_of view.config index) mode → 256 ≤ known_word view (State index) → IsBodyWord index name → IsSteady view name
