-- The fields of a line, and what is wrong with words that spell none.
use Rattle.std.specs.Prelude.{ℕ, ◌&&◌, if◌then◌else◌, List, [], ◌∷◌, ◌≡◌, map, length, Option, Some, None, ℤ, pos, negsuc, int_le, nat_le, nat_lt, nat_abs, zip, ◌-◌, ◌^◌}
use Rattle.std.specs.List.{list_all}
use Rattle.std.specs.Option.{option_map}
use Rattle.std.specs.Fmt.{decimal, signed_decimal}
use Rattle.script_text.specs.declared.code.Code.{Code}
use Rattle.script_text.specs.declared.code.Code.TheVariants as code
use Rattle.fixed_box.specs.declared.coord.Coord.{Coord}
use Rattle.fixed_box.specs.Corner.{OnEachAxis, along}
use Rattle.fixed_box.specs.Range.{IsStep}
use Rattle.word_map.specs.declared.config.Config.{Config}
use Rattle.word_map.specs.declared.config.Field.{Field}
use Rattle.word_map.specs.declared.config.Field.TheVariants as fields
use Rattle.word_map.specs.declared.config.TheConstants.{MAX_LAYERS}
use Rattle.word_map.specs.Limits.{fault_of, IsConfig}
use Rattle.script_text.specs.Command.{corner_words}
use Rattle.script_text.specs.Fault.{first_of}
use Rattle.script_text.specs.Number.{number_of, number_fault}

-- there have to be from lo to hi words
abbrev pub count_fault : ℕ → ℕ → List (List ℕ) → Option Code
count_fault lo hi words = if nat_le lo (length words) && nat_le (length words) hi then None else Some code.Count

abbrev pub coordinate_fault : List ℕ → Option Code
coordinate_fault word = number_fault (negsuc 8388607) (pos 8388607) word

abbrev pub corner_fault : List ℕ → List ℕ → List ℕ → Option Code
corner_fault x y z = first_of (coordinate_fault x ∷ coordinate_fault y ∷ coordinate_fault z ∷ [])

-- three words spell the coordinates of a corner
pub record SpellsCorner (x y z : List ℕ) (corner : List Coord) : Type 0 where
  pub words : corner_words corner ≡ x ∷ y ∷ z ∷ []
  pub values : map (λ c. c.value) corner ≡ number_of x ∷ number_of y ∷ number_of z ∷ []

-- a box may on no axis end before it begins
abbrev pub order_fault : List (List ℕ) → List (List ℕ) → Option Code
order_fault lo hi = if list_all (λ p. int_le (number_of p.0) (number_of p.1)) (zip lo hi) then None else Some code.Range

-- two corners of a box
abbrev pub bounds_fault : List ℕ → List ℕ → List ℕ → List ℕ → List ℕ → List ℕ → Option Code
bounds_fault x0 y0 z0 x1 y1 z1 =
    first_of (corner_fault x0 y0 z0 ∷ corner_fault x1 y1 z1 ∷ order_fault (x0 ∷ y0 ∷ z0 ∷ []) (x1 ∷ y1 ∷ z1 ∷ []) ∷ [])

-- a step along an axis is as long as two coordinates can be apart
abbrev pub step_fault : List ℕ → Option Code
step_fault word = number_fault (negsuc 16777214) (pos 16777215) word

abbrev pub steps_fault : List ℕ → List ℕ → List ℕ → Option Code
steps_fault x y z = first_of (step_fault x ∷ step_fault y ∷ step_fault z ∷ [])

-- three words spell the steps along the axes
pub record SpellsSteps (x y z : List ℕ) (steps : List ℤ) : Type 0 where
  pub words : map signed_decimal steps ≡ x ∷ y ∷ z ∷ []
  pub in_reach : OnEachAxis (λ axis. IsStep (along steps axis))

-- the sizes of the least world
abbrev pub least_sizes : Config
least_sizes = record { bodies = 1; stripes = 1; layers = 1; slots = 1; nodes = 1; passes = 1 }

-- the same but for one field
abbrev pub sizes_with : Field → ℕ → Config
sizes_with fields.Bodies n = record least_sizes { bodies = n }
sizes_with fields.Stripes n = record least_sizes { stripes = n }
sizes_with fields.Layers n = record least_sizes { layers = n }
sizes_with fields.Slots n = record least_sizes { slots = n }
sizes_with fields.Nodes n = record least_sizes { nodes = n }
sizes_with fields.Passes n = record least_sizes { passes = n }

-- a size of a world is a number of 32 bits, and within the limit of its field
abbrev pub size_fault : Field → List ℕ → Option Code
size_fault field word =
    first_of (number_fault (pos 0) (pos 4294967295) word ∷ option_map (λ _. code.Range) (fault_of (sizes_with field (nat_abs (number_of word)))) ∷ [])

-- the word spells this size, which the field may have
pub record SpellsSize (field : Field) (word : List ℕ) (n : ℕ) : Type 0 where
  pub text : word ≡ decimal n
  pub value : pos n ≡ number_of word
  pub within : IsConfig (sizes_with field n)

-- a layer is below the most that a world may have, and below the number of layers of the world
abbrev pub layer_fault : ℕ → List ℕ → Option Code
layer_fault layers word = first_of (number_fault (pos 0) (pos (MAX_LAYERS - 1)) word ∷ (if nat_lt (nat_abs (number_of word)) layers then None else Some code.Range) ∷ [])

abbrev pub user_fault : List ℕ → Option Code
user_fault word = number_fault (pos 0) (pos 4294967295) word

-- a mask has a bit for each layer that a world may have
abbrev pub mask_fault : List ℕ → Option Code
mask_fault word = number_fault (pos 0) (pos (2 ^ MAX_LAYERS - 1)) word
