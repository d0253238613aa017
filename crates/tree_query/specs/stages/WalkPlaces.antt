-- Where a walk by turns is, as the place that a query has come to.
use Rattle.std.specs.Prelude.{◌≡◌, ⊤, ℕ, ◌+◌, ◌-◌, ◌==◌, ◌<◌, ◌≤◌, Bool, true, false, nat_lt, if◌then◌else◌, List, [], ◌∷◌, ◌++◌, map, filter, flat_map}
use Rattle.std.specs.Int.{bit_at}
use Rattle.std.specs.List.{range_with_len}
use Rattle.fixed_box.specs.declared.shape.Shape.{Shape}
use Rattle.word_map.specs.declared.config.Config.{Config}
use Rattle.word_map.specs.declared.name.Name.{Name}
use Rattle.word_map.specs.declared.name.Name.TheVariants.{Main, Slot}
use Rattle.core_state.specs.declared.view.Waiting.{Waiting}
use Rattle.core_state.specs.Walking.{Spot, resting, at_child, at_bound, Position, words_of_layer}
use Rattle.tree_query.specs.Collecting.{nodes_in}
use Rattle.tree_query.specs.declared.walk.WalkStage.{WalkStage}
use Rattle.tree_query.specs.declared.walk.WalkStage.TheVariants.{Begin, Word, Child, LowX, LowY, LowZ, HighX, HighY, HighZ, End, Ended}
use Rattle.tree_query.specs.declared.walk.Walk.{Walk}

-- ---- words still to be read

-- those of the asked layers from one on
abbrev pub words_from : Config → ℕ → ℕ → List Name
words_from c mask layer = flat_map (words_of_layer c) (filter (λ other. bit_at mask other == 1) (range_with_len layer (c.layers - layer)))

-- those of a layer from a slot on, and of the asked layers above it
abbrev pub words_at : Config → ℕ → ℕ → ℕ → List Name
words_at c mask layer slot = if nat_lt layer c.layers then map (Slot layer) (range_with_len slot (c.slots - slot)) ++ Main layer ∷ words_from c mask (layer + 1) else []

-- the first layer from one on that is asked, or past the last one where none is
pub record IsNextLayer (mask layers from next : ℕ) : Type 0 where
  pub above : from ≤ next
  pub within : next ≤ layers
  pub none : (layer : ℕ) → from ≤ layer → layer < next → (bit_at mask layer == 1) ≡ false
  pub asked : next < layers → (bit_at mask next == 1) ≡ true

-- ---- places

-- the walk has the sizes of the world
pub record IsSized (c : Config) (walk : Walk) : Type 0 where
  pub layers : walk.layers ≡ c.layers
  pub slots : walk.slots ≡ c.slots

-- it has begun and not ended
abbrev pub is_reading : WalkStage → Bool
is_reading Begin = false
is_reading Ended = false
is_reading _ = true

-- it reads the bound of a child
abbrev pub is_at_side : WalkStage → Bool
is_at_side LowX = true
is_at_side LowY = true
is_at_side LowZ = true
is_at_side HighX = true
is_at_side HighY = true
is_at_side HighZ = true
is_at_side _ = false

abbrev pub spot_at : Walk → ℕ → WalkStage → Spot
spot_at w level Child = at_child w.node level w.child
spot_at w level LowX = at_bound w.node level w.child w.word []
spot_at w level LowY = at_bound w.node level w.child w.word (w.x0 ∷ [])
spot_at w level LowZ = at_bound w.node level w.child w.word (w.x0 ∷ w.y0 ∷ [])
spot_at w level HighX = at_bound w.node level w.child w.word (w.x0 ∷ w.y0 ∷ w.z0 ∷ [])
spot_at w level HighY = at_bound w.node level w.child w.word (w.x0 ∷ w.y0 ∷ w.z0 ∷ w.x1 ∷ [])
spot_at w level HighZ = at_bound w.node level w.child w.word (w.x0 ∷ w.y0 ∷ w.z0 ∷ w.x1 ∷ w.y1 ∷ [])
spot_at w level _ = resting

-- before a word no node waits, and at the end no word is left
abbrev pub FitsStage : Config → Walk → WalkStage → Type 0
FitsStage c walk Word = (walk.layer < c.layers) × (walk.stack.items ≡ [])
FitsStage c walk End = (c.layers ≤ walk.layer) × (walk.stack.items ≡ [])
FitsStage c walk _ = ⊤

abbrev pub words_left : Config → Walk → List Name
words_left c walk = words_at c walk.mask walk.layer walk.slot

-- The walk is at this place of a query: its words are still to be read, its nodes wait, each on some level, and it is at this
-- spot
pub record IsAtPlace (c : Config) (walk : Walk) (at : Position) : Type 0 where
  pub level : ℕ
  pub stack : List Waiting
  pub nodes : walk.stack.items ≡ nodes_in stack
  pub place : at ≡ record { rest = words_left c walk; stack = stack; spot = spot_at walk level walk.stage }
  pub reads : is_reading walk.stage ≡ true
  pub fits : FitsStage c walk walk.stage

-- the shape, the layers asked and the sizes stay
pub record KeepsPlan (before after : Walk) : Type 0 where
  pub shape : after.shape ≡ before.shape
  pub mask : after.mask ≡ before.mask
  pub lowest : after.lowest ≡ before.lowest
  pub layers : after.layers ≡ before.layers
  pub slots : after.slots ≡ before.slots

-- and so does the word that is next
pub record KeepsWord (before after : Walk) : Type 0 where
  pub plan : KeepsPlan before after
  pub layer : after.layer ≡ before.layer
  pub slot : after.slot ≡ before.slot

-- a walk that has not begun, of this shape and mask, in a world of these sizes
pub record BeginsWith (walk : Walk) (c : Config) (shape : Shape) (mask : ℕ) : Type 0 where
  pub shape_is : walk.shape ≡ shape
  pub mask_is : walk.mask ≡ mask
  pub sized : IsSized c walk
  pub lowest : IsNextLayer mask c.layers 0 walk.lowest
  pub stage : walk.stage ≡ Begin
  pub layer : walk.layer ≡ walk.lowest
  pub slot : walk.slot ≡ 0
  pub stack : walk.stack.items ≡ []
