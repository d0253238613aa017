-- A query whose shape touches nothing that the bodies of the layers that it asks had.
use Rattle.std.specs.Prelude.{◌≡◌, ℕ, ◌+◌, ◌<◌, ◌≤◌, ◌==◌, Bool, false, if◌then◌else◌, List, [], ◌∷◌, filter, slice_index, Option, Some, None}
use Rattle.std.specs.Int.{bit_at}
use Rattle.std.specs.List.{range_with_len}
use Rattle.fixed_box.specs.FixBox.{words_of}
use Rattle.fixed_box.specs.Touch.{Touch}
use Rattle.fixed_box.specs.declared.fix_box.FixBox.{FixBox}
use Rattle.fixed_box.specs.declared.shape.Shape.{Shape}
use Rattle.word_map.specs.declared.config.Config.{Config}
use Rattle.core_state.specs.declared.item.Load.{Load}
use Rattle.core_state.specs.Core.{Core}
use Rattle.core_state.specs.Scope.{Sight, sight}
use Rattle.core_state.specs.Encoding.{sides_of}
use Rattle.core_state.specs.Space.{IsInLayer, IsInSpace}
use Rattle.core_state.specs.Walking.{Query}
use Rattle.core_state.specs.ReadersCounted.{reader_scope, layer_after}

-- the layers that a query asks, ascending
abbrev pub asked_layers : Config → ℕ → List ℕ
asked_layers c mask = filter (λ layer. bit_at mask layer == 1) (range_with_len 0 c.layers)

-- the shape touches no box that lies in the space of the layer
abbrev pub IsClearOf : Sight → Shape → ℕ → Type 0
IsClearOf s shape layer = (b : FixBox) → IsInSpace s layer (sides_of (words_of b)) → ¬ Touch shape b

-- a box that reaches at least as far as each side that counts for the space of the layer
abbrev pub IsHullOf : Sight → ℕ → FixBox → Type 0
IsHullOf s layer hull = (q side : ℕ) → IsInLayer s layer q side → (q < 3 → slice_index (words_of hull) q ≤ side) × (3 ≤ q → q < 6 → side ≤ slice_index (words_of hull) q)

-- the shape touches no box in the space of any layer that is asked
abbrev pub IsClear : Core → Query → Type 0
IsClear core query = (layer : ℕ) → layer < core.config.layers → bit_at query.mask layer ≡ 1 → IsClearOf (sight reader_scope core) query.shape layer

-- this layer is at hand
abbrev pub is_at : ℕ → Option ℕ → Bool
is_at layer None = false
is_at layer (Some l) = l == layer

-- how many of the loads were made of a main word or a slot of the layer or behind one, where another layer may have been at
-- hand before them
abbrev pub loads_in : ℕ → Option ℕ → List Load → ℕ
loads_in layer before [] = 0
loads_in layer before (l ∷ loads) = (if is_at layer (layer_after before l) then 1 else 0) + loads_in layer (layer_after before l) loads
