-- The space of a layer: the hull of all boxes that its bodies ever had, and of those that they are about to get.
use Rattle.std.specs.Prelude.{◌≡◌, ◌⊎◌, ℕ, ◌+◌, ◌<◌, ◌≤◌, length, slice_index}
use Rattle.fixed_box.specs.FixBox.{words_of}
use Rattle.scene_model.specs.Step.{HasBody}
use Rattle.scene_model.specs.History.{point}
use Rattle.core_state.specs.declared.view.Noted.{Noted}
use Rattle.core_state.specs.declared.view.Task.{Task}
use Rattle.core_state.specs.declared.view.Task.TheVariants.{Moving}
use Rattle.core_state.specs.Scope.{Sight, scene_in, HasPass}
use Rattle.core_state.specs.Encoding.{Sides, sides_of}

-- the body at an index had the box at a point of the history from one length on
abbrev pub HadSince : Sight → ℕ → ℕ → Sides → Type 0
HadSince s from index box =
    (n : ℕ) × (from ≤ n) × (n ≤ length s.history) × HasBody (point s.config.bodies s.history n) index (λ r. box ≡ sides_of (words_of r.bounds))

-- the body that was noted had the box at a point of the history from one length on
abbrev pub HadAs : Sight → ℕ → Noted → Sides → Type 0
HadAs s from noted box =
    (n : ℕ) × (from ≤ n) × (n ≤ length s.history) × HasBody (point s.config.bodies s.history n) noted.index
    (λ r. (r.generation ≡ noted.generation) × (r.layer ≡ noted.layer) × (box ≡ sides_of (words_of r.bounds)))

-- some body of a layer had the box at some point
abbrev pub HadInLayer : Sight → ℕ → Sides → Type 0
HadInLayer s layer box =
    (n : ℕ) × (index : ℕ) × (n ≤ length s.history) × HasBody (point s.config.bodies s.history n) index (λ r. (r.layer ≡ layer) × (box ≡ sides_of (words_of r.bounds)))

-- a pass widens bounds for a box that it is to give the body, and has come to this side of it
abbrev pub IsTarget : Task → ℕ → ℕ → ℕ → Type 0
IsTarget (Moving i target) index q side = (i ≡ index) × (q < length target) × (slice_index target q ≡ side)
IsTarget _ index q side = ⊥

abbrev pub IsComing : Sight → ℕ → ℕ → ℕ → Type 0
IsComing s index q side = (number : ℕ) × HasPass s number (λ view. IsTarget view.call.task index q side)

-- a side q that counts for the space of a layer
abbrev pub IsInLayer : Sight → ℕ → ℕ → ℕ → Type 0
IsInLayer s layer q side = ((box : Sides) × HadInLayer s layer box × (box q ≡ side))
    ⊎ ((index : ℕ) × IsComing s index q side × HasBody (scene_in s) index (λ r. r.layer ≡ layer))

-- a box lies in a hull: on each side something that counts reaches as far
abbrev pub IsInHull : (ℕ → ℕ → Type 0) → Sides → Type 0
IsInHull Counts b = (q : ℕ) → q < 3 →
    ((side : ℕ) × Counts q side × (side ≤ b q)) × ((side : ℕ) × Counts (3 + q) side × (b (3 + q) ≤ side))

abbrev pub IsInSpace : Sight → ℕ → Sides → Type 0
IsInSpace s layer b = IsInHull (IsInLayer s layer) b

-- a side of a bound lies in a hull: something that counts reaches as far
abbrev pub IsSideIn : (ℕ → ℕ → Type 0) → ℕ → ℕ → Type 0
IsSideIn Counts q value = (side : ℕ) × Counts q side × (q < 3 → side ≤ value) × (3 ≤ q → value ≤ side)
