-- The axes, and the keys by which bodies are put in order.
use Rattle.std.specs.Prelude.{◌≡◌, ℕ, ◌+◌, ◌*◌, List, ℤ, pos, negsuc, ◌+ℤ◌, ◌-ℤ◌, ◌≤ℤ◌, unsigned_abs}
use Rattle.fixed_box.specs.declared.fix_box.FixBox.{FixBox}
use Rattle.scene_model.specs.Tree.{centre, spread}
use Rattle.tree_plan.specs.declared.axis.Axis.{Axis}
use Rattle.tree_plan.specs.declared.axis.Axis.TheVariants.{X, Y, Z}

abbrev pub axis_number : Axis → ℕ
axis_number X = 0
axis_number Y = 1
axis_number Z = 2

-- the range of doubled centres
abbrev pub IsCentre : ℤ → Type 0
IsCentre c = (negsuc 16777215 ≤ℤ c) × (c ≤ℤ pos 16777214)

-- the doubled centre above the index
abbrev pub key_of : ℕ → ℕ × FixBox → ℕ
key_of axis b = unsigned_abs (centre axis b +ℤ pos 16777216) * 4294967296 + b.0

-- the least and the greatest doubled centre of some bodies on an axis, as far as their spread tells
pub record IsExtent (axis : ℕ) (bodies : List (ℕ × FixBox)) (low high : ℤ) : Type 0 where
  pub apart : high -ℤ low ≡ spread axis bodies
  pub low_in : IsCentre low
  pub high_in : IsCentre high
