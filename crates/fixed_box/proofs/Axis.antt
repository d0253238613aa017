-- What the code reads at an index of a corner is the corner's number on that axis.
use Rattle.std.proofs.Common.{◌≡◌, ℕ, zero, suc, ◌<◌, List, [], ◌∷◌, length, slice_index_or, ℤ, pos, to_z, of_z, w32, FitsSigned, refl, arith}
use Rattle.std.proofs.lemmas.Int.{ints, to_z-of_z}
use Rattle.std.specs.Int.Signed.{mag}
use Rattle.fixed_box.specs.Corner.{on_axis}
use Rattle.fixed_box.specs.declared.coord.Coord.{Coord}

pub fits-from_range : (c : Coord) → FitsSigned w32 c.value
fits-from_range c = omega (arith, ints, c.in_range.0, c.in_range.1)

pub on_axis_read : (a : List Coord) (i : ℕ) (d : Coord) → i < length a → to_z w32 (of_z w32 (slice_index_or a i d).value) ≡ on_axis a i
on_axis_read [] i d h = absurd (omega (arith, h))
on_axis_read (c ∷ cs) zero d h = to_z-of_z w32 c.value (fits-from_range c)
on_axis_read (c ∷ cs) (suc i) d h = on_axis_read cs i d (omega (arith, h))

pub on_axis_at : (a : List Coord) (i : ℕ) (d : Coord) → i < length a → (slice_index_or a i d).value ≡ on_axis a i
on_axis_at [] i d h = absurd (omega (arith, h))
on_axis_at (c ∷ cs) zero d h = refl
on_axis_at (c ∷ cs) (suc i) d h = on_axis_at cs i d (omega (arith, h))

pub step_read : (v : List ℤ) (i : ℕ) → mag (slice_index_or v i (pos 0)) < 2147483648 → to_z w32 (of_z w32 (slice_index_or v i (pos 0))) ≡ slice_index_or v i (pos 0)
step_read v i h = to_z-of_z w32 _ (record { sfits = h })

-- what the check needs to know of indexed reads
pub ruleset reads = (on_axis_read, on_axis_at, step_read)
