-- Corners of boxes, points and steps: lists of three, one for each of the axes x, y, z.
use Rattle.std.specs.Prelude.{◌≡◌, Bool, ◌&&◌, ℕ, zero, suc, ℤ, pos, ◌+ℤ◌, List, [], ◌∷◌, length, slice_index_or, int_le, IsTrue}
use Rattle.std.specs.Int.{int_min, int_max}
use Rattle.fixed_box.specs.Range.{InRange, IsStep}
use Rattle.fixed_box.specs.declared.coord.Coord.{Coord}

-- a fact on each axis: 0 is x, 1 is y, 2 is z
abbrev pub OnEachAxis : (ℕ → Type 0) → Type 0
OnEachAxis P = P 0 × P 1 × P 2

-- the coordinate on an axis
abbrev pub on_axis : List Coord → ℕ → ℤ
on_axis [] axis = pos 0
on_axis (c ∷ cs) zero = c.value
on_axis (c ∷ cs) (suc axis) = on_axis cs axis

-- the step along an axis
abbrev pub along : List ℤ → ℕ → ℤ
along steps axis = slice_index_or steps axis (pos 0)

-- on each axis the one corner is at most the other
abbrev pub is_at_most : List Coord → List Coord → Bool
is_at_most a b =
    int_le (on_axis a 0) (on_axis b 0) && int_le (on_axis a 1) (on_axis b 1) && int_le (on_axis a 2) (on_axis b 2)

-- on each axis the lesser of two
abbrev pub IsLeast : List Coord → List Coord → List Coord → Type 0
IsLeast a b r = OnEachAxis (λ axis. on_axis r axis ≡ int_min (on_axis a axis) (on_axis b axis))

-- on each axis the greater of two
abbrev pub IsGreatest : List Coord → List Coord → List Coord → Type 0
IsGreatest a b r = OnEachAxis (λ axis. on_axis r axis ≡ int_max (on_axis a axis) (on_axis b axis))

-- the corner stays in range where it is moved by these steps
abbrev pub CanShift : List Coord → List ℤ → Type 0
CanShift corner v = OnEachAxis (λ axis. InRange (on_axis corner axis +ℤ along v axis))

-- the corner moved by these steps
abbrev pub IsShifted : List Coord → List ℤ → List Coord → Type 0
IsShifted old v new = OnEachAxis (λ axis. on_axis new axis ≡ on_axis old axis +ℤ along v axis)

-- two corners of a box: the first is at most the second
pub record IsOrdered (lo hi : List Coord) : Type 0 where
  pub three_lo : length lo ≡ 3
  pub three_hi : length hi ≡ 3
  pub at_most : IsTrue (is_at_most lo hi)

-- where a segment begins, and the steps to its end
pub record IsReach (o : List Coord) (d : List ℤ) : Type 0 where
  pub three_o : length o ≡ 3
  pub three_d : length d ≡ 3
  pub steps : OnEachAxis (λ axis. IsStep (along d axis))
