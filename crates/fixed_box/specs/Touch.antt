-- When a shape touches a box.
use Rattle.std.specs.Prelude.{◌≡◌, IsTrue, ℕ, ◌≤◌, pos, ◌+ℤ◌, ◌*ℤ◌, ◌≤ℤ◌}
use Rattle.fixed_box.specs.Corner.{OnEachAxis, on_axis, along}
use Rattle.fixed_box.specs.FixBox.{touches, is_within}
use Rattle.fixed_box.specs.declared.fix_box.FixBox.{FixBox}
use Rattle.fixed_box.specs.declared.segment.Segment.{Segment}
use Rattle.fixed_box.specs.declared.shape.Shape.{Shape}
use Rattle.fixed_box.specs.declared.shape.Shape.TheVariants.{Box, Point, Segment as Ray}

-- on this axis the point at n/m of the segment's way is between the sides of the box;
-- the point and the sides are both multiplied by m, so that all are whole numbers
abbrev pub IsBetween : Segment → FixBox → ℕ → ℕ → ℕ → Type 0
IsBetween s b n m axis =
    let place = pos m *ℤ on_axis s.o axis +ℤ pos n *ℤ along s.d axis in
    ((pos m *ℤ on_axis b.lo axis) ≤ℤ place) × (place ≤ℤ (pos m *ℤ on_axis b.hi axis))

-- the point at n/m of the segment's way lies in the box
pub record IsWithinAt (s : Segment) (b : FixBox) (n m : ℕ) : Type 0 where
  pub nonzero : 1 ≤ m
  pub at_most_one : n ≤ m
  pub between : OnEachAxis (IsBetween s b n m)

-- the shape has a point in the box
abbrev pub Touch : Shape → FixBox → Type 0
Touch (Box a) b = IsTrue (touches a b)
Touch (Point p) b = IsTrue (is_within p b)
Touch (Ray s) b = (n : ℕ) × ((m : ℕ) × IsWithinAt s b n m)

-- the segment is the one point that it begins at
abbrev pub IsStill : Segment → Type 0
IsStill s = OnEachAxis (λ axis. along s.d axis ≡ pos 0)
