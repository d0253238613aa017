-- Whether a shape touches a box, as a test that computes.
use Rattle.std.specs.Prelude.{ℕ, nat_le, pos, ◌+ℤ◌, ◌-ℤ◌, ◌*ℤ◌, int_le, unsigned_abs, Bool, ◌&&◌, ◌||◌}
use Rattle.std.specs.Int.{int_max}
use Rattle.fixed_box.specs.Corner.{on_axis, along}
use Rattle.fixed_box.specs.FixBox.{touches, is_within}
use Rattle.fixed_box.specs.declared.FixBox.{FixBox}
use Rattle.fixed_box.specs.declared.Segment.{Segment}
use Rattle.fixed_box.specs.declared.Shape.{Shape}
use Rattle.fixed_box.specs.declared.Shape.TheVariants.{Box, Point, Segment as Ray}
use Rattle.shape_test.specs.declared.fraction.Frac.{Frac}

-- on this axis the point at the fraction f of the way is between the sides of the box;
-- the point and the sides are both multiplied by f.m, so that all are whole numbers
abbrev pub is_between : Segment → FixBox → Frac → ℕ → Bool
is_between s b f axis =
    let place = pos f.m *ℤ on_axis s.o axis +ℤ pos f.n *ℤ along s.d axis in
    int_le (pos f.m *ℤ on_axis b.lo axis) place && int_le place (pos f.m *ℤ on_axis b.hi axis)

-- f is a fraction of the way, and the point there lies in the box
abbrev pub is_within_at : Segment → FixBox → Frac → Bool
is_within_at s b f =
    (nat_le 1 f.m && nat_le f.n f.m) && (is_between s b f 0 && is_between s b f 1 && is_between s b f 2)

-- how far from the box the segment begins on an axis, 0 where it begins between the sides
abbrev pub distance : Segment → FixBox → ℕ → ℕ
distance s b axis =
    let below = on_axis b.lo axis -ℤ on_axis s.o axis in
    let above = on_axis s.o axis -ℤ on_axis b.hi axis in
    unsigned_abs (int_max (int_max below above) (pos 0))

-- the fraction of the way at which it has gone that far; where it never goes so far, this is no fraction of the way
abbrev pub arrival : Segment → FixBox → ℕ → Frac
arrival s b axis = record { n = distance s b axis; m = unsigned_abs (along s.d axis) }

-- the shape has a point in the box; the first such point of a segment is where it begins,
-- or where it comes between the sides on the last of the axes
abbrev pub is_touched : Shape → FixBox → Bool
is_touched (Box a) b = touches a b
is_touched (Point p) b = is_within p b
is_touched (Ray s) b =
    is_within_at s b (record { n = 0; m = 1 }) ||
    is_within_at s b (arrival s b 0) || is_within_at s b (arrival s b 1) || is_within_at s b (arrival s b 2)
