-- Boxes beside a segment's way.
use Rattle.std.specs.Prelude.{ℕ, ℤ, ◌+ℤ◌, ◌-ℤ◌}
use Rattle.std.specs.Int.{int_min, int_max}
use Rattle.fixed_box.specs.Corner.{on_axis, along}
use Rattle.fixed_box.specs.declared.FixBox.{FixBox}
use Rattle.fixed_box.specs.declared.Segment.{Segment}

-- how far the box is above or below all of the way on an axis, 0 or less where it is neither
abbrev pub gap_of : Segment → FixBox → ℕ → ℤ
gap_of s b axis =
    let end = on_axis s.o axis +ℤ along s.d axis in
    let above = on_axis b.lo axis -ℤ int_max (on_axis s.o axis) end in
    let below = int_min (on_axis s.o axis) end -ℤ on_axis b.hi axis in
    int_max above below
