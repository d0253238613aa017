-- The points of a segment, most of which lie between whole coordinates.
use Rattle.std.specs.Prelude.{◌≡◌, ℕ, ◌≤◌, ℤ, pos, ◌+ℤ◌, ◌*ℤ◌, ◌≤ℤ◌, List}
use Rattle.fixed_box.specs.Corner.{OnEachAxis, on_axis, along}
use Rattle.fixed_box.specs.declared.Coord.{Coord}
use Rattle.fixed_box.specs.declared.FixBox.{FixBox}
use Rattle.fixed_box.specs.declared.Segment.{Segment}

-- a place: on each axis so many parts, `scale` of which make 1/1024 metre
pub record Place : Type 0 where
  pub scale : ℕ
  pub nonzero : 1 ≤ scale
  pub on : ℕ → ℤ

-- n parts of the `scale` parts of the way lead there
pub record IsOnSegment (s : Segment) (p : Place) : Type 0 where
  pub n : ℕ
  pub at_most_one : n ≤ p.scale
  pub there : OnEachAxis (λ axis. p.on axis ≡ pos p.scale *ℤ on_axis s.o axis +ℤ pos n *ℤ along s.d axis)

-- the place is in the box or on its surface
abbrev pub IsInBox : Place → FixBox → Type 0
IsInBox p b =
    OnEachAxis (λ axis.
    ((pos p.scale *ℤ on_axis b.lo axis) ≤ℤ p.on axis) ×
    (p.on axis ≤ℤ (pos p.scale *ℤ on_axis b.hi axis)))

-- a place on the segment and in the box
pub record TouchingPlace (s : Segment) (b : FixBox) : Type 0 where
  pub place : Place
  pub on_segment : IsOnSegment s place
  pub in_box : IsInBox place b

-- the segment ends at this point
abbrev pub EndsAt : Segment → List Coord → Type 0
EndsAt s point = OnEachAxis (λ axis. on_axis point axis ≡ on_axis s.o axis +ℤ along s.d axis)
