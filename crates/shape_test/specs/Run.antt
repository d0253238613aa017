-- A segment beside a box on one axis, seen from where the segment begins and in the direction that it goes.
use Rattle.std.specs.Prelude.{◌≡◌, ℕ, pos, ◌-ℤ◌, ◌≤ℤ◌, ◌<ℤ◌}
use Rattle.std.specs.Int.{int_max}
use Rattle.fixed_box.specs.Corner.{on_axis, along}
use Rattle.fixed_box.specs.declared.FixBox.{FixBox}
use Rattle.fixed_box.specs.declared.Segment.{Segment}
use Rattle.shape_test.specs.declared.run.Run.{Run}
use Rattle.shape_test.specs.declared.span.Span.{Span}

-- how far off the near and the far side of the box are, and how far the segment goes
pub record IsRun (s : Segment) (b : FixBox) (axis : ℕ) (r : Run) : Type 0 where
  pub up : pos 0 ≤ℤ along s.d axis →
      (r.near ≡ on_axis b.lo axis -ℤ on_axis s.o axis) × (r.far ≡ on_axis b.hi axis -ℤ on_axis s.o axis) × (r.length ≡ along s.d axis)
  pub down : along s.d axis <ℤ pos 0 →
      (r.near ≡ on_axis s.o axis -ℤ on_axis b.hi axis) × (r.far ≡ on_axis s.o axis -ℤ on_axis b.lo axis) × (r.length ≡ pos 0 -ℤ along s.d axis)

-- the same in whole numbers, from where the segment begins on
pub record IsSpan (r : Run) (span : Span) : Type 0 where
  pub enter : pos span.enter ≡ int_max r.near (pos 0)
  pub leave : pos span.leave ≡ r.far
  pub length : pos span.length ≡ r.length
