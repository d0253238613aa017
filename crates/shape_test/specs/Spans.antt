-- The spans of a segment beside a box on the three axes.
use Rattle.std.specs.Prelude.{◌≡◌, ℕ, ◌*◌, ◌≤◌, ◌↔◌, unsigned_abs}
use Rattle.fixed_box.specs.Corner.{along}
use Rattle.fixed_box.specs.Touch.{IsBetween}
use Rattle.fixed_box.specs.declared.FixBox.{FixBox}
use Rattle.fixed_box.specs.declared.Segment.{Segment}
use Rattle.shape_test.specs.Fraction.{IsSmall, IsLater}
use Rattle.shape_test.specs.declared.fraction.Frac.{Frac}
use Rattle.shape_test.specs.declared.span.Span.{Span}
use Rattle.shape_test.specs.declared.spans.Spans.{Spans}

-- on this axis the segment is between the sides of the box on just this part of its way
pub record IsSpanOn (s : Segment) (b : FixBox) (axis : ℕ) (span : Span) : Type 0 where
  pub scale : span.length ≡ unsigned_abs (along s.d axis)
  pub passes : (n m : ℕ) → IsBetween s b n m axis ↔ (m * span.enter ≤ n * span.length) × (n * span.length ≤ m * span.leave)

-- the spans of the three axes
pub record AreSpans (s : Segment) (b : FixBox) (spans : Spans) : Type 0 where
  pub on_x : IsSpanOn s b 0 spans.x
  pub on_y : IsSpanOn s b 1 spans.y
  pub on_z : IsSpanOn s b 2 spans.z

-- the latest beginning of the three, found by looking at x, then y, then z
pub record IsLatest (spans : Spans) (f : Frac) : Type 0 where
  pub after_x : Frac
  pub after_y : Frac
  pub small_x : IsSmall after_x
  pub small_y : IsSmall after_y
  pub small : IsSmall f
  pub on_x : IsLater (record { n = 0; m = 1 }) spans.x after_x
  pub on_y : IsLater after_x spans.y after_y
  pub on_z : IsLater after_y spans.z f

-- none of the three ends before the fraction
abbrev pub EndAfter : Spans → Frac → Type 0
EndAfter spans f =
    (f.n * spans.x.length ≤ spans.x.leave * f.m) ×
    (f.n * spans.y.length ≤ spans.y.leave * f.m) ×
    (f.n * spans.z.length ≤ spans.z.leave * f.m)
