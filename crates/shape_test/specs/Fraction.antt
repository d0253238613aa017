-- Fractions of a segment's way.
use Rattle.std.specs.Prelude.{◌≡◌, ◌*◌, ◌<◌, ◌≤◌, ◌⊎◌}
use Rattle.shape_test.specs.declared.fraction.Frac.{Frac}
use Rattle.shape_test.specs.declared.span.Span.{Span}

-- a part of the way, whose products with a span are small
pub record IsSmall (f : Frac) : Type 0 where
  pub nonzero : 1 ≤ f.m
  pub at_most_one : f.n ≤ f.m
  pub small : f.m ≤ 16777215

-- the later of a fraction and the beginning of a span; the fraction as it is written where they are equal
abbrev pub IsLater : Frac → Span → Frac → Type 0
IsLater f span later =
    ((later ≡ f) × (span.enter * f.m ≤ f.n * span.length)) ⊎
    ((later ≡ record { n = span.enter; m = span.length }) × (f.n * span.length < span.enter * f.m))
