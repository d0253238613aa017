-- Where a segment enters a box.
use Rattle.std.specs.Prelude.{◌≡◌, ℕ, ◌*◌, ◌<◌, ◌≤◌, unsigned_abs}
use Rattle.fixed_box.specs.Corner.{along}
use Rattle.fixed_box.specs.Touch.{IsBetween, IsWithinAt}
use Rattle.fixed_box.specs.declared.FixBox.{FixBox}
use Rattle.fixed_box.specs.declared.Segment.{Segment}
use Rattle.shape_test.specs.declared.fraction.Frac.{Frac}

-- the first fraction of the way at which the segment is between the sides of the box on this one axis
pub record IsOwnEntry (s : Segment) (b : FixBox) (axis : ℕ) (f : Frac) : Type 0 where
  pub nonzero : 1 ≤ f.m
  pub at_most_one : f.n ≤ f.m
  pub between : IsBetween s b f.n f.m axis
  pub least : (n m : ℕ) → 1 ≤ m → n ≤ m → IsBetween s b n m axis → f.n * m ≤ n * f.m

-- it is written over the step along the first axis of which it is the entry
pub record IsOverFirstAxis (s : Segment) (b : FixBox) (f : Frac) : Type 0 where
  pub axis : ℕ
  pub is_axis : axis < 3
  pub own : IsOwnEntry s b axis f
  pub first : (earlier : ℕ) → earlier < axis → ¬ IsOwnEntry s b earlier f
  pub scale : f.m ≡ unsigned_abs (along s.d axis)

-- the first fraction of the way at which the segment is within the box
pub record IsEntry (s : Segment) (b : FixBox) (f : Frac) : Type 0 where
  pub within : IsWithinAt s b f.n f.m
  pub least : (n m : ℕ) → IsWithinAt s b n m → f.n * m ≤ n * f.m
  pub zero_over_one : f.n ≡ 0 → f.m ≡ 1
  pub over_first_axis : 1 ≤ f.n → IsOverFirstAxis s b f
