-- The latest beginning of the spans is the first fraction at which the segment is in the box.
use Rattle.std.proofs.Common.{◌≡◌, ℕ, zero, suc, ◌*◌, ◌<◌, ◌≤◌, sym, ap, ◌∙◌, subst, refl, inl, inr, arith}
use Rattle.std.proofs.Math.Nat.{mul-le-mul_left, mul-le-mul_right, le_of_mul-le-mul_right}
use Rattle.std.proofs.lemmas.Bool.{cases_lt}
use Rattle.fixed_box.specs.Touch.{IsBetween, IsWithinAt}
use Rattle.fixed_box.specs.declared.FixBox.{FixBox}
use Rattle.fixed_box.specs.declared.Segment.{Segment}
use Rattle.shape_test.specs.Fraction.{IsSmall, IsLater}
use Rattle.shape_test.specs.Spans.{IsSpanOn, AreSpans, IsLatest, EndAfter}
use Rattle.shape_test.specs.Entry.{IsOwnEntry, IsOverFirstAxis, IsEntry}
use Rattle.shape_test.specs.declared.fraction.Frac.{Frac}
use Rattle.shape_test.specs.declared.span.Span.{Span}
use Rattle.shape_test.specs.declared.spans.Spans.{Spans}

-- a/b is at most c/d, and that is at most e/f
pub at_most_trans : (a b c d e f : ℕ) → 1 ≤ d → a * d ≤ c * b → c * f ≤ e * d → a * f ≤ e * b
at_most_trans a b c d e f o h k =
    let x = mul-le-mul_right f h in
    let y = mul-le-mul_right b k in
    let z : (a * f) * d ≤ (e * b) * d = omega arith in
    le_of_mul-le-mul_right z o

-- the span begins at the fraction or before
abbrev pub HasBegun : Span → Frac → Type 0
HasBegun span f = span.enter * f.m ≤ f.n * span.length

HasBegun-from_later : (f later : Frac) (span : Span) → IsLater f span later → HasBegun span later
HasBegun-from_later f later span (inl h) = rw h.0 h.1
HasBegun-from_later f later span (inr h) = rw h.0 (omega arith)

HasBegun-later : (f later : Frac) (span other : Span) → IsSmall f → IsLater f span later → HasBegun other f → HasBegun other later
HasBegun-later f later span other s (inl h) b = rw h.0 b
HasBegun-later f later span other s (inr h) b = rw h.0 (at_most_trans other.enter other.length f.n f.m span.enter span.length s.nonzero b (omega (arith, h.1)))

zero_over_one-later : (f later : Frac) (span : Span) → IsLater f span later → (f.n ≡ 0 → f.m ≡ 1) → later.n ≡ 0 → later.m ≡ 1
zero_over_one-later f later span (inl h) z = rw h.0 z
zero_over_one-later f later span (inr h) z = rw h.0 (λ e. let w : span.enter * f.m ≡ 0 = rw e (omega arith) in absurd (omega (arith, h.1)))

-- ---- on an axis

module _ (s : Segment) (b : FixBox) (axis : ℕ) (span : Span) (on : IsSpanOn s b axis span) where
  -- the span begins no later than each fraction at which the segment is between the sides
  enter_at_most : (n m : ℕ) → IsBetween s b n m axis → span.enter * m ≤ n * span.length
  enter_at_most n m p = omega (arith, ((on.passes n m).0 p).0)

  between_at_enter : IsBetween s b span.enter span.length axis
  between_at_enter = (on.passes span.enter span.length).1 (omega arith, omega (arith, mul-le-mul_left span.length span.ordered))

  own_entry : 1 ≤ span.enter → IsOwnEntry s b axis (record { n = span.enter; m = span.length })
  own_entry o = record {
    nonzero = omega (arith, span.on_the_way);
    at_most_one = span.on_the_way;
    between = between_at_enter;
    least = λ n m _ _ p. enter_at_most n m p;
  }

  -- what is later than a fraction at which the span has begun is no entry of this axis
  not_own_entry : (g f : Frac) → 1 ≤ g.m → HasBegun span g → g.n * f.m < f.n * g.m → ¬ IsOwnEntry s b axis f
  not_own_entry g f o h later own =
      elim (cases_lt 0 span.length) [
        | inl p ↦
            let k = own.least span.enter span.length (omega arith) span.on_the_way between_at_enter in
            let w : f.n * g.m ≤ g.n * f.m = at_most_trans f.n f.m span.enter span.length g.n g.m (omega arith) k h in
            omega (arith, later)
        | inr p ↦
            let begin : IsBetween s b 0 1 axis = (on.passes 0 1).1 (omega (arith, span.on_the_way), omega arith) in
            let k = own.least 0 1 (omega arith) (omega arith) begin in
            let z : f.n ≡ 0 = omega arith in
            let w : f.n * g.m ≡ 0 = rw z (omega arith) in
            omega (arith, later)
      ]

  between_from_span : (f : Frac) → HasBegun span f → f.n * span.length ≤ span.leave * f.m → IsBetween s b f.n f.m axis
  between_from_span f h e = (on.passes f.n f.m).1 (omega (arith, h), omega (arith, e))

  -- a fraction that is no later than one between the sides is not past the span's end
  before_end_from_between : (f : Frac) (n m : ℕ) → 1 ≤ m → f.n * m ≤ n * f.m → IsBetween s b n m axis → f.n * span.length ≤ span.leave * f.m
  before_end_from_between f n m o h p = at_most_trans f.n f.m n m span.leave span.length o h (omega (arith, ((on.passes n m).0 p).1))

pub positive_left : (a b c : ℕ) → c < a * b → 1 ≤ a
positive_left zero b c h = absurd (omega (arith, h))
positive_left (suc a) b c h = omega arith

below_one : (P : ℕ → Type 0) → P 0 → (i : ℕ) → i < 1 → P i
below_one P x zero h = x
below_one P x (suc i) h = absurd (omega (arith, h))

below_two : (P : ℕ → Type 0) → P 0 → P 1 → (i : ℕ) → i < 2 → P i
below_two P x y zero h = x
below_two P x y (suc zero) h = y
below_two P x y (suc (suc i)) h = absurd (omega (arith, h))

begins : Span → Frac
begins span = record { n = span.enter; m = span.length }

over_enter : (s : Segment) (b : FixBox) (axis : ℕ) (span : Span) (g : Frac) → IsSpanOn s b axis span → axis < 3 → g.n * span.length < span.enter * g.m → ((earlier : ℕ) → earlier < axis → ¬ IsOwnEntry s b earlier (begins span)) → IsOverFirstAxis s b (begins span)
unfolding begins
over_enter s b axis span g on is_axis later first = record {
  axis = axis;
  is_axis = is_axis;
  own = own_entry s b axis span on (positive_left span.enter g.m (g.n * span.length) later);
  first = first;
  scale = on.scale;
}

-- ---- the three axes, one after another

has_begun : (p : Spans) (f : Frac) → IsLatest p f → HasBegun p.x f × HasBegun p.y f × HasBegun p.z f
has_begun p f l =
    let x = HasBegun-later l.after_x l.after_y p.y p.x l.small_x l.on_y (HasBegun-from_later _ l.after_x p.x l.on_x) in
    let y = HasBegun-from_later l.after_x l.after_y p.y l.on_y in
    (HasBegun-later l.after_y f p.z p.x l.small_y l.on_z x, HasBegun-later l.after_y f p.z p.y l.small_y l.on_z y, HasBegun-from_later l.after_y f p.z l.on_z)

zero_over_one : (p : Spans) (f : Frac) → IsLatest p f → f.n ≡ 0 → f.m ≡ 1
zero_over_one p f l =
    zero_over_one-later l.after_y f p.z l.on_z (zero_over_one-later l.after_x l.after_y p.y l.on_y (zero_over_one-later _ l.after_x p.x l.on_x (λ _. refl)))

-- no later than each fraction at which the segment is in the box
abbrev IsEarly : Segment → FixBox → Frac → Type 0
IsEarly s b f = (n m : ℕ) → IsWithinAt s b n m → f.n * m ≤ n * f.m

IsEarly-later : (s : Segment) (b : FixBox) (axis : ℕ) (span : Span) (f later : Frac) → IsSpanOn s b axis span → ((n m : ℕ) → IsWithinAt s b n m → IsBetween s b n m axis) → IsLater f span later → IsEarly s b f → IsEarly s b later
IsEarly-later s b axis span f later on side (inl h) e = λ n m w. rw h.0 (e n m w)
IsEarly-later s b axis span f later on side (inr h) e = λ n m w. rw h.0 (enter_at_most s b axis span on n m (side n m w))

is_early : (s : Segment) (b : FixBox) (p : Spans) (f : Frac) → AreSpans s b p → IsLatest p f → IsEarly s b f
is_early s b p f k l =
    IsEarly-later s b 2 p.z l.after_y f k.on_z (λ n m w. w.between.2) l.on_z
    (IsEarly-later s b 1 p.y l.after_x l.after_y k.on_y (λ n m w. w.between.1) l.on_y
    (IsEarly-later s b 0 p.x _ l.after_x k.on_x (λ n m w. w.between.0) l.on_x (λ n m w. omega arith)))

-- by which of the axes was looked at last as the fraction was found
over_first_of : (s : Segment) (b : FixBox) (p : Spans) (f g h : Frac) → AreSpans s b p → IsSmall f → IsSmall g → IsLater (record { n = 0; m = 1 }) p.x f → IsLater f p.y g → IsLater g p.z h → 1 ≤ h.n → IsOverFirstAxis s b h
unfolding begins
over_first_of s b p f g h k v w i j (inr l) o =
    let x = HasBegun-later f g p.y p.x v j (HasBegun-from_later _ f p.x i) in
    let y = HasBegun-from_later f g p.y j in
    subst (λ (r : Frac). IsOverFirstAxis s b r) (sym l.0)
    (over_enter s b 2 p.z g k.on_z (omega arith) l.1
    (below_two (λ a. ¬ IsOwnEntry s b a (begins p.z)) (not_own_entry s b 0 p.x k.on_x g (begins p.z) w.nonzero x l.1) (not_own_entry s b 1 p.y k.on_y g (begins p.z) w.nonzero y l.1)))
over_first_of s b p f g h k v w i (inr j) (inl l) o =
    let x = HasBegun-from_later _ f p.x i in
    subst (λ (r : Frac). IsOverFirstAxis s b r) (sym (l.0 ∙ j.0))
    (over_enter s b 1 p.y f k.on_y (omega arith) j.1 (below_one (λ a. ¬ IsOwnEntry s b a (begins p.y)) (not_own_entry s b 0 p.x k.on_x f (begins p.y) v.nonzero x j.1)))
over_first_of s b p f g h k v w (inr i) (inl j) (inl l) o =
    subst (λ (r : Frac). IsOverFirstAxis s b r) (sym (l.0 ∙ j.0 ∙ i.0))
    (over_enter s b 0 p.x (record { n = 0; m = 1 }) k.on_x (omega arith) i.1 (λ a q. absurd (omega (arith, q))))
over_first_of s b p f g h k v w (inl i) (inl j) (inl l) o =
    let e : h.n ≡ 0 = ap (λ (r : Frac). r.n) (l.0 ∙ j.0 ∙ i.0) in
    absurd (omega (arith, e))

pub IsEntry-from_latest : (s : Segment) (b : FixBox) (p : Spans) (f : Frac) → AreSpans s b p → IsLatest p f → EndAfter p f → IsEntry s b f
IsEntry-from_latest s b p f k l e =
    let h = has_begun p f l in
    record {
      within = record {
        nonzero = l.small.nonzero;
        at_most_one = l.small.at_most_one;
        between = (between_from_span s b 0 p.x k.on_x f h.0 e.0, between_from_span s b 1 p.y k.on_y f h.1 e.1, between_from_span s b 2 p.z k.on_z f h.2 e.2);
      };
      least = is_early s b p f k l;
      zero_over_one = zero_over_one p f l;
      over_first_axis = over_first_of s b p l.after_x l.after_y f k l.small_x l.small_y l.on_x l.on_y l.on_z;
    }

-- where the segment is in the box, no span ends before the latest beginning
pub EndAfter-from_within : (s : Segment) (b : FixBox) (p : Spans) (f : Frac) (n m : ℕ) → AreSpans s b p → IsLatest p f → IsWithinAt s b n m → EndAfter p f
EndAfter-from_within s b p f n m k l w =
    let e = is_early s b p f k l n m w in (
      before_end_from_between s b 0 p.x k.on_x f n m w.nonzero e w.between.0,
      before_end_from_between s b 1 p.y k.on_y f n m w.nonzero e w.between.1,
      before_end_from_between s b 2 p.z k.on_z f n m w.nonzero e w.between.2,
    )
