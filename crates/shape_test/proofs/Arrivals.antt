-- A segment touches a box exactly where it is in the box at its beginning, or at its arrival on some axis.
use Rattle.std.proofs.Common.{Decides, ◌≡◌, IsTrue, ℕ, zero, suc, List, [], ◌∷◌, ◌≤◌, ◌<◌, ◌*◌, ℤ, pos, ◌-ℤ◌, ◌≤ℤ◌, Bool, ◌↔◌, refl, sym, subst, inl, inr, ◌⊎◌, arith}
use Rattle.std.specs.Prelude.{int_le, nat_le, unsigned_abs}
use Rattle.std.specs.Int.{int_max}
use Rattle.std.proofs.lemmas.Int.{ints, clamps, by_lt_z}
use Rattle.std.proofs.lemmas.Bool.{cases_lt, le-leb, leb-true}
use Rattle.std.proofs.lemmas.Bool.Decides.{Decides-and, Decides-or, Decides-like, same_from_decides}
use Rattle.fixed_box.specs.Corner.{on_axis, along}
use Rattle.fixed_box.specs.Touch.{IsBetween, IsWithinAt, Touch}
use Rattle.fixed_box.specs.Range.{InRange}
use Rattle.fixed_box.specs.declared.Coord.{Coord}
use Rattle.fixed_box.specs.declared.FixBox.{FixBox}
use Rattle.fixed_box.specs.declared.Segment.{Segment}
use Rattle.fixed_box.specs.declared.Shape.{Shape}
use Rattle.fixed_box.specs.declared.Shape.TheVariants.{Box, Point, Segment as Ray}
use Rattle.shape_test.specs.Fraction.{IsSmall, IsLater}
use Rattle.shape_test.specs.Run.{IsRun, IsSpan}
use Rattle.shape_test.specs.Spans.{IsSpanOn, AreSpans, IsLatest}
use Rattle.shape_test.specs.Touched.{is_between, is_within_at, distance, arrival, is_touched}
use Rattle.shape_test.specs.declared.fraction.Frac.{Frac}
use Rattle.shape_test.specs.declared.run.Run.{Run}
use Rattle.shape_test.specs.declared.span.Span.{Span}
use Rattle.shape_test.specs.declared.spans.Spans.{Spans}
use Rattle.shape_test.proofs.Passing.{IsStep_on, sides_in_order, IsSpanOn-from_run, reaches_from_gap, gap_from_between}
use Rattle.shape_test.proofs.Unique.{same_frac}
use Rattle.shape_test.proofs.Later.{positive_left, IsEntry-from_latest, EndAfter-from_within}

-- ---- the test of a fraction decides

int_le_decides : (x y : ℤ) → Decides (int_le x y) (x ≤ℤ y)
int_le_decides x y = (λ e. grind (arith, ints), λ h. grind (arith, ints))

nat_le_decides : (m n : ℕ) → Decides (nat_le m n) (m ≤ n)
nat_le_decides m n = (leb-true m n, le-leb m n)

module _ (s : Segment) (b : FixBox) (f : Frac) where
  is_between_decides : (axis : ℕ) → Decides (is_between s b f axis) (IsBetween s b f.n f.m axis)
  is_between_decides axis = Decides-and _ _ (int_le_decides _ _) (int_le_decides _ _)

  pub is_within_at_decides : Decides (is_within_at s b f) (IsWithinAt s b f.n f.m)
  is_within_at_decides =
      let way = Decides-and _ _ (nat_le_decides 1 f.m) (nat_le_decides f.n f.m) in
      let xy = Decides-and _ _ (is_between_decides 0) (is_between_decides 1) in
      let inside = Decides-and _ _ xy (is_between_decides 2) in
      Decides-like _
      (λ h. record { nonzero = h.0.0; at_most_one = h.0.1; between = (h.1.0.0, h.1.0.1, h.1.1) })
      (λ w. ((w.nonzero, w.at_most_one), ((w.between.0, w.between.1), w.between.2)))
      (Decides-and _ _ way inside)

-- ---- a segment that is somewhere between the sides of an axis has a span there, which begins with its arrival

in_range_on : (cs : List Coord) (axis : ℕ) → InRange (on_axis cs axis)
in_range_on [] axis = (omega (arith, ints), omega (arith, ints))
in_range_on (c ∷ cs) zero = c.in_range
in_range_on (c ∷ cs) (suc axis) = in_range_on cs axis

-- the segment's run on an axis, and the span of one that comes between the sides
run_of : (s : Segment) (b : FixBox) (axis : ℕ) → axis < 3 → (r : Run) × IsRun s b axis r
run_of s b axis is_axis =
    let begin = in_range_on s.o axis in
    let low = in_range_on b.lo axis in
    let high = in_range_on b.hi axis in
    let sides = sides_in_order b axis is_axis in
    let step = IsStep_on s axis is_axis in
    by_lt_z (along s.d axis) (pos 0)
    (λ h. (
      record {
        near = on_axis s.o axis -ℤ on_axis b.hi axis;
        far = on_axis s.o axis -ℤ on_axis b.lo axis;
        length = pos 0 -ℤ along s.d axis;
        in_range = ((omega (arith, ints), omega (arith, ints)), (omega (arith, ints), omega (arith, ints)), (omega (arith, ints), omega (arith, ints)));
        ordered = omega (arith, ints);
        onward = omega (arith, ints);
      },
      record { up = λ k. absurd (omega (arith, ints)); down = λ _. (refl, refl, refl) },
    ))
    (λ h. (
      record {
        near = on_axis b.lo axis -ℤ on_axis s.o axis;
        far = on_axis b.hi axis -ℤ on_axis s.o axis;
        length = along s.d axis;
        in_range = ((omega (arith, ints), omega (arith, ints)), (omega (arith, ints), omega (arith, ints)), (omega (arith, ints), omega (arith, ints)));
        ordered = omega (arith, ints);
        onward = omega (arith, ints);
      },
      record { up = λ _. (refl, refl, refl); down = λ k. absurd (omega (arith, ints)) },
    ))

pos_of : (z : ℤ) → pos 0 ≤ℤ z → pos (unsigned_abs z) ≡ z
pos_of z h = grind (arith, ints)

span_of : (r : Run) → r.near ≤ℤ r.length → pos 0 ≤ℤ r.far → (span : Span) × IsSpan r span
span_of r near far =
    let ordered = r.ordered in
    let in_range = r.in_range in
    let enter = pos_of (int_max r.near (pos 0)) (omega (arith, ints, clamps)) in
    let leave = pos_of r.far far in
    let length = pos_of r.length r.onward in (
      record {
        enter = unsigned_abs (int_max r.near (pos 0));
        leave = unsigned_abs r.far;
        length = unsigned_abs r.length;
        on_the_way = omega (arith, ints, clamps);
        ordered = omega (arith, ints, clamps);
        small = (omega (arith, ints), omega (arith, ints));
      },
      record { enter = enter; leave = leave; length = length },
    )

-- where the far side is not behind, the distance is to the near side
distance_from_run : (s : Segment) (b : FixBox) (axis : ℕ) (r : Run) (span : Span) → IsRun s b axis r → IsSpan r span → span.enter ≡ distance s b axis
distance_from_run s b axis r span w k =
    let far = k.leave in
    let enter = k.enter in
    let whole = pos_of (int_max (int_max (on_axis b.lo axis -ℤ on_axis s.o axis) (on_axis s.o axis -ℤ on_axis b.hi axis)) (pos 0)) (omega (arith, ints, clamps)) in
    by_lt_z (along s.d axis) (pos 0)
    (λ h. let e = w.down h in omega (arith, ints, clamps))
    (λ h. let e = w.up h in omega (arith, ints, clamps))

abbrev start_of : Span → Frac
start_of span = record { n = span.enter; m = span.length }

-- the span of an axis, which starts with the arrival there
record ArrivesOn (s : Segment) (b : FixBox) (axis : ℕ) : Type 0 where
  span : Span
  on : IsSpanOn s b axis span
  start : start_of span ≡ arrival s b axis

arrives_on : (s : Segment) (b : FixBox) (axis n m : ℕ) → axis < 3 → 1 ≤ m → n ≤ m → IsBetween s b n m axis → ArrivesOn s b axis
arrives_on s b axis n m is_axis o q h =
    let run = run_of s b axis is_axis in
    let reaches = reaches_from_gap s b axis run.0 run.1 (gap_from_between s b axis n m o q h) in
    let span = span_of run.0 reaches.0 reaches.1 in
    let on = IsSpanOn-from_run s b axis run.0 span.0 run.1 span.1 in
    record {
      span = span.0;
      on = on;
      start = same_frac _ _ (distance_from_run s b axis run.0 span.0 run.1 span.1) on.scale;
    }

-- ---- the latest of the fractions

-- a fraction, or the start of a span where that is later
later_of : (f : Frac) (span : Span) → IsSmall f → (g : Frac) × IsSmall g × IsLater f span g
later_of f span small =
    elim (cases_lt (f.n * span.length) (span.enter * f.m)) [
      | inl h ↦
          let own = span.small in
          let way = span.on_the_way in
          (record { n = span.enter; m = span.length }, record { nonzero = omega (arith, positive_left span.enter f.m (f.n * span.length) h); at_most_one = way; small = own.0 }, inr (refl, h))
      | inr h ↦ (f, small, inl (refl, h))
    ]

-- the segment is in the box where it begins, or at its arrival on an axis
abbrev IsWithinSome : Segment → FixBox → Type 0
IsWithinSome s b =
    let at = λ (f : Frac). IsWithinAt s b f.n f.m in
    ((at (record { n = 0; m = 1 }) ⊎ at (arrival s b 0)) ⊎ at (arrival s b 1)) ⊎ at (arrival s b 2)

touched_where_within : (s : Segment) (b : FixBox) → Decides (is_touched (Ray s) b) (IsWithinSome s b)
touched_where_within s b =
    let at = λ (f : Frac). is_within_at_decides s b f in
    let x = Decides-or _ _ (at (record { n = 0; m = 1 })) (at (arrival s b 0)) in
    Decides-or _ _ (Decides-or _ _ x (at (arrival s b 1))) (at (arrival s b 2))

-- where the segment is in the box at this fraction, it is there at one of the four
abbrev IsTried : Segment → FixBox → Frac → Type 0
IsTried s b f = IsWithinAt s b f.n f.m → IsWithinSome s b

IsTried-same : (s : Segment) (b : FixBox) (f g : Frac) → f ≡ g → IsTried s b g → IsTried s b f
IsTried-same s b f g e h = subst (λ (r : Frac). IsTried s b r) (sym e) h

IsTried-later : (s : Segment) (b : FixBox) (f g : Frac) (span : Span) → IsLater f span g → IsTried s b f → IsTried s b (start_of span) → IsTried s b g
IsTried-later s b f g span (inl l) x y = IsTried-same s b g f l.0 x
IsTried-later s b f g span (inr l) x y = IsTried-same s b g (start_of span) l.0 y

-- the latest of the four fractions is an entry, and it is one of them
within_some : (s : Segment) (b : FixBox) (n m : ℕ) → IsWithinAt s b n m → IsWithinSome s b
within_some s b n m w =
    let x = arrives_on s b 0 n m (omega arith) w.nonzero w.at_most_one w.between.0 in
    let y = arrives_on s b 1 n m (omega arith) w.nonzero w.at_most_one w.between.1 in
    let z = arrives_on s b 2 n m (omega arith) w.nonzero w.at_most_one w.between.2 in
    let spans : Spans = record { x = x.span; y = y.span; z = z.span } in
    let are : AreSpans s b spans = record { on_x = x.on; on_y = y.on; on_z = z.on } in
    let begin : Frac = record { n = 0; m = 1 } in
    let f = later_of begin x.span (record { nonzero = omega arith; at_most_one = omega arith; small = omega arith }) in
    let g = later_of f.0 y.span f.1 in
    let h = later_of g.0 z.span g.1 in
    let latest : IsLatest spans h.0 = record { after_x = f.0; after_y = g.0; small_x = f.1; small_y = g.1; small = h.1; on_x = f.2; on_y = g.2; on_z = h.2 } in
    let entry = IsEntry-from_latest s b spans h.0 are latest (EndAfter-from_within s b spans h.0 n m are latest w) in
    let try_x = IsTried-later s b begin f.0 x.span f.2 (λ k. inl (inl (inl k))) (IsTried-same s b _ _ x.start (λ k. inl (inl (inr k)))) in
    let try_y = IsTried-later s b f.0 g.0 y.span g.2 try_x (IsTried-same s b _ _ y.start (λ k. inl (inr k))) in
    let try_z = IsTried-later s b g.0 h.0 z.span h.2 try_y (IsTried-same s b _ _ z.start (λ k. inr k)) in
    try_z entry.within

touch_from_some : (s : Segment) (b : FixBox) → IsWithinSome s b → Touch (Ray s) b
touch_from_some s b (inl (inl (inl w))) = (0, (1, w))
touch_from_some s b (inl (inl (inr w))) = (_, (_, w))
touch_from_some s b (inl (inr w)) = (_, (_, w))
touch_from_some s b (inr w) = (_, (_, w))

-- ---- the test of a shape decides

pub is_touched_decides : (shape : Shape) (b : FixBox) → Decides (is_touched shape b) (Touch shape b)
is_touched_decides (Box a) b = (λ e. e, λ t. t)
is_touched_decides (Point p) b = (λ e. e, λ t. t)
is_touched_decides (Ray s) b = Decides-like _ (touch_from_some s b) (λ t. within_some s b t.0 t.1.0 t.1.1) (touched_where_within s b)

-- a test that tells whether a shape touches a box is this one
pub same_from_Touch : (shape : Shape) (b : FixBox) (r : Bool) → (IsTrue r ↔ Touch shape b) → r ≡ is_touched shape b
same_from_Touch shape b r h = same_from_decides r (is_touched shape b) h (is_touched_decides shape b)
