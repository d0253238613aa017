-- What is known of a segment's steps, and of its run beside a box.
use Rattle.std.proofs.Common.{◌≡◌, ℕ, zero, suc, ◌*◌, ◌<◌, ◌≤◌, ℤ, pos, ◌+ℤ◌, ◌-ℤ◌, ◌*ℤ◌, ◌≤ℤ◌, ◌↔◌, ap, ◌∙◌, arith}
use Rattle.std.specs.Prelude.{unsigned_abs}
use Rattle.std.specs.Int.{int_min, int_max}
use Rattle.std.proofs.lemmas.Int.{ints, clamps, by_lt_z}
use Rattle.std.proofs.Math.Nat.{mul-le-mul_right}
use Rattle.fixed_box.specs.Range.{IsStep}
use Rattle.fixed_box.specs.Corner.{on_axis, along}
use Rattle.fixed_box.specs.Touch.{IsBetween}
use Rattle.fixed_box.specs.declared.FixBox.{FixBox}
use Rattle.fixed_box.specs.declared.Segment.{Segment}
use Rattle.shape_test.specs.Gap.{gap_of}
use Rattle.shape_test.specs.Run.{IsRun, IsSpan}
use Rattle.shape_test.specs.Spans.{IsSpanOn}
use Rattle.shape_test.specs.declared.run.Run.{Run}
use Rattle.shape_test.specs.declared.span.Span.{Span}
use Rattle.fixed_box.proofs.Order.{axes_from_at_most}
use Rattle.fixed_box.proofs.Scale.{scale_le, le_from_scaled}
use Rattle.shape_test.proofs.Scaling.{scale_plus, scale_minus, scale_same}

pub IsStep_on : (s : Segment) (axis : ℕ) → axis < 3 → IsStep (along s.d axis)
IsStep_on s zero h = s.in_reach.steps.0
IsStep_on s (suc zero) h = s.in_reach.steps.1
IsStep_on s (suc (suc zero)) h = s.in_reach.steps.2
IsStep_on s (suc (suc (suc axis))) h = absurd (omega (arith, h))

pub sides_in_order : (b : FixBox) (axis : ℕ) → axis < 3 → on_axis b.lo axis ≤ℤ on_axis b.hi axis
sides_in_order b zero h = (axes_from_at_most b.lo b.hi b.ordered.at_most).0
sides_in_order b (suc zero) h = (axes_from_at_most b.lo b.hi b.ordered.at_most).1
sides_in_order b (suc (suc zero)) h = (axes_from_at_most b.lo b.hi b.ordered.at_most).2
sides_in_order b (suc (suc (suc axis))) h = absurd (omega (arith, h))

-- ---- at n/m of the way, on one axis

-- the segment is between the sides
abbrev Passes : (lo hi o d : ℤ) → (n m : ℕ) → Type 0
Passes lo hi o d n m =
    let place = pos m *ℤ o +ℤ pos n *ℤ d in
    ((pos m *ℤ lo) ≤ℤ place) × (place ≤ℤ (pos m *ℤ hi))

abbrev RunPasses : (near far length : ℤ) → (n m : ℕ) → Type 0
RunPasses near far length n m = ((pos m *ℤ near) ≤ℤ (pos n *ℤ length)) × ((pos n *ℤ length) ≤ℤ (pos m *ℤ far))

passes_up : (lo hi o d near far length : ℤ) (n m : ℕ) → near ≡ lo -ℤ o → far ≡ hi -ℤ o → length ≡ d → Passes lo hi o d n m ↔ RunPasses near far length n m
passes_up lo hi o d near far length n m e f g =
    let x = ap (λ z. pos m *ℤ z) e ∙ scale_minus m lo o in
    let y = ap (λ z. pos m *ℤ z) f ∙ scale_minus m hi o in
    let z = ap (λ z. pos n *ℤ z) g in
    (λ p. (omega (arith, ints), omega (arith, ints)), λ p. (omega (arith, ints), omega (arith, ints)))

passes_down : (lo hi o d near far length : ℤ) (n m : ℕ) → near ≡ o -ℤ hi → far ≡ o -ℤ lo → length ≡ pos 0 -ℤ d → Passes lo hi o d n m ↔ RunPasses near far length n m
passes_down lo hi o d near far length n m e f g =
    let x = ap (λ z. pos m *ℤ z) e ∙ scale_minus m o hi in
    let y = ap (λ z. pos m *ℤ z) f ∙ scale_minus m o lo in
    let z = ap (λ z. pos n *ℤ z) g ∙ scale_minus n (pos 0) d in
    (λ p. (omega (arith, ints), omega (arith, ints)), λ p. (omega (arith, ints), omega (arith, ints)))

span_passes : (near far length : ℤ) (enter leave len n m : ℕ) → pos enter ≡ int_max near (pos 0) → pos leave ≡ far → pos len ≡ length → RunPasses near far length n m ↔ (m * enter ≤ n * len) × (n * len ≤ m * leave)
span_passes near far length enter leave len n m e f g =
    let x = scale_same m leave far f in
    let y = scale_same n len length g in
    by_lt_z near (pos 0)
    (λ b.
    let z : enter ≡ 0 = omega (arith, ints, clamps) in
    let w : m * enter ≡ 0 = rw z (omega arith) in
    let v = scale_le m near (pos 0) (omega (arith, ints)) in
    (λ p. (omega (arith, ints), omega (arith, ints)), λ p. (omega (arith, ints), omega (arith, ints))))
    (λ b.
    let z = scale_same m enter near (omega (arith, ints, clamps)) in
    (λ p. (omega (arith, ints), omega (arith, ints)), λ p. (omega (arith, ints), omega (arith, ints))))

-- ---- on an axis of a segment and a box

run_passes : (s : Segment) (b : FixBox) (axis : ℕ) (r : Run) (n m : ℕ) → IsRun s b axis r → IsBetween s b n m axis ↔ RunPasses r.near r.far r.length n m
run_passes s b axis r n m w =
    by_lt_z (along s.d axis) (pos 0)
    (λ h. let e = w.down h in passes_down (on_axis b.lo axis) (on_axis b.hi axis) (on_axis s.o axis) (along s.d axis) r.near r.far r.length n m e.0 e.1 e.2)
    (λ h. let e = w.up h in passes_up (on_axis b.lo axis) (on_axis b.hi axis) (on_axis s.o axis) (along s.d axis) r.near r.far r.length n m e.0 e.1 e.2)

run_length : (s : Segment) (b : FixBox) (axis : ℕ) (r : Run) (len : ℕ) → IsRun s b axis r → pos len ≡ r.length → len ≡ unsigned_abs (along s.d axis)
run_length s b axis r len w g =
    by_lt_z (along s.d axis) (pos 0)
    (λ h. let e = w.down h in grind (arith, ints))
    (λ h. let e = w.up h in grind (arith, ints))

pub IsSpanOn-from_run : (s : Segment) (b : FixBox) (axis : ℕ) (r : Run) (span : Span) → IsRun s b axis r → IsSpan r span → IsSpanOn s b axis span
IsSpanOn-from_run s b axis r span w k = record {
  scale = run_length s b axis r span.length w k.length;
  passes = λ n m.
      let e = run_passes s b axis r n m w in
      let f = span_passes r.near r.far r.length span.enter span.leave span.length n m k.enter k.leave k.length in
      (λ p. f.0 (e.0 p), λ p. e.1 (f.1 p));
}

-- ---- the box is beside the bounds of the way, or it is not

pub reaches_from_gap : (s : Segment) (b : FixBox) (axis : ℕ) (r : Run) → IsRun s b axis r → gap_of s b axis ≤ℤ pos 0 → (r.near ≤ℤ r.length) × (pos 0 ≤ℤ r.far)
reaches_from_gap s b axis r w g =
    by_lt_z (along s.d axis) (pos 0)
    (λ h. let e = w.down h in (omega (arith, ints, clamps), omega (arith, ints, clamps)))
    (λ h. let e = w.up h in (omega (arith, ints, clamps), omega (arith, ints, clamps)))

-- part of the way up, or down, does not lead further than all of it
part_up : (n m : ℕ) (d : ℤ) → n ≤ m → pos 0 ≤ℤ d → (pos 0 ≤ℤ (pos n *ℤ d)) × ((pos n *ℤ d) ≤ℤ (pos m *ℤ d))
part_up n m d q h =
    let k = unsigned_abs d in
    let e : pos k ≡ d = grind (arith, ints) in
    let x = scale_same n k d e in
    let y = scale_same m k d e in
    let z : n * k ≤ m * k = mul-le-mul_right k q in
    (omega (arith, ints), omega (arith, ints))

gap_from_passes : (lo hi o d : ℤ) (n m : ℕ) → 1 ≤ m → n ≤ m → Passes lo hi o d n m → int_max (lo -ℤ int_max o (o +ℤ d)) (int_min o (o +ℤ d) -ℤ hi) ≤ℤ pos 0
gap_from_passes lo hi o d n m p q h =
    let end = scale_plus m o d in
    by_lt_z d (pos 0)
    (λ g.
    let back = part_up n m (pos 0 -ℤ d) q (omega (arith, ints)) in
    let x = scale_minus n (pos 0) d in
    let y = scale_minus m (pos 0) d in
    let low : lo ≤ℤ o = le_from_scaled m lo o p (omega (arith, ints)) in
    let high : (o +ℤ d) ≤ℤ hi = le_from_scaled m (o +ℤ d) hi p (omega (arith, ints)) in
    omega (arith, ints, clamps))
    (λ g.
    let on = part_up n m d q g in
    let low : lo ≤ℤ (o +ℤ d) = le_from_scaled m lo (o +ℤ d) p (omega (arith, ints)) in
    let high : o ≤ℤ hi = le_from_scaled m o hi p (omega (arith, ints)) in
    omega (arith, ints, clamps))

pub gap_from_between : (s : Segment) (b : FixBox) (axis n m : ℕ) → 1 ≤ m → n ≤ m → IsBetween s b n m axis → gap_of s b axis ≤ℤ pos 0
gap_from_between s b axis n m p q h = gap_from_passes (on_axis b.lo axis) (on_axis b.hi axis) (on_axis s.o axis) (along s.d axis) n m p q h
