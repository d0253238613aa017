-- What holds of shapes and the boxes that they touch.
use Rattle.std.proofs.Common.{◌≡◌, IsTrue, ℕ, ◌≤◌, ℤ, pos, ◌+ℤ◌, ◌*ℤ◌, ◌≤ℤ◌, ◌↔◌, arith}
use Rattle.std.proofs.lemmas.Bool.{and_parts, and_from}
use Rattle.std.proofs.lemmas.Int.{ints}
use Rattle.fixed_box.specs.Corner.{on_axis, along}
use Rattle.fixed_box.specs.FixBox.{is_within, contains}
use Rattle.fixed_box.specs.Touch.{IsBetween, IsWithinAt, IsStill, Touch}
use Rattle.fixed_box.specs.declared.fix_box.FixBox.{FixBox}
use Rattle.fixed_box.specs.declared.segment.Segment.{Segment}
use Rattle.fixed_box.specs.declared.shape.Shape.{Shape}
use Rattle.fixed_box.specs.declared.shape.Shape.TheVariants.{Box, Point, Segment as Ray}
use Rattle.fixed_box.proofs.Order.{axes_from_at_most, at_most_from_axes, at_most_trans}
use Rattle.fixed_box.proofs.Scale.{scale_le, le_from_scaled}

-- ---- a larger box

between_outward : (s : Segment) (outer inner : FixBox) (n m axis : ℕ) → on_axis outer.lo axis ≤ℤ on_axis inner.lo axis → on_axis inner.hi axis ≤ℤ on_axis outer.hi axis → IsBetween s inner n m axis → IsBetween s outer n m axis
between_outward s outer inner n m axis l h w =
    let f = scale_le m _ _ l in
    let g = scale_le m _ _ h in
    (omega (arith, ints), omega (arith, ints))

pub IsWithinAt-outward : (s : Segment) (outer inner : FixBox) (n m : ℕ) → IsTrue (contains outer inner) → IsWithinAt s inner n m → IsWithinAt s outer n m
IsWithinAt-outward s outer inner n m c w =
    let f = and_parts _ _ c in
    let l = axes_from_at_most outer.lo inner.lo f.0 in
    let h = axes_from_at_most inner.hi outer.hi f.1 in
    record {
      nonzero = w.nonzero;
      at_most_one = w.at_most_one;
      between = (
        between_outward s outer inner n m 0 l.0 h.0 w.between.0,
        between_outward s outer inner n m 1 l.1 h.1 w.between.1,
        between_outward s outer inner n m 2 l.2 h.2 w.between.2,
      );
    }

pub Touch-outward : (shape : Shape) (outer inner : FixBox) → IsTrue (contains outer inner) → Touch shape inner → Touch shape outer
Touch-outward (Box a) outer inner c t =
    let f = and_parts _ _ c in
    let g = and_parts _ _ t in
    and_from _ _ (at_most_trans a.lo inner.hi outer.hi g.0 f.1) (at_most_trans outer.lo inner.lo a.hi f.0 g.1)
Touch-outward (Point p) outer inner c t =
    let f = and_parts _ _ c in
    let g = and_parts _ _ t in
    and_from _ _ (at_most_trans outer.lo inner.lo p f.0 g.0) (at_most_trans p inner.hi outer.hi g.1 f.1)
Touch-outward (Ray s) outer inner c t = (t.0, (t.1.0, IsWithinAt-outward s outer inner t.0 t.1.0 c t.1.1))

-- ---- a segment without a step

still_axis : (lo o hi d : ℤ) (n m : ℕ) → d ≡ pos 0 → 1 ≤ m → (pos m *ℤ lo) ≤ℤ (pos m *ℤ o +ℤ pos n *ℤ d) → (pos m *ℤ o +ℤ pos n *ℤ d) ≤ℤ (pos m *ℤ hi) → (lo ≤ℤ o) × (o ≤ℤ hi)
still_axis lo o hi d n m z p l h =
    let at = rw z at l in
    let below = rw z at h in
    (le_from_scaled m lo o p (omega (arith, ints)), le_from_scaled m o hi p (omega (arith, ints)))

still_is_within : (s : Segment) (b : FixBox) (n m : ℕ) → IsStill s → IsWithinAt s b n m → IsTrue (is_within s.o b)
still_is_within s b n m z w =
    let axis = λ (i : ℕ) (e : along s.d i ≡ pos 0) (k : IsBetween s b n m i). still_axis (on_axis b.lo i) (on_axis s.o i) (on_axis b.hi i) (along s.d i) n m e w.nonzero k.0 k.1 in
    let x = axis 0 z.0 w.between.0 in
    let y = axis 1 z.1 w.between.1 in
    let t = axis 2 z.2 w.between.2 in
    and_from _ _ (at_most_from_axes b.lo s.o (x.0, y.0, t.0)) (at_most_from_axes s.o b.hi (x.1, y.1, t.1))

-- where it begins

pub begins_within : (s : Segment) (b : FixBox) → IsTrue (is_within s.o b) → IsWithinAt s b 0 1
begins_within s b h =
    let f = and_parts _ _ h in
    let l = axes_from_at_most b.lo s.o f.0 in
    let u = axes_from_at_most s.o b.hi f.1 in
    record {
      nonzero = omega arith;
      at_most_one = omega arith;
      between = ((omega (arith, ints), omega (arith, ints)), (omega (arith, ints), omega (arith, ints)), (omega (arith, ints), omega (arith, ints)));
    }

pub Touch-still : (s : Segment) (b : FixBox) → IsStill s → Touch (Ray s) b ↔ Touch (Point s.o) b
Touch-still s b z = (λ t. still_is_within s b t.0 t.1.0 z t.1.1, λ h. (0, (1, begins_within s b h)))
