use Rattle.std.proofs.Common.{◌≡◌, ℤ, pos, ◌-ℤ◌, ◌≤ℤ◌, arith}
use Rattle.std.specs.Int.{int_max}
use Rattle.std.proofs.lemmas.Int.{ints, clamps}
use Rattle.std.proofs.lemmas.Bool.{and_parts, and_from}
use Rattle.fixed_box.specs.Corner.{on_axis}
use Rattle.fixed_box.proofs.Order.{axes_from_at_most, at_most_from_axes}
use Rattle.shape_test.proofs.shape_touch.is_within.Goals as goal

between_from_gap : (lo p hi gap : ℤ) → gap ≡ int_max (lo -ℤ p) (p -ℤ hi) → gap ≤ℤ pos 0 → (lo ≤ℤ p) × (p ≤ℤ hi)
between_from_gap lo p hi gap e h = (omega (arith, ints, clamps), omega (arith, ints, clamps))

gap_from_between : (lo p hi gap : ℤ) → gap ≡ int_max (lo -ℤ p) (p -ℤ hi) → lo ≤ℤ p → p ≤ℤ hi → gap ≤ℤ pos 0
gap_from_between lo p hi gap e h k = omega (arith, ints, clamps)

pub returns : goal.returns
returns c =
    let p = c.args.p.now in
    let b = c.args.b.now in (
      λ e.
          let h : c.max-2.result ≤ℤ pos 0 = grind (arith, ints) in
          let x = between_from_gap (on_axis b.lo 0) (on_axis p 0) (on_axis b.hi 0) _ c.gap.ensures (omega (arith, ints)) in
          let y = between_from_gap (on_axis b.lo 1) (on_axis p 1) (on_axis b.hi 1) _ c.gap-2.ensures (omega (arith, ints)) in
          let z = between_from_gap (on_axis b.lo 2) (on_axis p 2) (on_axis b.hi 2) _ c.gap-3.ensures (omega (arith, ints)) in
          and_from _ _ (at_most_from_axes b.lo p (x.0, y.0, z.0)) (at_most_from_axes p b.hi (x.1, y.1, z.1)),
      λ e.
          let f = and_parts _ _ e in
          let l = axes_from_at_most b.lo p f.0 in
          let u = axes_from_at_most p b.hi f.1 in
          let x = gap_from_between (on_axis b.lo 0) (on_axis p 0) (on_axis b.hi 0) _ c.gap.ensures l.0 u.0 in
          let y = gap_from_between (on_axis b.lo 1) (on_axis p 1) (on_axis b.hi 1) _ c.gap-2.ensures l.1 u.1 in
          let z = gap_from_between (on_axis b.lo 2) (on_axis p 2) (on_axis b.hi 2) _ c.gap-3.ensures l.2 u.2 in
          let h : c.max-2.result ≤ℤ pos 0 = omega (arith, ints, clamps) in
          grind (arith, ints),
    )
