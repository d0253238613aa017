use Rattle.std.proofs.Common.{◌≡◌, ℤ, pos, ◌≤ℤ◌, sym, subst, arith}
use Rattle.std.proofs.lemmas.Int.{ints, clamps}
use Rattle.shape_test.proofs.gap.touches_bounds.Goals as goal

pub returns : goal.returns
returns c =
    let under = λ (x y : ℤ) (e : x ≡ y) (h : x ≤ℤ pos 0). subst (λ (z : ℤ). z ≤ℤ pos 0) e h in (
      λ e.
          let h : c.max-2.result ≤ℤ pos 0 = grind (arith, ints) in
          let x : c.gap.result ≤ℤ pos 0 = omega (arith, ints) in
          let y : c.gap-2.result ≤ℤ pos 0 = omega (arith, ints) in
          let z : c.gap-3.result ≤ℤ pos 0 = omega (arith, ints) in
          (under _ _ c.gap.ensures x, under _ _ c.gap-2.ensures y, under _ _ c.gap-3.ensures z),
      λ k.
          let x = under _ _ (sym c.gap.ensures) k.0 in
          let y = under _ _ (sym c.gap-2.ensures) k.1 in
          let z = under _ _ (sym c.gap-3.ensures) k.2 in
          let h : c.max-2.result ≤ℤ pos 0 = omega (arith, ints, clamps) in
          grind (arith, ints),
    )
