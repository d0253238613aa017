-- Products of a whole number with sums, differences and products.
use Rattle.std.proofs.Common.{◌≡◌, ℕ, zero, suc, ◌*◌, ℤ, pos, ◌+ℤ◌, ◌-ℤ◌, ◌*ℤ◌, sym, ap, arith}
use Rattle.std.proofs.lemmas.Int.{ints}

scale_more : (m : ℕ) (x : ℤ) → pos (suc m) *ℤ x ≡ pos m *ℤ x +ℤ x
scale_more m x = omega (arith, ints)

pub scale_plus : (m : ℕ) (x y : ℤ) → pos m *ℤ (x +ℤ y) ≡ pos m *ℤ x +ℤ pos m *ℤ y
scale_plus zero x y = omega (arith, ints)
scale_plus (suc m) x y = omega (arith, ints, scale_plus m x y, scale_more m (x +ℤ y), scale_more m x, scale_more m y)

pub scale_minus : (m : ℕ) (x y : ℤ) → pos m *ℤ (x -ℤ y) ≡ pos m *ℤ x -ℤ pos m *ℤ y
scale_minus zero x y = omega (arith, ints)
scale_minus (suc m) x y = omega (arith, ints, scale_minus m x y, scale_more m (x -ℤ y), scale_more m x, scale_more m y)

pub scale_same : (m k : ℕ) (x : ℤ) → pos k ≡ x → pos m *ℤ x ≡ pos (m * k)
scale_same m k x e = ap (λ z. pos m *ℤ z) (sym e)

pub scale_scale : (m n : ℕ) (x : ℤ) → pos m *ℤ (pos n *ℤ x) ≡ pos (m * n) *ℤ x
scale_scale zero n x = omega (arith, ints)
scale_scale (suc m) n x = omega (arith, ints, scale_scale m n x, scale_more m (pos n *ℤ x))
