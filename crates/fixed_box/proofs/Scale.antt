-- A comparison stays as it is where both sides are multiplied by a whole number.
use Rattle.std.proofs.Common.{◌≡◌, ℕ, zero, suc, ◌≤◌, ℤ, pos, ◌+ℤ◌, ◌*ℤ◌, ◌≤ℤ◌, arith}
use Rattle.std.proofs.lemmas.Int.{ints, by_lt_z}

scale_more : (m : ℕ) (x : ℤ) → pos (suc m) *ℤ x ≡ pos m *ℤ x +ℤ x
scale_more m x = omega (arith, ints)

pub scale_le : (m : ℕ) (x y : ℤ) → x ≤ℤ y → (pos m *ℤ x) ≤ℤ (pos m *ℤ y)
scale_le zero x y h = omega (arith, ints)
scale_le (suc m) x y h = omega (arith, ints, scale_le m x y h, scale_more m x, scale_more m y)

pub le_from_scaled : (m : ℕ) (x y : ℤ) → 1 ≤ m → (pos m *ℤ x) ≤ℤ (pos m *ℤ y) → x ≤ℤ y
le_from_scaled zero x y p h = absurd (omega arith)
le_from_scaled (suc m) x y p h =
    by_lt_z y x (λ g. absurd (omega (arith, ints, scale_le m y x (omega (arith, ints)), scale_more m x, scale_more m y))) (λ g. g)
