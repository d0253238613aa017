-- A segment has one entry into a box.
use Rattle.std.proofs.Common.{◌≡◌, ℕ, zero, suc, ◌*◌, ◌≤◌, ℤ, pos, ◌+ℤ◌, ◌*ℤ◌, sym, ap, ◌∙◌, inl, inr, arith}
use Rattle.std.specs.Prelude.{unsigned_abs}
use Rattle.std.proofs.Math.Nat.{mul_comm, le_of_mul-le-mul_right}
use Rattle.std.proofs.lemmas.Bool.{cases_lt, cases_order}
use Rattle.fixed_box.specs.Corner.{on_axis, along}
use Rattle.fixed_box.specs.Touch.{IsBetween}
use Rattle.fixed_box.specs.declared.FixBox.{FixBox}
use Rattle.fixed_box.specs.declared.Segment.{Segment}
use Rattle.fixed_box.proofs.Scale.{scale_le, le_from_scaled}
use Rattle.shape_test.specs.Entry.{IsOwnEntry, IsOverFirstAxis, IsEntry}
use Rattle.shape_test.specs.declared.fraction.Frac.{Frac}
use Rattle.shape_test.proofs.Scaling.{scale_plus, scale_scale}
use Rattle.shape_test.proofs.Later.{at_most_trans}

-- ---- fractions that are the same, as n/m and p/q

same_place : (n m p q : ℕ) (o d : ℤ) → n * q ≡ p * m → pos q *ℤ (pos m *ℤ o +ℤ pos n *ℤ d) ≡ pos m *ℤ (pos q *ℤ o +ℤ pos p *ℤ d)
same_place n m p q o d e =
    let x : q * m ≡ m * q = mul_comm q m in
    let y : q * n ≡ m * p = omega (arith, e) in
    rw (scale_plus q (pos m *ℤ o) (pos n *ℤ d), scale_plus m (pos q *ℤ o) (pos p *ℤ d), scale_scale q m o, scale_scale q n d, scale_scale m q o, scale_scale m p d, x, y)

IsBetween-same : (s : Segment) (b : FixBox) (axis n m p q : ℕ) → 1 ≤ m → n * q ≡ p * m → IsBetween s b n m axis → IsBetween s b p q axis
IsBetween-same s b axis n m p q o e h =
    let lo = on_axis b.lo axis in
    let hi = on_axis b.hi axis in
    let at = same_place n m p q (on_axis s.o axis) (along s.d axis) e in
    let x : q * m ≡ m * q = mul_comm q m in
    let swap = λ (z : ℤ). scale_scale q m z ∙ ap (λ k. pos k *ℤ z) x ∙ sym (scale_scale m q z) in
    (le_from_scaled m _ _ o (rw (← swap lo, ← at) (scale_le q _ _ h.0)), le_from_scaled m _ _ o (rw (← swap hi, ← at) (scale_le q _ _ h.1)))

IsOwnEntry-same : (s : Segment) (b : FixBox) (axis : ℕ) (f g : Frac) → f.n * g.m ≡ g.n * f.m → 1 ≤ g.m → g.n ≤ g.m → IsOwnEntry s b axis f → IsOwnEntry s b axis g
IsOwnEntry-same s b axis f g e o w own = record {
  nonzero = o;
  at_most_one = w;
  between = IsBetween-same s b axis f.n f.m g.n g.m own.nonzero e own.between;
  least = λ n m p q h. at_most_trans g.n g.m f.n f.m n m own.nonzero (omega (arith, e)) (own.least n m p q h);
}

same_axis : (s : Segment) (b : FixBox) (f g : Frac) → f.n * g.m ≡ g.n * f.m → (k : IsOverFirstAxis s b f) (l : IsOverFirstAxis s b g) → k.axis ≡ l.axis
same_axis s b f g e k l =
    elim (cases_order k.axis l.axis) [
      | inl same ↦ same
      | inr (inl before) ↦ absurd (l.first k.axis before (IsOwnEntry-same s b k.axis f g e l.own.nonzero l.own.at_most_one k.own))
      | inr (inr after) ↦ absurd (k.first l.axis after (IsOwnEntry-same s b l.axis g f (sym e) k.own.nonzero k.own.at_most_one l.own))
    ]

-- ---- the entry

pub same_frac : (f g : Frac) → f.n ≡ g.n → f.m ≡ g.m → f ≡ g
same_frac f g x y = λ i. record { n = x i; m = y i }

same_over_axis : (s : Segment) (b : FixBox) (f g : Frac) → 1 ≤ f.m → f.n * g.m ≡ g.n * f.m → IsOverFirstAxis s b f → IsOverFirstAxis s b g → f ≡ g
same_over_axis s b f g o e k l =
    let y : f.m ≡ g.m = k.scale ∙ ap (λ a. unsigned_abs (along s.d a)) (same_axis s b f g e k l) ∙ sym l.scale in
    let z : f.n * f.m ≡ g.n * f.m = ap (λ m. f.n * m) y ∙ e in
    let x : f.n ≤ g.n = le_of_mul-le-mul_right {k = f.m} (omega (arith, z)) o in
    let w : g.n ≤ f.n = le_of_mul-le-mul_right {k = f.m} (omega (arith, z)) o in
    same_frac f g (omega arith) y

positive_too : (a b c d : ℕ) → 1 ≤ a → 1 ≤ b → a * b ≡ c * d → 1 ≤ c
positive_too zero b zero d o p e = absurd (omega (arith, o))
positive_too (suc a) zero zero d o p e = absurd (omega (arith, p))
positive_too (suc a) (suc b) zero d o p e = absurd (omega (arith, e))
positive_too a b (suc c) d o p e = omega arith

pub IsEntry-unique : (s : Segment) (b : FixBox) (f g : Frac) → IsEntry s b f → IsEntry s b g → f ≡ g
IsEntry-unique s b f g k l =
    let x = k.least g.n g.m l.within in
    let y = l.least f.n f.m k.within in
    let e : f.n * g.m ≡ g.n * f.m = omega arith in
    elim (cases_lt 0 f.n) [
      | inl p ↦ same_over_axis s b f g k.within.nonzero e (k.over_first_axis p) (l.over_first_axis (positive_too f.n g.m g.n f.m p l.within.nonzero e))
      | inr p ↦
          let z : f.n ≡ 0 = omega arith in
          let one = k.zero_over_one z in
          let w : g.n ≡ 0 = (let v : 0 * g.m ≡ g.n * 1 = rw (← z, ← one) e in omega (arith, v)) in
          same_frac f g (z ∙ sym w) (one ∙ sym (l.zero_over_one w))
    ]
