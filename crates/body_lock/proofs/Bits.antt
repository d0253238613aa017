-- The lowest bit of a set of stripes, and the set without it.
use Rattle.std.proofs.Common.{◌≡◌, ◌≢◌, inl, inr, ℕ, zero, suc, ◌+◌, ◌-◌, ◌/◌, ◌%◌, ◌^◌, ◌<◌, ◌≤◌, false, eqb, cond, bit_and, Bool, refl, ap, sym, ◌∙◌, subst, arith, w64}
use Rattle.std.specs.Int.{bit_at, trailing_zeros}
use Rattle.std.proofs.lemmas.Bool.{cases_eq, cases_lt, eq-eqb, ne_eqb}
use Rattle.std.proofs.lemmas.Nat.{and_shr, and_le_r, shr-shr, shr_le}
use Rattle.std.proofs.lemmas.Nat.Bits.{bit_at_lowest, bit_at-suc, bit_at-zero, bit_at_above, bit_at-trailing_zeros}
use lib.Bits.{and_step, and_self}
use lib.Count.{count_trailing_zeros, under}
use Rattle.body_lock.specs.Stripes.{has_stripe, IsNext, HasNone, TakesFirst}

-- ---- a number without its lowest bit

-- the bits of half of it
half-bits : (n i : ℕ) → bit_at (bit_and n (n - 1)) (suc i) ≡ bit_at (bit_and (n / 2) ((n - 1) / 2)) i
half-bits n i = bit_at-suc (bit_and n (n - 1)) i ∙ ap (λ (x : ℕ). bit_at x i) (and_shr n (n - 1) 1)

-- an even number less one is odd, and its half is that of the number less one
even-half : (n : ℕ) → 0 < n → n % 2 ≡ 0 → (n - 1) / 2 ≡ n / 2 - 1
even-half n some even = omega arith

low-bit : (n : ℕ) → 0 < n → bit_at (bit_and n (n - 1)) 0 ≡ 0
low-bit n some = bit_at_lowest (bit_and n (n - 1)) ∙ omega (arith, and_step n (n - 1))

-- the lowest bit is cleared
cleared-by : (n t d : ℕ) → 0 < n → n % 2 ≡ d → (n % 2 ≡ 0 → bit_at (bit_and (n / 2) (n / 2 - 1)) t ≡ 0) → bit_at (bit_and n (n - 1)) (under d t) ≡ 0
cleared-by n t zero some low rest = half-bits n t ∙ (ap (λ (x : ℕ). bit_at (bit_and (n / 2) x) t) (even-half n some low) ∙ rest low)
cleared-by n t (suc d) some low rest = low-bit n some

cleared : (w n : ℕ) → 0 < n → n < 2 ^ w → bit_at (bit_and n (n - 1)) (count_trailing_zeros w n) ≡ 0
unfolding count_trailing_zeros
cleared zero n some fits = absurd (omega arith)
cleared (suc w) n some fits = cleared-by n (count_trailing_zeros w (n / 2)) (n % 2) some refl (λ low. cleared w (n / 2) (omega arith) (omega arith))

-- and no other one
kept-by : (n t d i : ℕ) → 0 < n → n % 2 ≡ d → i ≢ under d t → ((j : ℕ) → n % 2 ≡ 0 → j ≢ t → bit_at (bit_and (n / 2) (n / 2 - 1)) j ≡ bit_at (n / 2) j)
    → bit_at (bit_and n (n - 1)) i ≡ bit_at n i
kept-by n t zero zero some low other rest = low-bit n some ∙ sym (bit_at_lowest n ∙ low)
kept-by n t zero (suc i) some low other rest =
    half-bits n i
    ∙ (ap (λ (x : ℕ). bit_at (bit_and (n / 2) x) i) (even-half n some low) ∙ (rest i low (λ same. other (ap suc same)) ∙ sym (bit_at-suc n i)))
kept-by n t (suc d) zero some low other rest = absurd (other refl)
kept-by n t (suc d) (suc i) some low other rest =
    let half : (n - 1) / 2 ≡ n / 2 = omega arith in
    half-bits n i ∙ (ap (λ (x : ℕ). bit_at (bit_and (n / 2) x) i) half ∙ (ap (λ (x : ℕ). bit_at x i) (and_self (n / 2)) ∙ sym (bit_at-suc n i)))

kept : (w n i : ℕ) → 0 < n → n < 2 ^ w → i ≢ count_trailing_zeros w n → bit_at (bit_and n (n - 1)) i ≡ bit_at n i
unfolding count_trailing_zeros
kept zero n i some fits other = absurd (omega arith)
kept (suc w) n i some fits other =
    kept-by n (count_trailing_zeros w (n / 2)) (n % 2) i some refl other (λ j low apart. kept w (n / 2) j (omega arith) (omega arith) apart)

-- ---- the first stripe

pub takes-first : (bits : ℕ) → 0 < bits → bits < 2 ^ 64 → TakesFirst bits (bit_and bits (bits - 1)) (trailing_zeros w64 bits)
takes-first bits some fits =
    let lowest = bit_at-trailing_zeros w64 bits some fits in
    let first = trailing_zeros w64 bits in
    record {
      first = record {
        above = omega arith;
        below = lowest.0;
        has = ap (λ (n : ℕ). eqb n 1) lowest.1;
        first = λ other above below. ap (λ (n : ℕ). eqb n 1) (lowest.2 other below);
      };
      less = omega (arith, and_le_r bits (bits - 1));
      left = λ other. elim (cases_eq first other) [
        | inl same ↦
            ap (λ (n : ℕ). eqb n 1) (subst (λ (k : ℕ). bit_at (bit_and bits (bits - 1)) k ≡ 0) same (cleared 64 bits some fits))
            ∙ sym (ap (λ (t : Bool). cond t false (has_stripe bits other)) (eq-eqb first other same))
        | inr apart ↦
            ap (λ (n : ℕ). eqb n 1) (kept 64 bits other some fits (λ e. apart (sym e)))
            ∙ sym (ap (λ (t : Bool). cond t false (has_stripe bits other)) (ne_eqb first other apart))
      ];
    }

-- ---- the first one from a stripe on

-- the bits from one on
shifted-bit : (bits from other : ℕ) → from ≤ other → bit_at bits other ≡ bit_at (bits / 2 ^ from) (other - from)
shifted-bit bits from other above =
    let parts : other ≡ from + (other - from) = omega arith in
    ap (bit_at bits) parts ∙ sym (ap (λ (n : ℕ). n % 2) (shr-shr bits from (other - from)))

pub next-shifted : (bits from : ℕ) → bits < 2 ^ 64 → 0 < bits / 2 ^ from → IsNext bits from (from + trailing_zeros w64 (bits / 2 ^ from))
next-shifted bits from fits some =
    let lowest = bit_at-trailing_zeros w64 (bits / 2 ^ from) some (omega (arith, shr_le bits from)) in
    let zeros = trailing_zeros w64 (bits / 2 ^ from) in
    let back : from + zeros - from ≡ zeros = omega arith in
    let set : bit_at bits (from + zeros) ≡ 1 = shifted-bit bits from (from + zeros) (omega arith) ∙ (ap (bit_at (bits / 2 ^ from)) back ∙ lowest.1) in
    record {
      above = omega arith;
      below = elim (cases_lt (from + zeros) 64) [
        | inl low ↦ low
        | inr past ↦ let none : bit_at bits (from + zeros) ≡ 0 = bit_at_above bits 64 (from + zeros) fits past in absurd (omega arith)
      ];
      has = ap (λ (n : ℕ). eqb n 1) set;
      first = λ other above below. ap (λ (n : ℕ). eqb n 1) (shifted-bit bits from other above ∙ lowest.2 (other - from) (omega arith));
    }

pub none-shifted : (bits from : ℕ) → bits / 2 ^ from ≡ 0 → HasNone bits from
none-shifted bits from none other above =
    ap (λ (n : ℕ). eqb n 1) (shifted-bit bits from other above ∙ (ap (λ (n : ℕ). bit_at n (other - from)) none ∙ bit_at-zero (other - from)))
