-- The first bit of a word from one on.
use Rattle.std.proofs.Common.{◌≡◌, inl, inr, ℕ, ◌+◌, ◌-◌, ◌/◌, ◌%◌, ◌^◌, ◌<◌, ◌≤◌, w64, ap, sym, ◌∙◌, arith}
use Rattle.std.specs.Int.{bit_at, trailing_zeros}
use Rattle.std.proofs.lemmas.Bool.{cases_lt}
use Rattle.std.proofs.lemmas.Nat.{shr-shr, shr_le}
use Rattle.std.proofs.lemmas.Nat.Bits.{bit_at-zero, bit_at_above, bit_at-trailing_zeros}

-- the bits from one on are those of the word shifted
pub shifted : (word from other : ℕ) → from ≤ other → bit_at word other ≡ bit_at (word / 2 ^ from) (other - from)
shifted word from other above =
    let parts : other ≡ from + (other - from) = omega arith in
    ap (bit_at word) parts ∙ sym (ap (λ (n : ℕ). n % 2) (shr-shr word from (other - from)))

pub record IsFirstBit (word from bit : ℕ) : Type 0 where
  pub above : from ≤ bit
  pub below : bit < 64
  pub set : bit_at word bit ≡ 1
  pub clear : (other : ℕ) → from ≤ other → other < bit → bit_at word other ≡ 0

pub first-bit : (word from : ℕ) → word < 2 ^ 64 → 0 < word / 2 ^ from → IsFirstBit word from (from + trailing_zeros w64 (word / 2 ^ from))
first-bit word from fits some =
    let lowest = bit_at-trailing_zeros w64 (word / 2 ^ from) some (omega (arith, shr_le word from)) in
    let zeros = trailing_zeros w64 (word / 2 ^ from) in
    let back : from + zeros - from ≡ zeros = omega arith in
    let set : bit_at word (from + zeros) ≡ 1 = shifted word from (from + zeros) (omega arith) ∙ (ap (bit_at (word / 2 ^ from)) back ∙ lowest.1) in
    record {
      above = omega arith;
      below = elim (cases_lt (from + zeros) 64) [
        | inl low ↦ low
        | inr past ↦ let none : bit_at word (from + zeros) ≡ 0 = bit_at_above word 64 (from + zeros) fits past in absurd (omega arith)
      ];
      set = set;
      clear = λ other above below. shifted word from other above ∙ lowest.2 (other - from) (omega arith);
    }

pub no-bit : (word from other : ℕ) → word / 2 ^ from ≡ 0 → from ≤ other → bit_at word other ≡ 0
no-bit word from other none above = shifted word from other above ∙ (ap (λ (n : ℕ). bit_at n (other - from)) none ∙ bit_at-zero (other - from))
