-- Bits of the words of a set of locks.
use Rattle.std.proofs.Common.{◌≡◌, ◌≢◌, ℕ, ◌+◌, ◌-◌, ◌*◌, ◌%◌, ◌^◌, ◌<◌, Bool, true, false, eqb, nat_lt, cond, bit_and, bit_or, w64, refl, ap, sym, ◌∙◌, subst, inl, inr, arith}
use Rattle.std.specs.Prelude.{◌↔◌}
use Rattle.std.specs.Int.{bit_at, bit_not}
use Rattle.pass_table.specs.LockSets.{bit_of}
use Rattle.std.proofs.lemmas.Bool.{cases_eq, cases_lt, eq-eqb, ne_eqb, eqb-true, cond_below, cond_above}
use Rattle.std.proofs.lemmas.Nat.{and_le_l}
use Rattle.std.proofs.lemmas.Nat.Bits.{bit_at_set_same, bit_at_set_other, bit_at_clear_same, bit_at_clear_other, bit_at_above, bit_at-zero, same_from_bits_below, same_from_bits}

-- a bit that was put into a word, and the others
pub put-bit : (word at : ℕ) → at < 64 → (other : ℕ) → bit_at (bit_or word (1 * 2 ^ at % 2 ^ 64)) other ≡ cond (eqb at other) 1 (bit_at word other)
put-bit word at within other = elim (cases_eq other at) [
  | inl same ↦
      subst (λ (o : ℕ). bit_at (bit_or word (1 * 2 ^ at % 2 ^ 64)) o ≡ cond (eqb at o) 1 (bit_at word o)) (sym same)
      (bit_at_set_same w64 word at within ∙ ap (λ (t : Bool). cond t 1 (bit_at word at)) (sym (eq-eqb at at refl)))
  | inr apart ↦ bit_at_set_other w64 word at within other apart ∙ ap (λ (t : Bool). cond t 1 (bit_at word other)) (sym (ne_eqb at other (λ e. apart (sym e))))
]

-- a bit that was taken out of a word, and the others
module _ (word at : ℕ) (fits : word < 2 ^ 64) (within : at < 64) where
  abbrev less : ℕ
  less = bit_and word (bit_not w64 (1 * 2 ^ at % 2 ^ 64))

  kept-bit : (other : ℕ) → other ≢ at → bit_at less other ≡ bit_at word other
  kept-bit other apart = elim (cases_lt other 64) [
    | inl low ↦ bit_at_clear_other w64 word at within other low apart
    | inr high ↦ bit_at_above less 64 other (omega (arith, and_le_l word (bit_not w64 (1 * 2 ^ at % 2 ^ 64)))) high ∙ sym (bit_at_above word 64 other fits high)
  ]

  pub drop-bit : (other : ℕ) → bit_at less other ≡ cond (eqb at other) 0 (bit_at word other)
  drop-bit other = elim (cases_eq other at) [
    | inl same ↦
        subst (λ (o : ℕ). bit_at less o ≡ cond (eqb at o) 0 (bit_at word o)) (sym same)
        (bit_at_clear_same w64 word at within ∙ ap (λ (t : Bool). cond t 0 (bit_at word at)) (sym (eq-eqb at at refl)))
    | inr apart ↦ kept-bit other apart ∙ ap (λ (t : Bool). cond t 0 (bit_at word other)) (sym (ne_eqb at other (λ e. apart (sym e))))
  ]

-- words that are 0 have no bit
none-in : (low high lock : ℕ) → low ≡ 0 → high ≡ 0 → bit_of low high lock ≡ 0
none-in low high lock none none_high = by (nat_lt lock 64)
  where
    by : (t : Bool) → cond t (bit_at low lock) (bit_at high (lock - 64)) ≡ 0
    by true = ap (λ (w : ℕ). bit_at w lock) none ∙ bit_at-zero lock
    by false = ap (λ (w : ℕ). bit_at w (lock - 64)) none_high ∙ bit_at-zero (lock - 64)

-- words with no bit are 0
module _ (low high : ℕ) (none : (lock : ℕ) → bit_of low high lock ≡ 0) where
  no-low : low < 2 ^ 64 → low ≡ 0
  no-low fits =
      same_from_bits_below 64 low 0 fits (omega arith)
      (λ i within. cond_below i 64 (bit_at low i) (bit_at high (i - 64)) within ∙ (none i ∙ sym (bit_at-zero i)))

  no-high : high ≡ 0
  no-high = same_from_bits high 0 (λ i.
      let back : i + 64 - 64 ≡ i = omega arith in
      sym (ap (bit_at high) back) ∙ (cond_above (i + 64) 64 (bit_at low (i + 64)) (bit_at high (i + 64 - 64)) _ (omega arith) refl ∙ (none (i + 64) ∙ sym (bit_at-zero i))))

pub empty-high : (low high : ℕ) → low ≡ 0 → (eqb high 0 ≡ true) ↔ ((lock : ℕ) → bit_of low high lock ≡ 0)
empty-high low high none = ((λ e lock. none-in low high lock none (eqb-true high 0 e)), λ all. eq-eqb high 0 (no-high low high all))

pub some-low : (low high : ℕ) → low < 2 ^ 64 → low ≢ 0 → (eqb low 0 ≡ true) ↔ ((lock : ℕ) → bit_of low high lock ≡ 0)
some-low low high fits some = ((λ e. absurd (some (eqb-true low 0 e))), λ all. absurd (some (no-low low high all fits)))
