-- Numbers, their texts and their ranges.
use Rattle.std.proofs.Common.{◌≡◌, ◌≢◌, ◌^◌, ℕ, zero, suc, ◌<◌, Bool, true, false, not, ◌&&◌, eqb, List, [], ◌∷◌, Some, None, ℤ, pos, negsuc, neg_ℤ, ◌≤ℤ◌, ◌<ℤ◌, int_le, unsigned_abs, refl, ap, sym, ◌∙◌, subst, inl, inr, arith, codes}
use Rattle.std.specs.Fmt.{decimal, signed_decimal}
use Rattle.std.specs.Str.Parse.{digits_value, AllDigits}
use Rattle.std.proofs.lemmas.Bool.Decides.{nat_tests}
use Rattle.std.proofs.lemmas.Int.{ints}
use Rattle.std.proofs.lemmas.Fmt.{decimal-digits_value}
use Rattle.std.specs.Fmt.{digits}
use Rattle.std.specs.Str.{bytes_eq}
use Rattle.std.proofs.lemmas.Bool.{cases_Bool, eqb-true}
use Rattle.std.proofs.lemmas.Slice.Eq.{bytes_eq-Decides}
use Rattle.std.proofs.lemmas.Str.Parse.{numerals_by_value, tells_digits}
use Rattle.script_text.specs.declared.code.Code.TheVariants as code
use Rattle.script_text.specs.Number.{Spells, cut_off, is_natural, is_number, number_of, number_fault}
use Rattle.script_text.proofs.Digits.{all_digits}

-- a number that is cut off at a bound outside a range lies in it just as it does itself
pub cut_below : (far : ℕ) (lo z : ℤ) → neg_ℤ (pos far) <ℤ lo → lo <ℤ pos far → cut_off far z <ℤ lo → int_le lo z ≡ false
cut_below far lo (pos n) a b c = grind (arith, ints)
cut_below far lo (negsuc n) a b c = grind (arith, ints)

pub cut_above : (far : ℕ) (hi z : ℤ) → neg_ℤ (pos far) <ℤ hi → hi <ℤ pos far → hi <ℤ cut_off far z → int_le z hi ≡ false
cut_above far hi (pos n) a b c = grind (arith, ints)
cut_above far hi (negsuc n) a b c = grind (arith, ints)

pub cut_within : (far : ℕ) (lo hi z : ℤ) → neg_ℤ (pos far) <ℤ lo → hi <ℤ pos far → lo ≤ℤ cut_off far z → cut_off far z ≤ℤ hi → (cut_off far z ≡ z) × (int_le lo z ≡ true) × (int_le z hi ≡ true)
cut_within far lo hi (pos n) a b c d = grind (arith, ints)
cut_within far lo hi (negsuc n) a b c d = grind (arith, ints)

-- what the digits of a number stand for is the number that they are the text of
pub natural_text : (ds : List ℕ) → is_natural ds ≡ true → digits_value 10 ds < 2 ^ 64 → decimal (digits_value 10 ds) ≡ ds
natural_text [] h small = absurd cc
natural_text (d ∷ ds) h small =
    decimal-digits_value (numerals_by_value (AllDigits 10) tells_digits) (d ∷ ds) (all_digits (d ∷ ds) (grind arith)) (omega arith) (λ e. grind (arith, nat_tests)) small

abs_of_minus : (v : ℕ) → unsigned_abs (neg_ℤ (pos v)) ≡ v
abs_of_minus zero = refl
abs_of_minus (suc v) = refl

minus_text : (v : ℕ) (ds : List ℕ) → decimal v ≡ ds → v ≢ 0 → 45 ∷ ds ≡ signed_decimal (neg_ℤ (pos v))
minus_text zero ds e h = absurd (h refl)
minus_text (suc v) ds e h = ap (λ (x : List ℕ). 45 ∷ x) (sym e)

both : (a b : Bool) → (a && b) ≡ true → (a ≡ true) × (b ≡ true)
both a b h = grind arith

not_false : (b : Bool) → not b ≡ true → b ≡ false
not_false b h = grind arith

zero_text : (ds : List ℕ) → decimal (digits_value 10 ds) ≡ ds → bytes_eq ds (codes "0") ≡ false → digits_value 10 ds ≢ 0
unfolding digits
zero_text ds e h z =
    let text : ds ≡ codes "0" = sym e ∙ ap decimal z in
    let same : bytes_eq ds (codes "0") ≡ true = (bytes_eq-Decides ds (codes "0")).1 text in
    absurd cc

-- what a number's word stands for is the number that it is the text of
pub number_text : (word : List ℕ) → is_number word ≡ true → unsigned_abs (number_of word) < 2 ^ 64 → word ≡ signed_decimal (number_of word)
number_text [] h small = absurd cc
number_text (c ∷ ds) h small =
    elim (cases_Bool (eqb c 45)) [
      | inl minus ↦
          let p = both (is_natural ds) (not (bytes_eq ds (codes "0"))) (rw minus at h) in
          let v = digits_value 10 ds in
          let text = natural_text ds p.0 (subst (λ (n : ℕ). n < 2 ^ 64) (abs_of_minus v) (rw minus at small)) in
          let e : c ≡ 45 = eqb-true c 45 minus in
          rw minus (ap (λ (x : ℕ). x ∷ ds) e ∙ minus_text v ds text (zero_text ds text (not_false _ p.1)))
      | inr other ↦ rw other (sym (natural_text (c ∷ ds) (rw other at h) (rw other at small)))
    ]

near_abs : (far : ℕ) (lo hi z : ℤ) → neg_ℤ (pos far) <ℤ lo → hi <ℤ pos far → lo ≤ℤ cut_off far z → cut_off far z ≤ℤ hi → unsigned_abs z < far
near_abs far lo hi (pos n) a b c d = omega (arith, ints)
near_abs far lo hi (negsuc n) a b c d = omega (arith, ints)

-- a number's word within a range, cut off outside it
pub read_number : (far : ℕ) (word : List ℕ) (lo hi n : ℤ) → far < 2 ^ 60 → is_number word ≡ true → n ≡ cut_off far (number_of word)
    → neg_ℤ (pos far) <ℤ lo → hi <ℤ pos far → lo ≤ℤ n → n ≤ℤ hi → (number_fault lo hi word ≡ None) × Spells word lo hi n
read_number far word lo hi n small h e low high from to =
    let w = cut_within far lo hi (number_of word) low high (subst (λ (z : ℤ). lo ≤ℤ z) e from) (subst (λ (z : ℤ). z ≤ℤ hi) e to) in
    let same : n ≡ number_of word = e ∙ w.0 in
    let at_most = near_abs far lo hi (number_of word) low high (subst (λ (z : ℤ). lo ≤ℤ z) e from) (subst (λ (z : ℤ). z ≤ℤ hi) e to) in
    let near : unsigned_abs (number_of word) < 2 ^ 64 = omega arith in
    (rw (h, w.1, w.2) refl, record { text = number_text word h near ∙ ap signed_decimal (sym same); value = same; low = from; high = to })

-- a number's word outside a range
pub number_below : (far : ℕ) (word : List ℕ) (lo hi n : ℤ) → is_number word ≡ true → n ≡ cut_off far (number_of word)
    → neg_ℤ (pos far) <ℤ lo → lo <ℤ pos far → n <ℤ lo → number_fault lo hi word ≡ Some code.Range
number_below far word lo hi n h e low high out =
    let b = cut_below far lo (number_of word) low high (subst (λ (z : ℤ). z <ℤ lo) e out) in
    rw (h, b) refl

pub number_above : (far : ℕ) (word : List ℕ) (lo hi n : ℤ) → is_number word ≡ true → n ≡ cut_off far (number_of word)
    → neg_ℤ (pos far) <ℤ hi → hi <ℤ pos far → hi <ℤ n → number_fault lo hi word ≡ Some code.Range
number_above far word lo hi n h e low high out =
    let b = cut_above far hi (number_of word) low high (subst (λ (z : ℤ). hi <ℤ z) e out) in
    rw (h, b) (grind arith)
