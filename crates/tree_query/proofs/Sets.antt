-- Sets of numbers as bits of words.
use Rattle.std.proofs.Common.{◌≡◌, ◌≢◌, inl, inr, ℕ, ◌+◌, ◌/◌, ◌%◌, ◌^◌, ◌<◌, ◌≤◌, List, set, length, Bool, false, eqb, cond, w64, refl, ap, sym, ◌∙◌, subst, arith}
use Rattle.std.specs.Prelude.{slice_index}
use Rattle.std.specs.Int.{bit_at, trailing_zeros}
use Rattle.std.proofs.lemmas.Bool.{cases_eq, cases_lt, eq-eqb, ne_eqb}
use Rattle.std.proofs.lemmas.List.{get_or-set_same, get_or-set_other}
use Rattle.std.proofs.lemmas.Nat.Bits.{bit_at-zero}
use Rattle.tree_query.specs.Indexes.{has_bit, IsFirst, HasNone}
use Rattle.tree_query.proofs.WordBits.{first-bit, no-bit}

-- a word that is 0 holds no number
pub none-in_word : (words : List ℕ) (number : ℕ) → slice_index words (number / 64) ≡ 0 → has_bit words number ≡ false
none-in_word words number none = ap (λ (w : ℕ). eqb (bit_at w (number % 64)) 1) none ∙ ap (λ (n : ℕ). eqb n 1) (bit_at-zero (number % 64))

-- One word is set so, and of its bits one alone is changed: then the set has this number or not, and the others as before
module _ (words : List ℕ) (number x : ℕ) (inside : number / 64 < length words) where
  abbrev Changed : List ℕ
  Changed = set words (number / 64) x

  word-here : slice_index Changed (number / 64) ≡ x
  word-here = get_or-set_same words (number / 64) x 0 inside

  pub word-else : (word : ℕ) → word ≢ number / 64 → slice_index Changed word ≡ slice_index words word
  word-else word apart = get_or-set_other words (number / 64) word x 0 apart

  pub has-changed : (value : Bool) → eqb (bit_at x (number % 64)) 1 ≡ value
      → ((bit : ℕ) → bit < 64 → bit ≢ number % 64 → bit_at x bit ≡ bit_at (slice_index words (number / 64)) bit)
      → (other : ℕ) → has_bit Changed other ≡ cond (eqb number other) value (has_bit words other)
  has-changed value is kept other = elim (cases_eq number other) [
    | inl same ↦
        subst (λ (o : ℕ). has_bit Changed o ≡ cond (eqb number o) value (has_bit words o)) same
        (ap (λ (w : ℕ). eqb (bit_at w (number % 64)) 1) word-here ∙ (is ∙ ap (λ (t : Bool). cond t value (has_bit words number)) (sym (eq-eqb number number refl))))
    | inr apart ↦ else-same apart ∙ ap (λ (t : Bool). cond t value (has_bit words other)) (sym (ne_eqb number other apart))
  ]
    where
      else-same : number ≢ other → has_bit Changed other ≡ has_bit words other
      else-same apart = elim (cases_eq (other / 64) (number / 64)) [
        | inl beside ↦
            let bits : other % 64 ≢ number % 64 = λ e. apart (omega arith) in
            ap (λ (w : ℕ). eqb (bit_at (slice_index Changed w) (other % 64)) 1) beside
            ∙ (ap (λ (w : ℕ). eqb (bit_at w (other % 64)) 1) word-here
            ∙ (ap (λ (n : ℕ). eqb n 1) (kept (other % 64) (omega arith) bits)
            ∙ ap (λ (w : ℕ). eqb (bit_at (slice_index words w) (other % 64)) 1) (sym beside)))
        | inr away ↦ ap (λ (w : ℕ). eqb (bit_at w (other % 64)) 1) (word-else (other / 64) away)
      ]

-- ---- the first number from one on

-- in the same word
module _ (words : List ℕ) (at : ℕ) where
  abbrev Word : ℕ
  Word = slice_index words (at / 64)

  -- a number beside it has this bit
  beside-bit : (other : ℕ) → other / 64 ≡ at / 64 → has_bit words other ≡ eqb (bit_at Word (other % 64)) 1
  beside-bit other beside = ap (λ (w : ℕ). eqb (bit_at (slice_index words w) (other % 64)) 1) beside

  pub none-beside : Word / 2 ^ (at % 64) ≡ 0 → (other : ℕ) → at ≤ other → other / 64 ≡ at / 64 → has_bit words other ≡ false
  none-beside none other above beside = beside-bit other beside ∙ ap (λ (n : ℕ). eqb n 1) (no-bit Word (at % 64) (other % 64) none (omega arith))

  pub first-beside : Word < 2 ^ 64 → 0 < Word / 2 ^ (at % 64)
      → IsFirst (has_bit words) at (at + trailing_zeros w64 (Word / 2 ^ (at % 64))) × ((at + trailing_zeros w64 (Word / 2 ^ (at % 64))) / 64 ≡ at / 64)
  first-beside fits some =
      let zeros : ℕ = trailing_zeros w64 (Word / 2 ^ (at % 64)) in
      let bit = first-bit Word (at % 64) fits some in
      let low = bit.below in
      let beside : (at + zeros) / 64 ≡ at / 64 = omega arith in
      let place : (at + zeros) % 64 ≡ at % 64 + zeros = omega arith in (
        record {
          above = omega arith;
          is_in = beside-bit (at + zeros) beside ∙ (ap (λ (k : ℕ). eqb (bit_at Word k) 1) place ∙ ap (λ (n : ℕ). eqb n 1) bit.set);
          none_before = λ other above before.
              let same : other / 64 ≡ at / 64 = omega arith in
              beside-bit other same ∙ ap (λ (n : ℕ). eqb n 1) (bit.clear (other % 64) (omega arith) (omega arith));
        },
        beside,
      )

-- what is the first from a later number on is so from here on, where none is between
pub first-sooner : (has : ℕ → Bool) (at next first : ℕ) → at ≤ next → ((other : ℕ) → at ≤ other → other < next → has other ≡ false) → IsFirst has next first → IsFirst has at first
first-sooner has at next first sooner none is =
    let above = is.above in
    record {
      above = omega arith;
      is_in = is.is_in;
      none_before = λ other from before. elim (cases_lt other next) [ inl between ↦ none other from between | inr later ↦ is.none_before other later before ];
    }

pub none-sooner : (has : ℕ → Bool) (at next : ℕ) → ((other : ℕ) → at ≤ other → other < next → has other ≡ false) → HasNone has next → HasNone has at
none-sooner has at next none all other from = elim (cases_lt other next) [ inl between ↦ none other from between | inr later ↦ all other later ]

-- a word with a bit is not 0
pub some-word : (w k : ℕ) → bit_at w k ≡ 1 → 0 < w
some-word w k is = elim (cases_lt 0 w) [
  | inl some ↦ some
  | inr none ↦ let zero : w ≡ 0 = omega arith in let bit : bit_at w k ≡ 0 = ap (λ (x : ℕ). bit_at x k) zero ∙ bit_at-zero k in absurd (omega arith)
]

-- so where such a word is set
pub some-here : (words : List ℕ) (number x : ℕ) → number / 64 < length words → (k : ℕ) → bit_at x k ≡ 1 → 0 < slice_index (set words (number / 64) x) (number / 64)
some-here words number x inside k bit = subst (λ (w : ℕ). 0 < w) (sym (get_or-set_same words (number / 64) x 0 inside)) (some-word x k bit)
