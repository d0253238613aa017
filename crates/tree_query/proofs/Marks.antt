-- Words of which another set says which are not 0.
use Rattle.std.proofs.Common.{◌≡◌, ◌≢◌, inl, inr, ℕ, ◌+◌, ◌*◌, ◌/◌, ◌<◌, ◌≤◌, List, length, Option, Some, None, Bool, true, false, eqb, cond, ap, sym, ◌∙◌, subst, arith}
use Rattle.std.specs.Prelude.{nat_lt, slice_index, IfSome}
use Rattle.std.proofs.lemmas.Bool.{cases_eq, cases_lt, eq-eqb, ne_eqb, false≢true}
use Rattle.std.proofs.lemmas.Bool.Decides.{nat_tests}
use Rattle.std.proofs.lemmas.List.{get_or_past}
use Rattle.tree_query.specs.Indexes.{has_bit, IsFirst, HasNone}
use Rattle.tree_query.proofs.Sets.{none-in_word, first-sooner}

-- the set has a word where it is not 0
abbrev pub AreMarked : List ℕ → List ℕ → Type 0
AreMarked words marks = (word : ℕ) → has_bit marks word ≡ nat_lt 0 (slice_index words word)

some-test : (x : ℕ) → 0 < x → nat_lt 0 x ≡ true
some-test x some = grind (arith, nat_tests)

zero-test : (x : ℕ) → x ≡ 0 → nat_lt 0 x ≡ false
zero-test x none = ap (nat_lt 0) none

test-some : (x : ℕ) → nat_lt 0 x ≡ true → 0 < x
test-some x test = grind (arith, nat_tests)

-- ---- a word is changed

-- and marked or not, as it is now
marks-changed : (words later marks marked : List ℕ) (word : ℕ) (value : Bool) → AreMarked words marks → nat_lt 0 (slice_index later word) ≡ value
    → ((other : ℕ) → other ≢ word → slice_index later other ≡ slice_index words other) → ((other : ℕ) → has_bit marked other ≡ cond (eqb word other) value (has_bit marks other)) → AreMarked later marked
marks-changed words later marks marked word value are is others put other = elim (cases_eq word other) [
  | inl same ↦
      put other ∙ (ap (λ (t : Bool). cond t value (has_bit marks other)) (eq-eqb word other same) ∙ sym (subst (λ (w : ℕ). nat_lt 0 (slice_index later w) ≡ value) same is))
  | inr apart ↦
      put other ∙ (ap (λ (t : Bool). cond t value (has_bit marks other)) (ne_eqb word other apart) ∙ (are other ∙ sym (ap (nat_lt 0) (others other (λ e. apart (sym e))))))
]

pub marks-put : (words later marks marked : List ℕ) (word : ℕ) → AreMarked words marks → 0 < slice_index later word
    → ((other : ℕ) → other ≢ word → slice_index later other ≡ slice_index words other) → ((other : ℕ) → has_bit marked other ≡ cond (eqb word other) true (has_bit marks other)) → AreMarked later marked
marks-put words later marks marked word are some = marks-changed words later marks marked word true are (some-test _ some)

pub marks-out : (words later marks marked : List ℕ) (word : ℕ) → AreMarked words marks → slice_index later word ≡ 0
    → ((other : ℕ) → other ≢ word → slice_index later other ≡ slice_index words other) → ((other : ℕ) → has_bit marked other ≡ cond (eqb word other) false (has_bit marks other)) → AreMarked later marked
marks-out words later marks marked word are none = marks-changed words later marks marked word false are (zero-test _ none)

-- a word that is still not 0 stays marked
pub marks-stay : (words later marks : List ℕ) (word : ℕ) → AreMarked words marks → 0 < slice_index later word → (slice_index words word ≡ 0 → slice_index later word ≡ 0)
    → ((other : ℕ) → other ≢ word → slice_index later other ≡ slice_index words other) → AreMarked later marks
marks-stay words later marks word are some zero others = marks-put words later marks marks word are some others (λ other. elim (cases_eq word other) [
  | inl same ↦
      let before : 0 < slice_index words word = elim (cases_lt 0 (slice_index words word)) [ inl more ↦ more | inr none ↦ let now = zero (omega arith) in absurd (omega arith) ] in
      subst (λ (w : ℕ). has_bit marks w ≡ true) same (are word ∙ some-test _ before) ∙ sym (ap (λ (t : Bool). cond t true (has_bit marks other)) (eq-eqb word other same))
  | inr apart ↦ sym (ap (λ (t : Bool). cond t true (has_bit marks other)) (ne_eqb word other apart))
])

-- what holds of each number that is in does so of each after one more, or one less
pub below-put : (words later : List ℕ) (room number : ℕ) → number < room → ((other : ℕ) → has_bit words other ≡ true → other < room)
    → ((other : ℕ) → has_bit later other ≡ cond (eqb number other) true (has_bit words other)) → (other : ℕ) → has_bit later other ≡ true → other < room
below-put words later room number inside below put other has = elim (cases_eq number other) [
  | inl same ↦ omega arith
  | inr apart ↦ below other (sym (put other ∙ ap (λ (t : Bool). cond t true (has_bit words other)) (ne_eqb number other apart)) ∙ has)
]

pub below-out : (words later : List ℕ) (room number : ℕ) → ((other : ℕ) → has_bit words other ≡ true → other < room)
    → ((other : ℕ) → has_bit later other ≡ cond (eqb number other) false (has_bit words other)) → (other : ℕ) → has_bit later other ≡ true → other < room
below-out words later room number below out other has = elim (cases_eq number other) [
  | inl same ↦ absurd (false≢true (sym (out other ∙ ap (λ (t : Bool). cond t false (has_bit words other)) (eq-eqb number other same)) ∙ has))
  | inr apart ↦ below other (sym (out other ∙ ap (λ (t : Bool). cond t false (has_bit words other)) (ne_eqb number other apart)) ∙ has)
]

-- so of the first one
pub some-below : (words : List ℕ) (room at : ℕ) → ((other : ℕ) → has_bit words other ≡ true → other < room) → (o : Option ℕ) → IfSome o (IsFirst (has_bit words) at) → IfSome o (λ first. first < room)
some-below words room at below None h = tt
some-below words room at below (Some first) h = below first h.is_in

-- ---- the first number in a marked word

module _ (words marks : List ℕ) (are : AreMarked words marks) where
  -- a word that is not marked holds no number
  unmarked : (number : ℕ) → has_bit marks (number / 64) ≡ false → has_bit words number ≡ false
  unmarked number none = none-in_word words number (elim (cases_lt 0 (slice_index words (number / 64))) [
    | inl some ↦ absurd (false≢true (sym none ∙ (are (number / 64) ∙ some-test _ some)))
    | inr zero ↦ omega arith
  ])

  -- a marked word is there, and is not 0
  pub marked-some : (word : ℕ) → has_bit marks word ≡ true → 0 < slice_index words word
  marked-some word is = test-some _ (sym (are word) ∙ is)

  pub marked-inside : (word : ℕ) → has_bit marks word ≡ true → word < length words
  marked-inside word is = elim (cases_lt word (length words)) [
    | inl inside ↦ inside
    | inr past ↦ let none : slice_index words word ≡ 0 = get_or_past words word 0 past in let some = marked-some word is in absurd (omega arith)
  ]

  module _ (at : ℕ) (beside : (other : ℕ) → at ≤ other → other / 64 ≡ at / 64 → has_bit words other ≡ false) where
    -- none is before the next marked word
    pub none-between : (next : ℕ) → IsFirst (has_bit marks) (at / 64 + 1) next → (other : ℕ) → at ≤ other → other < next * 64 → has_bit words other ≡ false
    none-between next is other above before = elim (cases_eq (other / 64) (at / 64)) [
      | inl same ↦ beside other above same
      | inr apart ↦ unmarked other (is.none_before (other / 64) (omega arith) (omega arith))
    ]

    -- nor anywhere, where no further word is marked
    pub none-further : HasNone (has_bit marks) (at / 64 + 1) → HasNone (has_bit words) at
    none-further none other above = elim (cases_eq (other / 64) (at / 64)) [
      | inl same ↦ beside other above same
      | inr apart ↦ unmarked other (none (other / 64) (omega arith))
    ]

    pub first-further : (next : ℕ) → IsFirst (has_bit marks) (at / 64 + 1) next → (o : Option ℕ) → IfSome o (IsFirst (has_bit words) (next * 64)) → IfSome o (IsFirst (has_bit words) at)
    first-further next is None h = tt
    first-further next is (Some first) h = let above = is.above in first-sooner (has_bit words) at (next * 64) first (omega arith) (none-between next is) h
