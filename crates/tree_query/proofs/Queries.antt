-- The query that a call asks: six words are tested by whether they are those of a box that the shape touches.
use Rattle.std.proofs.Common.{◌≡◌, ◌⊎◌, ℕ, ◌≤◌, List, [], ◌∷◌, Bool, true, false, pos, ◌-ℤ◌, get_or, length, ap, sym, ◌∙◌, subst, inl, inr, arith}
use Rattle.std.specs.Prelude.{IsTrue, ◌↔◌}
use Rattle.std.proofs.lemmas.Bool.{cases_eq, cases_lt}
use Rattle.std.proofs.lemmas.Int.{ints}
use Rattle.fixed_box.specs.FixBox.{words_of}
use Rattle.fixed_box.specs.Touch.{Touch}
use Rattle.fixed_box.specs.Word.{word_of}
use Rattle.fixed_box.specs.declared.coord.Coord.{Coord}
use Rattle.fixed_box.specs.declared.fix_box.FixBox.{FixBox}
use Rattle.fixed_box.specs.declared.shape.Shape.{Shape}
use Rattle.fixed_box.proofs.Same.{same_six}
use Rattle.fixed_box.proofs.Words.{AreWords, AreWords-of_box, IsOrdered-from_words, words_tell_boxes_apart}
use Rattle.shape_test.specs.Touched.{is_touched}
use Rattle.shape_test.proofs.Arrivals.{is_touched_decides}
use Rattle.core_state.specs.Walking.{Query}

-- ---- a box that has these words

coord-of : (w : ℕ) → 1 ≤ w → w ≤ 16777216 → (c : Coord) × (word_of c.value ≡ w)
coord-of w low high = (record { value = pos w -ℤ pos 8388609; in_range = (grind (arith, ints), grind (arith, ints)) }, grind (arith, ints))

are_words : (lo hi : ℕ) → AreWords lo hi ⊎ (AreWords lo hi → ⊥)
are_words lo hi = elim (cases_lt 0 lo) [
  | inr none ↦ inr (λ h. let a = h.0 in omega arith)
  | inl low ↦ elim (cases_lt hi lo) [
    | inl over ↦ inr (λ h. let a = h.1 in omega arith)
    | inr under ↦ elim (cases_lt 16777216 hi) [ inl above ↦ inr (λ h. let a = h.2 in omega arith) | inr high ↦ inl (omega arith, under, high) ]
  ]
]

abbrev BoxOf : List ℕ → Type 0
BoxOf words = (b : FixBox) × (words_of b ≡ words)

-- the box of six words
box-of : (words : List ℕ) → length words ≡ 6 → AreWords (get_or words 0 0) (get_or words 3 0) → AreWords (get_or words 1 0) (get_or words 4 0) → AreWords (get_or words 2 0) (get_or words 5 0) → BoxOf words
box-of words six x y z =
    let x0 = coord-of (get_or words 0 0) x.0 (let a = x.1 in let b = x.2 in omega arith) in
    let y0 = coord-of (get_or words 1 0) y.0 (let a = y.1 in let b = y.2 in omega arith) in
    let z0 = coord-of (get_or words 2 0) z.0 (let a = z.1 in let b = z.2 in omega arith) in
    let x1 = coord-of (get_or words 3 0) (let a = x.0 in let b = x.1 in omega arith) x.2 in
    let y1 = coord-of (get_or words 4 0) (let a = y.0 in let b = y.1 in omega arith) y.2 in
    let z1 = coord-of (get_or words 5 0) (let a = z.0 in let b = z.1 in omega arith) z.2 in
    let ordered =
    IsOrdered-from_words x0.0 y0.0 z0.0 x1.0 y1.0 z1.0 (let a = x0.1 in let b = x1.1 in let h = x.1 in omega arith) (let a = y0.1 in let b = y1.1 in let h = y.1 in omega arith)
    (let a = z0.1 in let b = z1.1 in let h = z.1 in omega arith)
    in (
      record { lo = x0.0 ∷ y0.0 ∷ z0.0 ∷ []; hi = x1.0 ∷ y1.0 ∷ z1.0 ∷ []; ordered = ordered },
      same_six _ _ _ _ _ _ words six x0.1 y0.1 z0.1 x1.1 y1.1 z1.1,
    )

-- there is one, or there is none
pub box_in : (words : List ℕ) → BoxOf words ⊎ (BoxOf words → ⊥)
box_in words = elim (cases_eq (length words) 6) [
  | inr apart ↦ inr (λ b. apart (sym (ap length b.1)))
  | inl six ↦ elim (are_words (get_or words 0 0) (get_or words 3 0)) [
    | inr never ↦ inr (λ b. never (AreWords-of_box b.0 words b.1).0)
    | inl x ↦ elim (are_words (get_or words 1 0) (get_or words 4 0)) [
      | inr never ↦ inr (λ b. never (AreWords-of_box b.0 words b.1).1)
      | inl y ↦ elim (are_words (get_or words 2 0) (get_or words 5 0)) [
        | inr never ↦ inr (λ b. never (AreWords-of_box b.0 words b.1).2)
        | inl z ↦ inl (box-of words six x y z)
      ]
    ]
  ]
]

-- ---- the test

abbrev tested : (shape : Shape) (words : List ℕ) → BoxOf words ⊎ (BoxOf words → ⊥) → Bool
tested shape words (inl b) = is_touched shape b.0
tested shape words (inr none) = false

-- it tells what touches
pub tested-so : (shape : Shape) (words : List ℕ) (found : BoxOf words ⊎ (BoxOf words → ⊥)) → IsTrue (tested shape words found) ↔ ((b : FixBox) × (words_of b ≡ words) × Touch shape b)
tested-so shape words (inl b) = (
  λ t. (b.0, b.1, (is_touched_decides shape b.0).0 t),
  λ h. (is_touched_decides shape b.0).1 (subst (Touch shape) (words_tell_boxes_apart h.0 b.0 (h.1 ∙ sym b.1)) h.2),
)
tested-so shape words (inr none) = (λ t. let never : false ≡ true = t in absurd cc, λ h. absurd (none (h.0, h.1)))

abbrev pub query_of : Shape → ℕ → Query
query_of shape mask = record { mask = mask; shape = shape; test = λ words. tested shape words (box_in words); tests = λ words. tested-so shape words (box_in words) }
