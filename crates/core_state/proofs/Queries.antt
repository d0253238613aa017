-- For each shape of which it can be told which boxes it touches there is a query, and so for each box: whether six words are a
-- box can be decided.
use Rattle.std.proofs.Common.{◌≡◌, ◌≢◌, ◌⊎◌, ◌↔◌, ℕ, ◌≤◌, List, [], ◌∷◌, Bool, false, length, refl, ap, sym, ◌∙◌, subst, inl, inr, arith, pos, ◌-ℤ◌}
use Rattle.std.specs.Prelude.{IsTrue}
use Rattle.std.proofs.lemmas.Bool.{cases_lt, false≢true}
use Rattle.std.proofs.lemmas.Int.{ints}
use Rattle.fixed_box.specs.Word.{word_of}
use Rattle.fixed_box.specs.FixBox.{words_of, touches}
use Rattle.fixed_box.specs.Touch.{Touch}
use Rattle.fixed_box.specs.declared.coord.Coord.{Coord}
use Rattle.fixed_box.specs.declared.fix_box.FixBox.{FixBox}
use Rattle.fixed_box.specs.declared.shape.Shape.{Shape}
use Rattle.fixed_box.specs.declared.shape.Shape.TheVariants.{Box}
use Rattle.fixed_box.proofs.Words.{AreWords, AreWords-of_box, IsOrdered-from_words, words_tell_boxes_apart}
use Rattle.core_state.specs.Walking.{Query}

-- the coordinate of a word
coord_of : (w : ℕ) → 1 ≤ w → w ≤ 16777216 → (c : Coord) × (word_of c.value ≡ w)
coord_of w low high = (record { value = pos w -ℤ pos 8388609; in_range = (grind (arith, ints), grind (arith, ints)) }, grind (arith, ints))

-- two words are those of a side of a box, or not
cases_side : (lo hi : ℕ) → AreWords lo hi ⊎ ¬ AreWords lo hi
cases_side lo hi =
    elim (cases_lt 0 lo) [
      | inr none ↦ inr (λ h. let low = h.0 in omega arith)
      | inl low ↦ elim (cases_lt hi lo) [
        | inl less ↦ inr (λ h. let order = h.1 in omega arith)
        | inr order ↦ elim (cases_lt 16777216 hi) [
          | inl more ↦ inr (λ h. let high = h.2 in omega arith)
          | inr high ↦ inl (low, order, high)
        ]
      ]
    ]

-- six equal words
same_words : (a b c d e f u v w x y z : ℕ) → a ≡ u → b ≡ v → c ≡ w → d ≡ x → e ≡ y → f ≡ z
    → ◌≡◌ {A = List ℕ} (a ∷ b ∷ c ∷ d ∷ e ∷ f ∷ []) (u ∷ v ∷ w ∷ x ∷ y ∷ z ∷ [])
same_words a b c d e f u v w x y z p q r s t k = λ i. p i ∷ q i ∷ r i ∷ s i ∷ t i ∷ k i ∷ []

-- the box of six words
pub box_of : (a b c d e f : ℕ) → AreWords a d → AreWords b e → AreWords c f → (box : FixBox) × (words_of box ≡ a ∷ b ∷ c ∷ d ∷ e ∷ f ∷ [])
box_of a b c d e f x y z =
    let p = coord_of a (omega (arith, x)) (omega (arith, x)) in
    let q = coord_of b (omega (arith, y)) (omega (arith, y)) in
    let r = coord_of c (omega (arith, z)) (omega (arith, z)) in
    let s = coord_of d (omega (arith, x)) (omega (arith, x)) in
    let t = coord_of e (omega (arith, y)) (omega (arith, y)) in
    let u = coord_of f (omega (arith, z)) (omega (arith, z)) in (
      record {
        lo = p.0 ∷ q.0 ∷ r.0 ∷ [];
        hi = s.0 ∷ t.0 ∷ u.0 ∷ [];
        ordered = IsOrdered-from_words p.0 q.0 r.0 s.0 t.0 u.0 (omega (arith, p.1, s.1, x)) (omega (arith, q.1, t.1, y)) (omega (arith, r.1, u.1, z));
      },
      same_words _ _ _ _ _ _ a b c d e f p.1 q.1 r.1 s.1 t.1 u.1,
    )

-- words are those of a box, or of none
abbrev IsDecided : List ℕ → Type 0
IsDecided words = ((box : FixBox) × (words_of box ≡ words)) ⊎ ((box : FixBox) → words_of box ≢ words)

decide_six : (a b c d e f : ℕ) → IsDecided (a ∷ b ∷ c ∷ d ∷ e ∷ f ∷ [])
decide_six a b c d e f =
    elim (cases_side a d) [
      | inr not ↦ inr (λ box e'. not (AreWords-of_box box _ e').0)
      | inl x ↦ elim (cases_side b e) [
        | inr not ↦ inr (λ box e'. not (AreWords-of_box box _ e').1)
        | inl y ↦ elim (cases_side c f) [
          | inr not ↦ inr (λ box e'. not (AreWords-of_box box _ e').2)
          | inl z ↦ inl (box_of a b c d e f x y z)
        ]
      ]
    ]

other_length : (words : List ℕ) → length words ≢ 6 → IsDecided words
other_length words other = inr (λ box e. other (sym (ap length e)))

decide : (words : List ℕ) → IsDecided words
decide (a ∷ b ∷ c ∷ d ∷ e ∷ f ∷ []) = decide_six a b c d e f
decide words = other_length words (omega arith)

-- the test of a walk that asks for a shape, by a test of boxes
test_decided : (words : List ℕ) → (FixBox → Bool) → IsDecided words → Bool
test_decided words touched (inl found) = touched found.0
test_decided words touched (inr none) = false

module _ (shape : Shape) (touched : FixBox → Bool) (decides : (b : FixBox) → IsTrue (touched b) ↔ Touch shape b) where
  tests_decided : (words : List ℕ) (decided : IsDecided words) → IsTrue (test_decided words touched decided) ↔ ((b : FixBox) × (words_of b ≡ words) × Touch shape b)
  unfolding test_decided
  tests_decided words (inl found) = (
    λ h. (found.0, found.1, (decides found.0).0 h),
    λ h. subst (λ (b : FixBox). IsTrue (touched b)) (words_tell_boxes_apart h.0 found.0 (h.1 ∙ sym found.1)) ((decides h.0).1 h.2),
  )
  tests_decided words (inr none) = (λ h. absurd (false≢true h), λ h. absurd (none h.0 h.1))

  -- a shape of which it can be told which boxes it touches can be asked for
  pub query_by : (mask : ℕ) → (query : Query) × (query.mask ≡ mask) × (query.shape ≡ shape)
  query_by mask = (
    record { mask = mask; shape = shape; test = λ words. test_decided words touched (decide words); tests = λ words. tests_decided words (decide words) },
    refl,
    refl,
  )

pub query_of : (mask : ℕ) (asked : FixBox) → (query : Query) × (query.mask ≡ mask) × (query.shape ≡ Box asked)
query_of mask asked = query_by (Box asked) (touches asked) (λ b. (λ h. h, λ h. h)) mask
