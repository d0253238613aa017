-- The batch for a slot among those of a pass, and lists without repeats of which a part is moved.
use Rattle.std.proofs.Common.{◌≡◌, ◌≢◌, ℕ, List, [], ◌∷◌, ◌++◌, Bool, true, false, cond, Some, Contains, AllPairs, refl, ap, sym, ◌∙◌, subst, inl, inr}
use Rattle.std.specs.Prelude.{◌==◌, not, find}
use Rattle.std.proofs.lemmas.Bool.{cases_Bool, eq-eqb, eqb-true}
use Rattle.std.proofs.lemmas.List.Elements.{Contains-append_left, Contains-append_right, Contains-append_cases}
use Rattle.core_state.specs.declared.view.Batch.{Batch}
use Rattle.core_state.specs.Batches.{is_for, without_batch}
use Rattle.core_state.specs.Bodies.{IsForSlot, AreOtherSlots}
use Rattle.core_state.proofs.Opening.{none_in}
use Rattle.core_batch.proofs.Lists.{contains_later, pairs-first, pairs-rest, pairs-left, pairs-right, pairs-across, pairs-append}
use Rattle.core_state.proofs.Beginning.{cases_cons, contains_first}
use Rattle.core_state.proofs.SameNames.{and_left, and_right}
use Rattle.word_map.specs.declared.name.Name.{Name}
use Rattle.word_map.specs.declared.name.Name.TheVariants.{Slot}

-- ---- slots

abbrev slot_layer : Name → ℕ
slot_layer (Slot l t) = l
slot_layer _ = 0

abbrev slot_number : Name → ℕ
slot_number (Slot l t) = t
slot_number _ = 0

-- a slot is told by its word
pub slot_one : (l t k n : ℕ) → Slot l t ≡ Slot k n → (l ≡ k) × (t ≡ n)
slot_one l t k n e = (ap slot_layer e, ap slot_number e)

-- the test of a batch tells whether it is for the slot
pub is_for-true : (l t : ℕ) (b : Batch) → IsForSlot l t b → is_for l t b ≡ true
is_for-true l t b for_slot = rw (eq-eqb b.layer l for_slot.0, eq-eqb b.slot t for_slot.1) refl

pub is_for-slot : (l t : ℕ) (b : Batch) → is_for l t b ≡ true → IsForSlot l t b
is_for-slot l t b h = (eqb-true b.layer l (and_left (b.layer == l) (b.slot == t) h), eqb-true b.slot t (and_right (b.layer == l) (b.slot == t) h))

-- ---- the batch

-- a pass's batches, cut at the one for the slot
pub record IsBatchCut (l t : ℕ) (xs : List Batch) (b : Batch) : Type 0 where
  pub front : List Batch
  pub back : List Batch
  pub whole : xs ≡ front ++ b ∷ back
  pub rest : without_batch l t xs ≡ front ++ back
  pub found : find (λ x. is_for l t x) xs ≡ Some b

without_none : (l t : ℕ) (xs : List Batch) → ((y : Batch) → Contains xs y → ¬ IsForSlot l t y) → without_batch l t xs ≡ xs
without_none l t [] none = refl
without_none l t (x ∷ xs) none =
    let rest = without_none l t xs (λ y c. none y (contains_later x xs y c)) in
    elim (cases_Bool (is_for l t x)) [
      | inl hit ↦ absurd (none x (contains_first x xs) (is_for-slot l t x hit))
      | inr miss ↦ rw miss (ap (λ (ys : List Batch). x ∷ ys) rest)
    ]

pub cut_batch : (l t : ℕ) (xs : List Batch) (b : Batch) → AllPairs AreOtherSlots xs → Contains xs b → IsForSlot l t b → IsBatchCut l t xs b
cut_batch l t [] b h among for_slot = absurd (none_in _ among)
cut_batch l t (x ∷ xs) b h among for_slot =
    elim (cases_cons x xs b among) [
      | inl same ↦
          let own : is_for l t x ≡ true = is_for-true l t x (subst (IsForSlot l t) (sym same) for_slot) in
          let others : (y : Batch) → Contains xs y → ¬ IsForSlot l t y = λ y c other.
          let first = subst (IsForSlot l t) (sym same) for_slot in
          pairs-first AreOtherSlots x xs h y c (first.0 ∙ sym other.0, first.1 ∙ sym other.1)
          in
          record {
            front = [];
            back = xs;
            whole = ap (λ (z : Batch). z ∷ xs) same;
            rest = ap (λ (test : Bool). cond (not test) (x ∷ without_batch l t xs) (without_batch l t xs)) own ∙ without_none l t xs others;
            found = ap (λ (test : Bool). cond test (Some x) (find (λ y. is_for l t y) xs)) own ∙ ap Some same;
          }
      | inr later ↦
          let cut = cut_batch l t xs b (pairs-rest AreOtherSlots x xs h) later for_slot in
          let other : is_for l t x ≡ false =
          elim (cases_Bool (is_for l t x)) [
            | inl hit ↦
                let first = is_for-slot l t x hit in
                absurd (pairs-first AreOtherSlots x xs h b later (first.0 ∙ sym for_slot.0, first.1 ∙ sym for_slot.1))
            | inr miss ↦ miss
          ]
          in
          record {
            front = x ∷ cut.front;
            back = cut.back;
            whole = ap (λ (ys : List Batch). x ∷ ys) cut.whole;
            rest =
                ap (λ (test : Bool). cond (not test) (x ∷ without_batch l t xs) (without_batch l t xs)) other
                ∙ ap (λ (ys : List Batch). x ∷ ys) cut.rest;
            found = ap (λ (test : Bool). cond test (Some x) (find (λ y. is_for l t y) xs)) other ∙ cut.found;
          }
    ]

-- ---- a part is moved behind

-- five lists, one behind the other, of which the second goes behind the fourth
module _ (f m b l u : List ℕ) where
  abbrev Apart : ℕ → ℕ → Type 0
  Apart x y = x ≢ y

  pub once_moved : AllPairs (λ x y. x ≢ y) ((f ++ (m ++ b)) ++ (l ++ u)) → AllPairs (λ x y. x ≢ y) ((f ++ b) ++ ((l ++ m) ++ u))
  once_moved h =
      let front = pairs-left Apart (f ++ (m ++ b)) (l ++ u) h in
      let behind = pairs-right Apart (f ++ (m ++ b)) (l ++ u) h in
      let across = pairs-across Apart (f ++ (m ++ b)) (l ++ u) h in
      let middle = pairs-right Apart f (m ++ b) front in
      let in_f : (x : ℕ) → Contains f x → Contains (f ++ (m ++ b)) x = λ x c. Contains-append_left f (m ++ b) x c in
      let in_m : (x : ℕ) → Contains m x → Contains (f ++ (m ++ b)) x = λ x c. Contains-append_right f (m ++ b) x (Contains-append_left m b x c) in
      let in_b : (x : ℕ) → Contains b x → Contains (f ++ (m ++ b)) x = λ x c. Contains-append_right f (m ++ b) x (Contains-append_right m b x c) in
      let in_l : (x : ℕ) → Contains l x → Contains (l ++ u) x = λ x c. Contains-append_left l u x c in
      let in_u : (x : ℕ) → Contains u x → Contains (l ++ u) x = λ x c. Contains-append_right l u x c in
      pairs-append Apart (f ++ b) ((l ++ m) ++ u)
      (pairs-append Apart f b (pairs-left Apart f (m ++ b) front) (pairs-right Apart m b middle) (λ x y c d. pairs-across Apart f (m ++ b) front x y c (Contains-append_right m b y d)))
      (pairs-append Apart (l ++ m) u
      (pairs-append Apart l m (pairs-left Apart l u behind) (pairs-left Apart m b middle) (λ x y c d same. across y x (in_m y d) (in_l x c) (sym same)))
      (pairs-right Apart l u behind)
      (λ x y c d.
      elim (Contains-append_cases l m x c) [
        | inl early ↦ pairs-across Apart l u behind x y early d
        | inr late ↦ across x y (in_m x late) (in_u y d)
      ]))
      (λ x y c d.
      elim (Contains-append_cases f b x c) [
        | inl first ↦ elim (Contains-append_cases (l ++ m) u y d) [
          | inl early ↦ elim (Contains-append_cases l m y early) [
            | inl own ↦ across x y (in_f x first) (in_l y own)
            | inr moved ↦ pairs-across Apart f (m ++ b) front x y first (Contains-append_left m b y moved)
          ]
          | inr late ↦ across x y (in_f x first) (in_u y late)
        ]
        | inr second ↦ elim (Contains-append_cases (l ++ m) u y d) [
          | inl early ↦ elim (Contains-append_cases l m y early) [
            | inl own ↦ across x y (in_b x second) (in_l y own)
            | inr moved ↦ λ same. pairs-across Apart m b middle y x moved second (sym same)
          ]
          | inr late ↦ across x y (in_b x second) (in_u y late)
        ]
      ])

  -- the elements are the same
  pub moved-forth : (n : ℕ) → Contains ((f ++ (m ++ b)) ++ (l ++ u)) n → Contains ((f ++ b) ++ ((l ++ m) ++ u)) n
  moved-forth n h =
      elim (Contains-append_cases (f ++ (m ++ b)) (l ++ u) n h) [
        | inl front ↦ elim (Contains-append_cases f (m ++ b) n front) [
          | inl first ↦ Contains-append_left (f ++ b) ((l ++ m) ++ u) n (Contains-append_left f b n first)
          | inr rest ↦ elim (Contains-append_cases m b n rest) [
            | inl moved ↦ Contains-append_right (f ++ b) ((l ++ m) ++ u) n (Contains-append_left (l ++ m) u n (Contains-append_right l m n moved))
            | inr second ↦ Contains-append_left (f ++ b) ((l ++ m) ++ u) n (Contains-append_right f b n second)
          ]
        ]
        | inr behind ↦ elim (Contains-append_cases l u n behind) [
          | inl own ↦ Contains-append_right (f ++ b) ((l ++ m) ++ u) n (Contains-append_left (l ++ m) u n (Contains-append_left l m n own))
          | inr late ↦ Contains-append_right (f ++ b) ((l ++ m) ++ u) n (Contains-append_right (l ++ m) u n late)
        ]
      ]

  pub moved-back : (n : ℕ) → Contains ((f ++ b) ++ ((l ++ m) ++ u)) n → Contains ((f ++ (m ++ b)) ++ (l ++ u)) n
  moved-back n h =
      elim (Contains-append_cases (f ++ b) ((l ++ m) ++ u) n h) [
        | inl front ↦ elim (Contains-append_cases f b n front) [
          | inl first ↦ Contains-append_left (f ++ (m ++ b)) (l ++ u) n (Contains-append_left f (m ++ b) n first)
          | inr second ↦ Contains-append_left (f ++ (m ++ b)) (l ++ u) n (Contains-append_right f (m ++ b) n (Contains-append_right m b n second))
        ]
        | inr behind ↦ elim (Contains-append_cases (l ++ m) u n behind) [
          | inl early ↦ elim (Contains-append_cases l m n early) [
            | inl own ↦ Contains-append_right (f ++ (m ++ b)) (l ++ u) n (Contains-append_left l u n own)
            | inr moved ↦ Contains-append_left (f ++ (m ++ b)) (l ++ u) n (Contains-append_right f (m ++ b) n (Contains-append_left m b n moved))
          ]
          | inr late ↦ Contains-append_right (f ++ (m ++ b)) (l ++ u) n (Contains-append_right l u n late)
        ]
      ]
