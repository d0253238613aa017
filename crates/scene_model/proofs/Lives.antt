-- Consistency is kept where a body begins and where one ends.
use Rattle.std.proofs.Common.{◌≡◌, ◌≢◌, ℕ, zero, suc, ◌+◌, ◌<◌, ◌⊎◌, true, false, List, [], ◌∷◌, ◌++◌, length, get_or, set, refl, sym, ◌∙◌, ap, subst, nat_eq, Option, Some, None, is_some, IsNone, IsSome, IfSome, IsSomeAnd, Contains, arith, inl, inr}
use Rattle.std.specs.List.{IsDistinct}
use Rattle.std.proofs.lemmas.Map.Keys.{IsDistinct-head, IsDistinct-tail, IsDistinct-cons}
use Rattle.std.proofs.lemmas.List.Elements.{All-from_recursion, recursion_from_All, All-contains, Contains-get_or}
use Rattle.std.proofs.lemmas.List.{length-set, length_push, get_or-set_same, get_or-set_other, get_or_append_left, get_or_push, get_or_past}
use Rattle.std.proofs.lemmas.Bool.{cases_eq, cases_lt, false≢true}
use Rattle.std.proofs.lemmas.Bool.Decides.{eqb_tells}
use Rattle.scene_model.specs.Scene.{Scene, Place, Record, place_at, record_at, unused}
use Rattle.scene_model.specs.Step.{with_body}
use Rattle.scene_model.specs.Consistent.{IsLatest, IsConsistent}
use Rattle.scene_model.proofs.Places.{place_at-with_body_same, place_at-with_body_other}

Contains-cons_at : (x : ℕ) (xs : List ℕ) (y : ℕ) (k : ℕ) → k < length (x ∷ xs) → get_or (x ∷ xs) k y ≡ y → (x ≡ y) ⊎ Contains xs y
Contains-cons_at x xs y zero below at = inl at
Contains-cons_at x xs y (suc k) below at = inr (k, omega arith, at)

pub Contains-cons_cases : (x : ℕ) (xs : List ℕ) (y : ℕ) → Contains (x ∷ xs) y → (x ≡ y) ⊎ Contains xs y
Contains-cons_cases x xs y c = Contains-cons_at x xs y c.0 c.1 c.2

pub Contains-cons_tail : (x : ℕ) (xs : List ℕ) (y : ℕ) → Contains xs y → Contains (x ∷ xs) y
Contains-cons_tail x xs y c = (suc c.0, omega (arith, c.1), c.2)

differs : (x y : ℕ) → x ≢ y → nat_eq x y ≡ false
differs x y apart = elim (eqb_tells x y) [ inl same ↦ absurd (apart same.1) | inr other ↦ other.0 ]

-- the first of a list without repeats is not in the rest
pub head_apart : (x : ℕ) (xs : List ℕ) → IsDistinct nat_eq (x ∷ xs) → (y : ℕ) → Contains xs y → y ≢ x
head_apart x xs distinct y c same =
    let test : nat_eq x y ≡ false = All-contains (λ z. nat_eq x z ≡ false) xs y (All-from_recursion (λ z. nat_eq x z ≡ false) xs (IsDistinct-head nat_eq x xs distinct)) c in
    elim (eqb_tells x y) [ inl is ↦ false≢true (sym test ∙ is.0) | inr apart ↦ apart.1 (sym same) ]

-- a place with a body that was just created there
abbrev pub IsBegun : ℕ → Place → Type 0
IsBegun layers place = IsSomeAnd place.body (IsLatest layers place.creations)

-- what consistency says of a place
abbrev IsLatestIn : ℕ → Place → Type 0
IsLatestIn layers place = IfSome place.body (IsLatest layers place.creations)

begun_live : (body : Option Record) (P : Record → Type 0) → IsSomeAnd body P → is_some body ≡ true
begun_live None P h = absurd h
begun_live (Some r) P h = refl

begun_latest : (body : Option Record) (P : Record → Type 0) → IsSomeAnd body P → IfSome body P
begun_latest None P h = tt
begun_latest (Some r) P h = h

-- a body begins at an index that was never used
pub IsConsistent-push : (layers : ℕ) (scene : Scene) (place : Place) → scene.freed ≡ [] → length scene.places < scene.bodies → IsBegun layers place
    → IsConsistent layers scene → IsConsistent layers (record scene { places = scene.places ++ place ∷ [] })
IsConsistent-push layers scene place none room begun h =
    let used : length (scene.places ++ place ∷ []) ≡ length scene.places + 1 = length_push scene.places place in
    let old : (i : ℕ) → i < length scene.places → get_or (scene.places ++ place ∷ []) i unused ≡ place_at scene i = λ i below. get_or_append_left scene.places (place ∷ []) unused i below in
    let new : (i : ℕ) → length scene.places ≡ i → get_or (scene.places ++ place ∷ []) i unused ≡ place = λ i at. get_or_push scene.places place unused i at in
    let past : (i : ℕ) → length scene.places < i → get_or (scene.places ++ place ∷ []) i unused ≡ unused = λ i above. get_or_past (scene.places ++ place ∷ []) i unused (omega arith) in
    record {
      room = omega arith;
      freed_once = h.freed_once;
      freed_empty = λ i c. let below = c.1 in absurd (omega (arith, ap length none));
      empty_freed = λ i below gone.
          elim (cases_lt i (length scene.places)) [
            | inl before ↦ h.empty_freed i before (ap (λ (p : Place). is_some p.body) (sym (old i before)) ∙ gone)
            | inr after ↦ absurd (false≢true (sym gone ∙ ap (λ (p : Place). is_some p.body) (new i (omega arith)) ∙ begun_live place.body _ begun))
          ];
      latest = λ i.
          elim (cases_lt i (length scene.places)) [
            | inl before ↦ subst (IsLatestIn layers) (sym (old i before)) (h.latest i)
            | inr after ↦
                elim (cases_eq (length scene.places) i) [
                  | inl at ↦ subst (IsLatestIn layers) (sym (new i at)) (begun_latest place.body _ begun)
                  | inr apart ↦ subst (IsLatestIn layers) (sym (past i (omega arith))) tt
                ]
          ];
    }

-- a body begins at the index that was freed last
pub IsConsistent-reuse : (layers : ℕ) (scene : Scene) (index : ℕ) (rest : List ℕ) (place : Place) → scene.freed ≡ index ∷ rest → IsBegun layers place
    → IsConsistent layers scene → IsConsistent layers (record scene { places = set scene.places index place; freed = rest })
IsConsistent-reuse layers scene index rest place freed begun h =
    let distinct : IsDistinct nat_eq (index ∷ rest) = rw (← freed) h.freed_once in
    let first : Contains scene.freed index = rw freed (0, omega arith, refl) in
    let below : index < length scene.places = (h.freed_empty index first).0 in
    let used : length (set scene.places index place) ≡ length scene.places = length-set scene.places index place in
    let at : get_or (set scene.places index place) index unused ≡ place = get_or-set_same scene.places index place unused below in
    let other : (i : ℕ) → i ≢ index → get_or (set scene.places index place) i unused ≡ place_at scene i = λ i apart. get_or-set_other scene.places index i place unused apart in
    let kept : (i : ℕ) → Contains rest i → Contains scene.freed i = λ i c. rw freed (Contains-cons_tail index rest i c) in
    record {
      room = omega (arith, h.room);
      freed_once = IsDistinct-tail nat_eq index rest distinct;
      freed_empty = λ i c. (
        omega (arith, (h.freed_empty i (kept i c)).0),
        ap (λ (p : Place). is_some p.body) (other i (head_apart index rest distinct i c)) ∙ (h.freed_empty i (kept i c)).1,
      );
      empty_freed = λ i inside gone.
          elim (cases_eq i index) [
            | inl same ↦ absurd (false≢true (sym (subst (λ (k : ℕ). is_some (get_or (set scene.places index place) k unused).body ≡ false) same gone) ∙ ap (λ (p : Place). is_some p.body) at ∙ begun_live place.body _ begun))
            | inr apart ↦
                elim (Contains-cons_cases index rest i (subst (λ (xs : List ℕ). Contains xs i) freed (h.empty_freed i (omega arith) (ap (λ (p : Place). is_some p.body) (sym (other i apart)) ∙ gone)))) [
                  | inl same ↦ absurd (apart (sym same))
                  | inr c ↦ c
                ]
          ];
      latest = λ i.
          elim (cases_eq i index) [
            | inl same ↦ subst (λ (k : ℕ). IsLatestIn layers (get_or (set scene.places index place) k unused)) (sym same) (subst (IsLatestIn layers) (sym at) (begun_latest place.body _ begun))
            | inr apart ↦ subst (IsLatestIn layers) (sym (other i apart)) (h.latest i)
          ];
    }

-- a body ends, and its index is free
pub IsConsistent-destroy : (layers : ℕ) (scene : Scene) (index : ℕ) → IsSome (record_at scene index) → index < length scene.places
    → IsConsistent layers scene → IsConsistent layers (record (with_body scene index None) { freed = index ∷ scene.freed })
IsConsistent-destroy layers scene index live below h =
    let used : length (with_body scene index None).places ≡ length scene.places = length-set scene.places index _ in
    let at : place_at (with_body scene index None) index ≡ record (place_at scene index) { body = None } = place_at-with_body_same scene index None below in
    let other : (i : ℕ) → i ≢ index → place_at (with_body scene index None) i ≡ place_at scene i = λ i apart. place_at-with_body_other scene index i None apart in
    let new : (y : ℕ) → Contains scene.freed y → index ≢ y = λ y c same. false≢true (sym (h.freed_empty y c).1 ∙ subst (λ (k : ℕ). is_some (record_at scene k) ≡ true) same live) in
    record {
      room = omega (arith, h.room);
      freed_once =
          IsDistinct-cons nat_eq index scene.freed
          (recursion_from_All (λ y. nat_eq index y ≡ false) scene.freed (λ k d inside. differs index (get_or scene.freed k d) (new (get_or scene.freed k d) (Contains-get_or scene.freed k d inside))))
          h.freed_once;
      freed_empty = λ i c.
          elim (Contains-cons_cases index scene.freed i c) [
            | inl same ↦ subst (λ (k : ℕ). (k < length (with_body scene index None).places) × IsNone (record_at (with_body scene index None) k)) same (omega arith, ap (λ (p : Place). is_some p.body) at)
            | inr c ↦ (omega (arith, (h.freed_empty i c).0), ap (λ (p : Place). is_some p.body) (other i (λ same. new i c (sym same))) ∙ (h.freed_empty i c).1)
          ];
      empty_freed = λ i inside gone.
          elim (cases_eq i index) [
            | inl same ↦ subst (λ (k : ℕ). Contains (index ∷ scene.freed) k) (sym same) (0, omega arith, refl)
            | inr apart ↦ Contains-cons_tail index scene.freed i (h.empty_freed i (omega arith) (ap (λ (p : Place). is_some p.body) (sym (other i apart)) ∙ gone))
          ];
      latest = λ i.
          elim (cases_eq i index) [
            | inl same ↦ subst (λ (k : ℕ). IsLatestIn layers (place_at (with_body scene index None) k)) (sym same) (subst (IsLatestIn layers) (sym at) tt)
            | inr apart ↦ subst (IsLatestIn layers) (sym (other i apart)) (h.latest i)
          ];
    }
