-- What a phase that is set at several indexes changes.
use Rattle.std.proofs.Common.{◌≡◌, ◌≢◌, ℕ, ◌⊎◌, List, [], ◌∷◌, ◌++◌, length, fold, refl, sym, ◌∙◌, ap, subst, Contains, Option, Some, None, IsSomeAnd, option_map, arith, inl, inr}
use Rattle.std.proofs.lemmas.List.{length-set, ext_get_or}
use Rattle.std.proofs.lemmas.Bool.{cases_eq}
use Rattle.scene_model.specs.declared.body_view.Phase.{Phase}
use Rattle.scene_model.specs.declared.body_view.Phase.TheVariants.{Out, Held, In}
use Rattle.scene_model.specs.Scene.{Scene, Place, Record, unused, place_at, record_at}
use Rattle.scene_model.specs.Step.{in_phase, with_phase}
use Rattle.scene_model.specs.History.{scene_from, IsLawfulFrom}
use Rattle.scene_model.specs.Batch.{JoinsOnly, marks, unmarks}
use Rattle.scene_model.proofs.Places.{place_at-with_body_other, place_at-with_change_same}
use Rattle.scene_model.proofs.Histories.{scene_from-append, IsLawfulFrom-append}
use Rattle.scene_model.proofs.Lives.{Contains-cons_cases, Contains-cons_tail}

-- a place with its body in another phase
abbrev pub put_in : Phase → Place → Place
put_in phase place = record place { body = option_map (in_phase phase) place.body }

put_in_twice : (a b : Phase) (creations : ℕ) (body : Option Record) → put_in a (put_in b (record { creations = creations; body = body })) ≡ put_in a (record { creations = creations; body = body })
put_in_twice a b creations None = refl
put_in_twice a b creations (Some r) = refl

-- at the listed indexes the phase is set, and at no other is anything changed
pub place_at-fold_phase : (phase : Phase) (indexes : List ℕ) (scene : Scene) (i : ℕ)
    → (Contains indexes i × (place_at (fold (with_phase phase) scene indexes) i ≡ put_in phase (place_at scene i)))
    ⊎ ((¬ Contains indexes i) × (place_at (fold (with_phase phase) scene indexes) i ≡ place_at scene i))
place_at-fold_phase phase [] scene i = inr (λ c. let below = c.1 in absurd (omega arith), refl)
place_at-fold_phase phase (index ∷ rest) scene i =
    elim (cases_eq i index) [
      | inl same ↦
          let at : place_at (with_phase phase scene index) i ≡ put_in phase (place_at scene i) =
          subst (λ (k : ℕ). place_at (with_phase phase scene index) k ≡ put_in phase (place_at scene k)) (sym same) (place_at-with_change_same (in_phase phase) scene index) in
          let here : Contains (index ∷ rest) i = subst (λ (k : ℕ). Contains (index ∷ rest) k) (sym same) (0, omega arith, refl) in
          elim (place_at-fold_phase phase rest (with_phase phase scene index) i) [
            | inl again ↦ inl (here, again.1 ∙ ap (put_in phase) at ∙ put_in_twice phase phase (place_at scene i).creations (record_at scene i))
            | inr no_more ↦ inl (here, no_more.1 ∙ at)
          ]
      | inr apart ↦
          let at : place_at (with_phase phase scene index) i ≡ place_at scene i = place_at-with_body_other scene index i _ apart in
          elim (place_at-fold_phase phase rest (with_phase phase scene index) i) [
            | inl later ↦ inl (Contains-cons_tail index rest i later.0, later.1 ∙ ap (put_in phase) at)
            | inr never ↦
                inr (λ c. elim (Contains-cons_cases index rest i c) [ inl same ↦ apart (sym same) | inr later ↦ never.0 later ], never.1 ∙ at)
          ]
    ]

length-fold_phase : (phase : Phase) (indexes : List ℕ) (scene : Scene) → length (fold (with_phase phase) scene indexes).places ≡ length scene.places
length-fold_phase phase [] scene = refl
length-fold_phase phase (index ∷ rest) scene = length-fold_phase phase rest (with_phase phase scene index) ∙ length-set scene.places index _

freed-fold_phase : (phase : Phase) (indexes : List ℕ) (scene : Scene) → (fold (with_phase phase) scene indexes).freed ≡ scene.freed
freed-fold_phase phase [] scene = refl
freed-fold_phase phase (index ∷ rest) scene = freed-fold_phase phase rest (with_phase phase scene index)

bodies-fold_phase : (phase : Phase) (indexes : List ℕ) (scene : Scene) → (fold (with_phase phase) scene indexes).bodies ≡ scene.bodies
bodies-fold_phase phase [] scene = refl
bodies-fold_phase phase (index ∷ rest) scene = bodies-fold_phase phase rest (with_phase phase scene index)

pub JoinsOnly-fold : (scene : Scene) (indexes : List ℕ) → JoinsOnly scene (fold (with_phase In) scene indexes) indexes
JoinsOnly-fold scene indexes = record {
  listed = λ i c.
      elim (place_at-fold_phase In indexes scene i) [
        | inl at ↦ ap (λ (p : Place). p.body) at.1
        | inr not ↦ absurd (not.0 c)
      ];
  others = λ i none.
      elim (place_at-fold_phase In indexes scene i) [
        | inl at ↦ absurd (none at.0)
        | inr not ↦ ap (λ (p : Place). p.body) not.1
      ];
  freed = freed-fold_phase In indexes scene;
  used = length-fold_phase In indexes scene;
  bodies = bodies-fold_phase In indexes scene;
}

scene_same : (a b : Scene) → a.places ≡ b.places → a.freed ≡ b.freed → a.bodies ≡ b.bodies → a ≡ b
scene_same a b places freed bodies =
    ap (λ (ps : List Place). record a { places = ps }) places
    ∙ ap (λ (fs : List ℕ). record a { places = b.places; freed = fs }) freed
    ∙ ap (λ n. record b { bodies = n }) bodies

scene_from-marks : (pass : ℕ) (indexes : List ℕ) (scene : Scene) → scene_from scene (marks pass indexes) ≡ fold (with_phase Held) scene indexes
scene_from-marks pass [] scene = refl
scene_from-marks pass (index ∷ rest) scene = scene_from-marks pass rest (with_phase Held scene index)

scene_from-unmarks : (pass : ℕ) (indexes : List ℕ) (scene : Scene) → scene_from scene (unmarks pass indexes) ≡ fold (with_phase Out) scene indexes
scene_from-unmarks pass [] scene = refl
scene_from-unmarks pass (index ∷ rest) scene = scene_from-unmarks pass rest (with_phase Out scene index)

-- a place whose body, if it has one to name, is out
abbrev IsOutAt : Place → Type 0
IsOutAt place = IsSomeAnd place.body (λ r. r.phase ≡ Out)

-- bodies that are marked one after another were all out before the first
marked_out : (layers pass : ℕ) (indexes : List ℕ) (scene : Scene) → IsLawfulFrom layers scene (marks pass indexes) → (i : ℕ) → Contains indexes i → IsOutAt (place_at scene i)
marked_out layers pass [] scene lawful i c = let below = c.1 in absurd (omega arith)
marked_out layers pass (index ∷ rest) scene lawful i c =
    elim (cases_eq i index) [
      | inl same ↦ subst (λ (k : ℕ). IsOutAt (place_at scene k)) (sym same) lawful.0.0
      | inr apart ↦
          elim (Contains-cons_cases index rest i c) [
            | inl same ↦ absurd (apart (sym same))
            | inr later ↦ subst IsOutAt (place_at-with_body_other scene index i _ apart) (marked_out layers pass rest (with_phase Held scene index) lawful.1 i later)
          ]
    ]

put_in_out : (creations : ℕ) (body : Option Record) → IsOutAt (record { creations = creations; body = body }) → put_in Out (record { creations = creations; body = body }) ≡ record { creations = creations; body = body }
put_in_out creations None out = absurd out
put_in_out creations (Some r) out = ap (λ (p : Phase). record { creations = creations; body = Some (record r { phase = p }) }) (sym out)

-- bodies that were out are as they were once they are held and let go
place_at-hold_release : (indexes : List ℕ) (scene : Scene) → ((i : ℕ) → Contains indexes i → IsOutAt (place_at scene i))
    → (i : ℕ) → place_at (fold (with_phase Out) (fold (with_phase Held) scene indexes) indexes) i ≡ place_at scene i
place_at-hold_release indexes scene out i =
    let held = fold (with_phase Held) scene indexes in
    elim (place_at-fold_phase Held indexes scene i) [
      | inl at ↦
          elim (place_at-fold_phase Out indexes held i) [
            | inl back ↦
                back.1 ∙ ap (put_in Out) at.1 ∙ put_in_twice Out Held (place_at scene i).creations (record_at scene i)
                ∙ put_in_out (place_at scene i).creations (record_at scene i) (out i at.0)
            | inr not ↦ absurd (not.0 at.0)
          ]
      | inr not ↦
          elim (place_at-fold_phase Out indexes held i) [
            | inl back ↦ absurd (not.0 back.0)
            | inr still ↦ still.1 ∙ not.1
          ]
    ]

pub marks_then_unmarks : (layers pass : ℕ) (indexes : List ℕ) (scene : Scene) → IsLawfulFrom layers scene (marks pass indexes) → scene_from scene (marks pass indexes ++ unmarks pass indexes) ≡ scene
marks_then_unmarks layers pass indexes scene lawful =
    let held = fold (with_phase Held) scene indexes in
    let back = fold (with_phase Out) held indexes in
    let steps : scene_from scene (marks pass indexes ++ unmarks pass indexes) ≡ back =
    scene_from-append scene (marks pass indexes) (unmarks pass indexes)
    ∙ ap (λ (s : Scene). scene_from s (unmarks pass indexes)) (scene_from-marks pass indexes scene)
    ∙ scene_from-unmarks pass indexes held in
    let used : length back.places ≡ length scene.places = length-fold_phase Out indexes held ∙ length-fold_phase Held indexes scene in
    steps
    ∙ scene_same back scene
    (ext_get_or unused back.places scene.places used (λ i below. place_at-hold_release indexes scene (marked_out layers pass indexes scene lawful) i))
    (freed-fold_phase Out indexes held ∙ freed-fold_phase Held indexes scene)
    (bodies-fold_phase Out indexes held ∙ bodies-fold_phase Held indexes scene)

-- ---- the marks may be undone in their order

abbrev IsHeldAt : Place → Type 0
IsHeldAt place = IsSomeAnd place.body (λ r. r.phase ≡ Held)

held_from_out : (creations : ℕ) (body : Option Record) → IsOutAt (record { creations = creations; body = body }) → IsHeldAt (put_in Held (record { creations = creations; body = body }))
held_from_out creations None out = absurd out
held_from_out creations (Some r) out = refl

out_and_held : (body : Option Record) → IsSomeAnd body (λ r. r.phase ≡ Out) → IsSomeAnd body (λ r. r.phase ≡ Held) → ⊥
out_and_held None out held = out
out_and_held (Some r) out held = cc

-- no index is marked twice
marked_apart : (layers pass index : ℕ) (rest : List ℕ) (scene : Scene) → IsLawfulFrom layers scene (marks pass (index ∷ rest)) → (i : ℕ) → Contains rest i → i ≢ index
marked_apart layers pass index rest scene lawful i c same =
    let marked = with_phase Held scene index in
    let out : IsOutAt (place_at marked index) = subst (λ (k : ℕ). IsOutAt (place_at marked k)) same (marked_out layers pass rest marked lawful.1 i c) in
    let held : IsHeldAt (place_at marked index) =
    subst IsHeldAt (sym (place_at-with_change_same (in_phase Held) scene index)) (held_from_out (place_at scene index).creations (record_at scene index) lawful.0.0) in
    out_and_held (record_at marked index) out held

unmarks_lawful : (layers pass : ℕ) (indexes : List ℕ) (before scene : Scene) → IsLawfulFrom layers before (marks pass indexes)
    → ((i : ℕ) → Contains indexes i → IsHeldAt (place_at scene i)) → IsLawfulFrom layers scene (unmarks pass indexes)
unmarks_lawful layers pass [] before scene lawful held = tt
unmarks_lawful layers pass (index ∷ rest) before scene lawful held = (
  (held index (0, omega arith, refl), tt),
  unmarks_lawful layers pass rest (with_phase Held before index) (with_phase Out scene index) lawful.1
      (λ i c.
      subst IsHeldAt (sym (place_at-with_body_other scene index i _ (marked_apart layers pass index rest before lawful i c)))
      (held i (Contains-cons_tail index rest i c))),
)

pub marks_then_unmarks_lawful : (layers pass : ℕ) (indexes : List ℕ) (scene : Scene) → IsLawfulFrom layers scene (marks pass indexes)
    → IsLawfulFrom layers scene (marks pass indexes ++ unmarks pass indexes)
marks_then_unmarks_lawful layers pass indexes scene lawful =
    IsLawfulFrom-append layers scene (marks pass indexes) (unmarks pass indexes) lawful
    (unmarks_lawful layers pass indexes scene (scene_from scene (marks pass indexes)) lawful
    (λ i c.
    subst (λ (s : Scene). IsHeldAt (place_at s i)) (sym (scene_from-marks pass indexes scene))
    (elim (place_at-fold_phase Held indexes scene i) [
      | inl at ↦ subst IsHeldAt (sym at.1) (held_from_out (place_at scene i).creations (record_at scene i) (marked_out layers pass indexes scene lawful i c))
      | inr not ↦ absurd (not.0 c)
    ])))
