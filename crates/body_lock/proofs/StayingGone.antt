-- A body that is gone stays gone, until another one gets its id.
use Rattle.std.proofs.Common.{◌≡◌, inl, inr, ℕ, ◌+◌, ◌%◌, List, [], ◌∷◌, ◌++◌, Bool, true, false, cond, Option, Some, None, IfSome, IsSome, is_some, IsSomeAnd, refl, ap, sym, ◌∙◌, subst, arith}
use Rattle.std.proofs.lemmas.Bool.{cases_eq, eqb-false}
use Rattle.std.proofs.lemmas.List.Elements.{All-contains}
use Rattle.std.proofs.lemmas.List.Sums.{sum_by-cons, sum_by-append}
use Rattle.body_ident.specs.Id.{Id}
use Rattle.scene_model.specs.declared.body_view.Phase.TheVariants.{Held, In}
use Rattle.scene_model.specs.declared.entry.Entry.{Entry}
use Rattle.scene_model.specs.declared.entry.Entry.TheVariants.{Create, Destroy, Mark, Unmark, Join, Remove, Move, SetUser}
use Rattle.scene_model.specs.declared.entry.Made.{Made}
use Rattle.scene_model.specs.Scene.{Scene, Record, Place, empty_scene, place_at, record_at}
use Rattle.scene_model.specs.Step.{HasBody, IsLawful, with_body, after_entry}
use Rattle.scene_model.specs.Consistent.{IsLatest}
use Rattle.scene_model.specs.History.{scene_from, scene_after, IsLawfulFrom, IsLawfulHistory, creates, creations_in}
use Rattle.scene_model.specs.Cause.{IsCauseAt, gone}
use Rattle.scene_model.proofs.Places.{place_at-with_body_other}
use Rattle.scene_model.proofs.Batches.{place_at-fold_phase}
use Rattle.scene_model.proofs.Histories.{IsConsistent-scene_after, scene_from-append, lawful_parts}
use Rattle.scene_model.proofs.Creations.{creations_at-scene_after}
use Rattle.core_state.proofs.Beginning.{body_record, record_body}
use Rattle.core_guard.proofs.Scenes.{place_at-created_other}
use Rattle.body_lock.specs.Settled.{NamesCreation}

-- ---- one entry that creates nothing at an index

has-live : (o : Option Record) (P : Record → Type 0) → IsSomeAnd o P → IsSome o
has-live o P h = let t = body_record o P h in ap is_some t.1

live-record : (o : Option Record) → IsSome o → (r : Record) × (o ≡ Some r)
live-record None live = absurd cc
live-record (Some r) live = (r, refl)

-- where nothing changed
live-same : (scene after : Scene) (i : ℕ) → place_at after i ≡ place_at scene i → IsSome (record_at after i) → IsSome (record_at scene i)
live-same scene after i same live = ap (λ (p : Place). is_some p.body) (sym same) ∙ live

-- where one body changed that was live before
live-changed : (scene : Scene) (j i : ℕ) (body : Option Record) → IsSome (record_at scene j) → IsSome (record_at (with_body scene j body) i) → IsSome (record_at scene i)
live-changed scene j i body here live = elim (cases_eq i j) [
  | inl same ↦ subst (λ (k : ℕ). IsSome (record_at scene k)) (sym same) here
  | inr apart ↦ live-same scene (with_body scene j body) i (place_at-with_body_other scene j i body apart) live
]

-- a body that is live after it was live before
live-before : (layers : ℕ) (scene : Scene) (i : ℕ) (entry : Entry) → IsLawful layers scene entry → creates i entry ≡ false → IsSome (record_at (after_entry scene entry) i) → IsSome (record_at scene i)
live-before layers scene i (Create j layer bounds user) lawful none live =
    live-same scene (after_entry scene (Create j layer bounds user)) i (place_at-created_other scene j layer bounds user i lawful.0 (λ same. eqb-false j i none (sym same))) live
live-before layers scene i (Destroy j) lawful none live = live-changed scene j i _ (has-live (record_at scene j) _ lawful.0) live
live-before layers scene i (Mark j) lawful none live = live-changed scene j i _ (has-live (record_at scene j) _ lawful.0) live
live-before layers scene i (Unmark j) lawful none live = live-changed scene j i _ (has-live (record_at scene j) _ lawful.0) live
live-before layers scene i (Join layer indexes) lawful none live =
    elim (place_at-fold_phase In indexes scene i) [
      | inl t ↦ has-live (record_at scene i) _ (All-contains (λ k. HasBody scene k (λ r. (r.phase ≡ Held) × (r.layer ≡ layer))) indexes i lawful.0.2 t.0)
      | inr t ↦ live-same scene (after_entry scene (Join layer indexes)) i t.1 live
    ]
live-before layers scene i (Remove j) lawful none live = live-changed scene j i _ (has-live (record_at scene j) _ lawful.0) live
live-before layers scene i (Move j bounds) lawful none live = live-changed scene j i _ (has-live (record_at scene j) _ lawful.0) live
live-before layers scene i (SetUser j user) lawful none live = live-changed scene j i _ lawful.0 live

-- ---- a history that creates nothing there

creates-none : (t : Bool) → ◌≡◌ {A = ℕ} (cond t 1 0) 0 → t ≡ false
creates-none true none = absurd (omega arith)
creates-none false none = refl

live-from : (layers : ℕ) (later : List Made) (scene : Scene) (i : ℕ) → IsLawfulFrom layers scene later → creations_in i later ≡ 0 → IsSome (record_at (scene_from scene later) i) → IsSome (record_at scene i)
live-from layers [] scene i lawful none live = live
live-from layers (made ∷ later) scene i lawful none live =
    let parts : creations_in i (made ∷ later) ≡ cond (creates i made.entry) 1 0 + creations_in i later = sum_by-cons (λ (m : Made). cond (creates i m.entry) 1 0) made later in
    live-before layers scene i made.entry lawful.0 (creates-none (creates i made.entry) (omega arith)) (live-from layers later (after_entry scene made.entry) i lawful.1 (omega arith) live)

-- the body that is live after a history was created last there
latest-created : (layers bodies : ℕ) (made : List Made) (i : ℕ) (r : Record) → IsLawfulHistory layers bodies made → record_at (scene_after bodies made) i ≡ Some r → r.generation ≡ creations_in i made
latest-created layers bodies made i r lawful is =
    let scene = scene_after bodies made in
    let latest : IsLatest layers (place_at scene i).creations r =
    subst (λ (o : Option Record). IfSome o (IsLatest layers (place_at scene i).creations)) is ((IsConsistent-scene_after layers bodies made lawful).latest i)
    in
    latest.latest ∙ creations_at-scene_after layers bodies made i lawful

-- ---- a body that was gone

module _ (layers bodies : ℕ) (id : Id) (g : ℕ) (first later : List Made) (lawful : IsLawfulHistory layers bodies (first ++ later)) (creation : NamesCreation id g first (first ++ later)) where
  abbrev HasId : Record → Type 0
  HasId r = r.generation % 256 ≡ id.seq

  split : creations_in id.index (first ++ later) ≡ creations_in id.index first + creations_in id.index later
  split = sum_by-append (λ (m : Made). cond (creates id.index m.entry) 1 0) first later

  -- one that is live later with its id was created as the g-th, and was live before
  was-live : HasBody (scene_after bodies (first ++ later)) id.index HasId → HasBody (scene_after bodies first) id.index HasId
  was-live h =
      let late = body_record (record_at (scene_after bodies (first ++ later)) id.index) HasId h in
      let parts = lawful_parts layers (empty_scene bodies) first later lawful in
      let count : late.0.generation ≡ creations_in id.index (first ++ later) = latest-created layers bodies (first ++ later) id.index late.0 lawful late.1 in
      let seq : id.seq ≡ g % 256 = ap (λ (i : Id). i.seq) creation.names in
      let has : late.0.generation % 256 ≡ id.seq = late.2 in
      let made = creation.made in
      let few = creation.few in
      let sum = split in
      let live : IsSome (record_at (scene_from (scene_after bodies first) later) id.index) =
      subst (λ (s : Scene). IsSome (record_at s id.index)) (scene_from-append (empty_scene bodies) first later) (ap is_some late.1)
      in
      let early = live-record (record_at (scene_after bodies first) id.index) (live-from layers later (scene_after bodies first) id.index parts.1 (omega arith) live) in
      let first_count : early.0.generation ≡ creations_in id.index first = latest-created layers bodies first id.index early.0 parts.0 early.1 in
      record_body (record_at (scene_after bodies first) id.index) HasId early.0 early.1 (omega arith)

  pub stays-gone : IsCauseAt (gone id) (scene_after bodies first) → IsCauseAt (gone id) (scene_after bodies (first ++ later))
  stays-gone none = λ h. none (was-live h)
