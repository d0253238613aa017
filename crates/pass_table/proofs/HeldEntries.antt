-- After which entries a body is held: by its mark, and by each that leaves it so.
use Rattle.std.proofs.Common.{◌≡◌, ◌≢◌, ◌⊎◌, inl, inr, ℕ, Option, Some, None, IsSomeAnd, IsSome, option_map, refl, sym, ◌∙◌, subst}
use Rattle.std.proofs.lemmas.Bool.{cases_eq}
use Rattle.scene_model.specs.declared.body_view.Phase.{Phase}
use Rattle.scene_model.specs.declared.body_view.Phase.TheVariants.{Out, Held, In}
use Rattle.scene_model.specs.declared.entry.Entry.{Entry}
use Rattle.scene_model.specs.declared.entry.Entry.TheVariants.{Create, Destroy, Mark, Unmark, Join, Remove, Move, SetUser}
use Rattle.scene_model.specs.Scene.{Scene, Place, Record, place_at, record_at}
use Rattle.scene_model.specs.Step.{HasBody, IsLawful, after_entry, created_in, with_change, in_phase}
use Rattle.scene_model.specs.Consistent.{IsConsistent}
use Rattle.scene_model.proofs.Places.{place_at-with_body_other, place_at-with_change_same}
use Rattle.scene_model.proofs.Batches.{place_at-fold_phase}
use Rattle.core_guard.proofs.Scenes.{record_live, place_at-created, place_at-created_other, place_at-destroyed, place_at-destroyed_other}
use Rattle.pass_table.specs.OwnMarks.{MarksBody, JoinsBody}

-- a body is held
abbrev pub IsHeldAt : Scene → ℕ → Type 0
IsHeldAt scene i = HasBody scene i (λ r. r.phase ≡ Held)

-- ---- one entry

-- who is held after an entry was marked by it, or was held before and did not join
abbrev pub WasHeld : Scene → ℕ → Entry → Type 0
WasHeld scene i entry = MarksBody i entry ⊎ (IsHeldAt scene i × ¬ JoinsBody i entry)

-- a body that is put out, or in, is not held
not-put : (phase : Phase) (o : Option Record) → phase ≢ Held → ¬ IsSomeAnd (option_map (in_phase phase) o) (λ r. r.phase ≡ Held)
not-put phase None apart h = h
not-put phase (Some r) apart h = apart h

-- a change that leaves the phase
put-same : (change : Record → Record) → ((r : Record) → (change r).phase ≡ r.phase) → (o : Option Record) → IsSomeAnd (option_map change o) (λ r. r.phase ≡ Held)
    → IsSomeAnd o (λ r. r.phase ≡ Held)
put-same change leaves None h = h
put-same change leaves (Some r) h = sym (leaves r) ∙ h

some-of : (o : Option Record) (P : Record → Type 0) → IsSomeAnd o P → IsSome o
some-of None P h = absurd h
some-of (Some r) P h = record_live (Some r) r refl

-- what is held at a place is held at one that is the same
held-as : (one other : Place) → one ≡ other → IsSomeAnd one.body (λ r. r.phase ≡ Held) → IsSomeAnd other.body (λ r. r.phase ≡ Held)
held-as one other same h = subst (λ (p : Place). IsSomeAnd p.body (λ r. r.phase ≡ Held)) same h

module _ (layers : ℕ) (scene : Scene) (i : ℕ) where
  -- where the body at an index was changed, it is this one that is held, or it was held
  changed-held : (change : Record → Record) (j : ℕ) → IsHeldAt (with_change change scene j) i → ((i ≡ j) × IsSomeAnd (option_map change (record_at scene i)) (λ r. r.phase ≡ Held)) ⊎ IsHeldAt scene i
  changed-held change j h =
      elim (cases_eq i j) [
        | inl same ↦
            inl (
              same,
              held-as _ _ (subst (λ (k : ℕ). place_at (with_change change scene k) i ≡ record (place_at scene i) { body = option_map change (record_at scene i) }) same
                  (place_at-with_change_same change scene i)) h,
            )
        | inr other ↦ inr (held-as _ _ (place_at-with_body_other scene j i _ other) h)
      ]

  -- an entry that leaves the phases of bodies
  left-held : (change : Record → Record) → ((r : Record) → (change r).phase ≡ r.phase) → (j : ℕ) → IsHeldAt (with_change change scene j) i → IsHeldAt scene i
  left-held change leaves j h =
      elim (changed-held change j h) [
        | inl t ↦ put-same change leaves (record_at scene i) t.1
        | inr was ↦ was
      ]

  -- and one after which a body is out
  out-held : (j : ℕ) → IsHeldAt (with_change (in_phase Out) scene j) i → IsHeldAt scene i
  out-held j h =
      elim (changed-held (in_phase Out) j h) [
        | inl t ↦ absurd (not-put Out (record_at scene i) (λ e. absurd cc) t.1)
        | inr was ↦ was
      ]

  pub held-before : (entry : Entry) → IsConsistent layers scene → IsLawful layers scene entry → IsHeldAt (after_entry scene entry) i → WasHeld scene i entry
  held-before (Create j layer bounds user) consistent lawful h =
      elim (cases_eq i j) [
        | inl same ↦
            let out = held-as _ _ (subst (λ (k : ℕ). place_at (after_entry scene (Create j layer bounds user)) k ≡ created_in (place_at scene j) layer bounds user) (sym same)
            (place_at-created layers scene j layer bounds user consistent lawful.0)) h
            in
            absurd cc
        | inr other ↦ inr (held-as _ _ (place_at-created_other scene j layer bounds user i lawful.0 other) h, λ e. e)
      ]
  held-before (Destroy j) consistent lawful h =
      elim (cases_eq i j) [
        | inl same ↦
            absurd (held-as _ _ (subst (λ (k : ℕ). place_at (after_entry scene (Destroy j)) k ≡ record (place_at scene j) { body = None }) (sym same)
            (place_at-destroyed scene j (some-of (record_at scene j) _ lawful.0))) h)
        | inr other ↦ inr (held-as _ _ (place_at-destroyed_other scene j i other) h, λ e. e)
      ]
  held-before (Mark j) consistent lawful h =
      elim (changed-held (in_phase Held) j h) [
        | inl t ↦ inl t.0
        | inr was ↦ inr (was, λ e. e)
      ]
  held-before (Unmark j) consistent lawful h = inr (out-held j h, λ e. e)
  held-before (Join layer indexes) consistent lawful h =
      elim (place_at-fold_phase In indexes scene i) [
        | inl t ↦ absurd (not-put In (record_at scene i) (λ e. absurd cc) (held-as _ _ t.1 h))
        | inr t ↦ inr (held-as _ _ t.1 h, t.0)
      ]
  held-before (Remove j) consistent lawful h = inr (out-held j h, λ e. e)
  held-before (Move j bounds) consistent lawful h = inr (left-held (λ r. record r { bounds = bounds }) (λ r. refl) j h, λ e. e)
  held-before (SetUser j user) consistent lawful h = inr (left-held (λ r. record r { user = user }) (λ r. refl) j h, λ e. e)

-- an unmark of it leaves it out
pub unmarked-out : (scene : Scene) (i : ℕ) → ¬ IsHeldAt (after_entry scene (Unmark i)) i
unmarked-out scene i h = not-put Out (record_at scene i) (λ e. absurd cc) (held-as _ _ (place_at-with_change_same (in_phase Out) scene i) h)
