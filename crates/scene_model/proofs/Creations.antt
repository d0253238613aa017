-- The number of creations at an index is how often the history creates a body there.
use Rattle.std.proofs.Common.{◌≡◌, ◌≢◌, ℕ, ◌+◌, ◌<◌, ◌==◌, cond, List, [], ◌∷◌, ◌++◌, length, get_or, fold, refl, sym, ◌∙◌, ap, subst, Contains, Option, Some, None, IfSome, option_map, add_assoc, arith, inl, inr}
use Rattle.std.proofs.lemmas.List.{set_past, get_or-set_same, get_or-set_other, get_or_append_left, get_or_push, get_or_past, length_push}
use Rattle.std.proofs.lemmas.List.Sums.{sum_by-cons}
use Rattle.std.proofs.lemmas.Option.{cond_some, same_Some}
use Rattle.std.proofs.lemmas.Bool.{cases_eq, cases_lt}
use Rattle.std.proofs.lemmas.Bool.Decides.{eqb_tells}
use Rattle.body_ident.specs.Id.{id_of}
use Rattle.scene_model.specs.declared.body_view.Phase.{Phase}
use Rattle.scene_model.specs.declared.entry.Entry.{Entry}
use Rattle.scene_model.specs.declared.entry.Entry.TheVariants.{Create, Destroy, Mark, Unmark, Join, Remove, Move, SetUser}
use Rattle.scene_model.specs.declared.entry.Made.{Made}
use Rattle.scene_model.specs.Scene.{Scene, Place, Record, unused, empty_scene, place_at, next_of, next_index}
use Rattle.scene_model.specs.Step.{IsLawful, created_in, with_body, with_phase, with_new_body, after_entry}
use Rattle.scene_model.specs.History.{scene_from, scene_after, IsLawfulFrom, IsLawfulHistory, creates, creations_in}
use Rattle.scene_model.specs.Query.{view_at, view_of}
use Rattle.scene_model.specs.Consistent.{IsLatest, IsConsistent}
use Rattle.scene_model.proofs.Places.{place_at-with_body_same, place_at-with_body_other}
use Rattle.scene_model.proofs.Histories.{IsConsistent-empty, IsConsistent-after_entry, IsConsistent-scene_after}

-- how often a body was created at an index
abbrev creations_at : Scene → ℕ → ℕ
creations_at scene index = (place_at scene index).creations

creations_at-with_body : (scene : Scene) (index other : ℕ) (body : Option Record) → creations_at (with_body scene index body) other ≡ creations_at scene other
creations_at-with_body scene index other body =
    elim (cases_lt index (length scene.places)) [
      | inl below ↦
          elim (cases_eq other index) [
            | inl same ↦
                subst (λ (k : ℕ). creations_at (with_body scene index body) k ≡ creations_at scene k) (sym same)
                (ap (λ (p : Place). p.creations) (place_at-with_body_same scene index body below))
            | inr apart ↦ ap (λ (p : Place). p.creations) (place_at-with_body_other scene index other body apart)
          ]
      | inr past ↦ ap (λ (ps : List Place). (get_or ps other unused).creations) (set_past scene.places index _ past)
    ]

creations_at-join : (phase : Phase) (indexes : List ℕ) (scene : Scene) (other : ℕ) → creations_at (fold (with_phase phase) scene indexes) other ≡ creations_at scene other
creations_at-join phase [] scene other = refl
creations_at-join phase (index ∷ rest) scene other =
    creations_at-join phase rest (with_phase phase scene index) other ∙ creations_at-with_body scene index other _

-- a new body stands at its index, and at no other is anything new
pub place_at-with_new_body_same : (scene : Scene) (freed : List ℕ) (index : ℕ) (place : Place) → next_of freed (length scene.places) scene.bodies ≡ Some index
    → ((i : ℕ) → Contains freed i → i < length scene.places) → place_at (with_new_body freed scene index place) index ≡ place
place_at-with_new_body_same scene [] index place next within = get_or_push scene.places place unused index (cond_some _ _ _ next).1
place_at-with_new_body_same scene (first ∷ rest) index place next within =
    get_or-set_same scene.places index place unused (subst (λ (i : ℕ). i < length scene.places) (same_Some _ _ next) (within first (0, omega arith, refl)))

place_at-push_other : (places : List Place) (other : ℕ) (place : Place) → other ≢ length places → get_or (places ++ place ∷ []) other unused ≡ get_or places other unused
place_at-push_other places other place apart =
    elim (cases_lt other (length places)) [
      | inl below ↦ get_or_append_left places (place ∷ []) unused other below
      | inr past ↦ get_or_past (places ++ place ∷ []) other unused (omega (arith, length_push places place)) ∙ sym (get_or_past places other unused past)
    ]

pub place_at-with_new_body_other : (scene : Scene) (freed : List ℕ) (index other : ℕ) (place : Place) → next_of freed (length scene.places) scene.bodies ≡ Some index
    → other ≢ index → place_at (with_new_body freed scene index place) other ≡ place_at scene other
place_at-with_new_body_other scene [] index other place next apart =
    place_at-push_other scene.places other place (λ same. apart (same ∙ (cond_some _ _ _ next).1))
place_at-with_new_body_other scene (first ∷ rest) index other place next apart = get_or-set_other scene.places index other place unused apart

creations_at-create : (scene : Scene) (index other : ℕ) (place : Place) → next_index scene ≡ Some index → ((i : ℕ) → Contains scene.freed i → i < length scene.places)
    → place.creations ≡ creations_at scene index + 1
    → creations_at (with_new_body scene.freed scene index place) other ≡ creations_at scene other + cond (index == other) 1 0
creations_at-create scene index other place next within one_more =
    elim (eqb_tells index other) [
      | inl same ↦
          let at = ap (λ (p : Place). p.creations) (place_at-with_new_body_same scene scene.freed index place next within) in
          rw same.0 (subst (λ (k : ℕ). creations_at (with_new_body scene.freed scene index place) k ≡ creations_at scene k + 1) same.1 (at ∙ one_more))
      | inr apart ↦
          rw apart.0 (ap (λ (p : Place). p.creations) (place_at-with_new_body_other scene scene.freed index other place next (λ same. apart.1 (sym same))) ∙ sym (omega arith))
    ]

pub creations_at-after_entry : (layers : ℕ) (scene : Scene) (entry : Entry) (other : ℕ) → IsLawful layers scene entry → IsConsistent layers scene
    → creations_at (after_entry scene entry) other ≡ creations_at scene other + cond (creates other entry) 1 0
creations_at-after_entry layers scene (Create index layer bounds user) other lawful h =
    creations_at-create scene index other (created_in (place_at scene index) layer bounds user) lawful.0 (λ i c. (h.freed_empty i c).0) refl
creations_at-after_entry layers scene (Destroy index) other lawful h = creations_at-with_body scene index other None ∙ omega arith
creations_at-after_entry layers scene (Mark index) other lawful h = creations_at-with_body scene index other _ ∙ omega arith
creations_at-after_entry layers scene (Unmark index) other lawful h = creations_at-with_body scene index other _ ∙ omega arith
creations_at-after_entry layers scene (Join layer indexes) other lawful h = creations_at-join _ indexes scene other ∙ omega arith
creations_at-after_entry layers scene (Remove index) other lawful h = creations_at-with_body scene index other _ ∙ omega arith
creations_at-after_entry layers scene (Move index bounds) other lawful h = creations_at-with_body scene index other _ ∙ omega arith
creations_at-after_entry layers scene (SetUser index user) other lawful h = creations_at-with_body scene index other _ ∙ omega arith

pub creations_at-scene_from : (layers : ℕ) (history : List Made) (scene : Scene) (other : ℕ) → IsLawfulFrom layers scene history → IsConsistent layers scene
    → creations_at (scene_from scene history) other ≡ creations_at scene other + creations_in other history
creations_at-scene_from layers [] scene other lawful h = omega arith
creations_at-scene_from layers (made ∷ later) scene other lawful h =
    creations_at-scene_from layers later (after_entry scene made.entry) other lawful.1 (IsConsistent-after_entry layers scene made.entry lawful.0 h)
    ∙ ap (λ n. n + creations_in other later) (creations_at-after_entry layers scene made.entry other lawful.0 h)
    ∙ add_assoc (creations_at scene other) (cond (creates other made.entry) 1 0) (creations_in other later)
    ∙ ap (λ n. creations_at scene other + n) (sym (sum_by-cons (λ m. cond (creates other m.entry) 1 0) made later))

pub creations_at-scene_after : (layers bodies : ℕ) (history : List Made) (index : ℕ) → IsLawfulHistory layers bodies history
    → creations_at (scene_after bodies history) index ≡ creations_in index history
creations_at-scene_after layers bodies history index lawful =
    creations_at-scene_from layers history (empty_scene bodies) index lawful (IsConsistent-empty layers bodies) ∙ omega arith

-- the body that is live is the latest, so its id says how often one was created there
latest_id : (layers index creations : ℕ) (o : Option Record) → IfSome o (IsLatest layers creations) → IfSome (option_map (view_of index) o) (λ v. v.id ≡ id_of index creations)
latest_id layers index creations None h = tt
latest_id layers index creations (Some r) h = ap (id_of index) h.latest

pub id-view_at : (layers bodies : ℕ) (history : List Made) (index : ℕ) → IsLawfulHistory layers bodies history
    → IfSome (view_at (scene_after bodies history) index) (λ v. v.id ≡ id_of index (creations_in index history))
id-view_at layers bodies history index lawful =
    let latest = (IsConsistent-scene_after layers bodies history lawful).latest index in
    rw (← creations_at-scene_after layers bodies history index lawful) (latest_id layers index _ _ latest)
