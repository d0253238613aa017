-- The bodies agree after a step that stores the phase of a body, with an entry that says so: what is left is batches.
use Rattle.std.proofs.Common.{◌≡◌, ◌≢◌, ℕ, ◌-◌, ◌+◌, ◌<◌, List, [], ◌∷◌, ◌++◌, Option, Some, is_some, IsSomeAnd, Bool, true, false, refl, ap, sym, ◌∙◌, subst, inl, inr}
use Rattle.std.proofs.lemmas.Bool.{false≢true, cases_eq}
use Rattle.std.proofs.lemmas.Option.{same_Some}
use Rattle.scene_model.specs.declared.body_view.Phase.{Phase as BodyPhase}
use Rattle.scene_model.specs.declared.body_view.Phase.TheVariants.{Held}
use Rattle.scene_model.specs.declared.entry.Entry.{Entry}
use Rattle.scene_model.specs.declared.entry.Made.{Made}
use Rattle.scene_model.specs.Scene.{Record, Scene, Place, place_at, record_at}
use Rattle.scene_model.specs.Step.{HasBody, IsLawful, after_entry, with_phase, in_phase}
use Rattle.word_map.specs.declared.name.Name.{Name}
use Rattle.word_map.specs.declared.name.Name.TheVariants.{SlotHead, SlotNext, State, Phase, Layer, User, BoxWord, Slot}
use Rattle.core_state.specs.declared.view.Marked.{Marked}
use Rattle.core_state.specs.declared.view.Batch.{Batch}
use Rattle.core_state.specs.Log.{word, history}
use Rattle.core_state.specs.View.{IsPass}
use Rattle.core_state.specs.Core.{Core, word_of, IsViewAt}
use Rattle.core_state.specs.Operation.{store}
use Rattle.core_state.specs.Kind.{Kind, Step, left_by, log_after, view_after, after_step}
use Rattle.core_state.specs.Scope.{Sight, sight, scene_in}
use Rattle.core_state.specs.Bodies.{state_word, phase_by}
use Rattle.core_state.specs.BodiesAgree.{BodiesAgree, body_scope, HasWordsOf, IsHeldFor}
use Rattle.core_state.proofs.Steps.{word-step}
use Rattle.core_guard.proofs.Changed.{changed-other, changed-here, changed-state, changed-free}
use Rattle.core_guard.proofs.Scenes.{record_live}
use Rattle.core_guard.proofs.OneBody.{history-made, lawful-made}
use Rattle.core_guard.proofs.BodiesStep.{new_sight, unstored, bodies-agree, WordsPart, together, whole-back, words-kept, BatchPart}
use Rattle.core_guard.proofs.CallsAgree.{CallGoesOn, between, list-goes, stripe-goes}

abbrev pub phase_index : Name → ℕ
phase_index (Phase i) = i
phase_index _ = 0

abbrev pub is_phase : Name → Bool
is_phase (Phase i) = true
is_phase _ = false

module _ (kind : Kind) (core : Core) (step : Step) (at : IsViewAt core step.seat step.view) (pass : IsPass step.view step.number) (h : BodiesAgree core)
    (index : ℕ) (names : step.name ≡ Phase index) (entry : Entry) (target : BodyPhase) (alters : (scene : Scene) → after_entry scene entry ≡ with_phase target scene index)
    (r : Record) (live : record_at (scene_in (sight body_scope core)) index ≡ Some r) where
  abbrev pub phase_past : List Made
  phase_past = history core.log ++ record { pass = step.number; entry = entry } ∷ []

  abbrev Old : Sight
  Old = sight body_scope core

  abbrev pub phase_sight : Sight
  phase_sight = new_sight kind core step at pass phase_past

  -- other words stay
  pub other_word : (name : Name) → is_phase name ≡ false → phase_sight.word name ≡ Old.word name
  other_word name none = unstored kind core step at pass name (λ same. false≢true (sym none ∙ ap is_phase (same ∙ names)))

  pub other_phase : (i : ℕ) → i ≢ index → phase_sight.word (Phase i) ≡ Old.word (Phase i)
  other_phase i apart = unstored kind core step at pass (Phase i) (λ same. apart (ap phase_index (same ∙ names)))

  -- and so do other bodies
  pub place_other : (i : ℕ) → i ≢ index → place_at (scene_in phase_sight) i ≡ place_at (scene_in Old) i
  place_other = changed-other core.config.bodies step.number (history core.log) entry (in_phase target) index alters

  pub record_other : (i : ℕ) → i ≢ index → record_at (scene_in phase_sight) i ≡ record_at (scene_in Old) i
  record_other i apart = ap (λ (p : Place). p.body) (place_other i apart)

  -- the body has its new phase
  pub record_here : record_at (scene_in phase_sight) index ≡ Some (in_phase target r)
  record_here = changed-here core.config.bodies step.number (history core.log) entry (in_phase target) index alters r live

  state_here : (i : ℕ) → state_word (place_at (scene_in phase_sight) i) ≡ state_word (place_at (scene_in Old) i)
  state_here i =
      elim (cases_eq i index) [
        | inl same ↦
            subst (λ (k : ℕ). state_word (place_at (scene_in phase_sight) k) ≡ state_word (place_at (scene_in Old) k)) (sym same)
            (changed-state core.config.bodies step.number (history core.log) entry (in_phase target) index alters)
        | inr apart ↦ ap state_word (place_other i apart)
      ]

  -- a mark of another body stays what it was
  pub held-other : (b : Batch) (m : Marked) → m.index ≢ index → IsHeldFor Old b m → IsHeldFor phase_sight b m
  held-other b m apart was = record {
    held = subst (λ (o : Option Record). IsSomeAnd o (λ q. (q.phase ≡ Held) × (q.layer ≡ b.layer))) (sym (record_other m.index apart)) was.held;
    phase = other_phase m.index apart ∙ was.phase;
    bounds = λ k below. other_word (BoxWord m.index k) refl ∙ was.bounds k below;
  }

  -- and so is another body that is held
  pub held-was : (i : ℕ) → i ≢ index → HasBody (scene_in phase_sight) i (λ q. q.phase ≡ Held) → HasBody (scene_in Old) i (λ q. q.phase ≡ Held)
  held-was i apart h = subst (λ (o : Option Record). IsSomeAnd o (λ q. q.phase ≡ Held)) (record_other i apart) h

  module _ (left : left_by kind core step ≡ step.first) where
    pub phase_here : phase_sight.word (Phase index) ≡ step.first
    phase_here = ap (λ (n : Name). word core.config (log_after kind core step) n) (sym names) ∙ (word-step kind core step ∙ left)

    module _ (goes : CallGoesOn Old step.view (view_after kind core step)) (locks : (view_after kind core step).locks ≡ step.view.locks)
        (says : phase_by step.first (word_of core (Slot r.layer (step.first - 2))) ≡ Some target) (fits : step.first < 2 + core.config.slots) where
      words_here : HasWordsOf phase_sight index (in_phase target r)
      words_here =
          let was = h.live index r live in
          record {
            layer = other_word (Layer index) refl ∙ was.layer;
            user = other_word (User index) refl ∙ was.user;
            user_fits = was.user_fits;
            bounds = λ whole k below. other_word (BoxWord index k) refl ∙ was.bounds (whole-back kind core step at pass phase_past index (between kind core step at pass h goes locks index) whole) k below;
            phase = (λ j. phase_by (phase_here j) (other_word (Slot r.layer (phase_here j - 2)) refl j)) ∙ says;
            slot = subst (λ (n : ℕ). n < 2 + core.config.slots) (sym phase_here) fits;
          }

      words : IsLawful core.config.layers (scene_in Old) entry → WordsPart phase_sight
      words lawful = record {
        lawful = lawful-made core.config.layers core.config.bodies step.number (history core.log) entry h.lawful lawful;
        state = λ i below. other_word (State i) refl ∙ (h.state i below ∙ sym (state_here i));
        live = λ i q e.
            elim (cases_eq i index) [
              | inl same ↦
                  subst (λ (k : ℕ). HasWordsOf phase_sight k q) (sym same)
                  (subst (HasWordsOf phase_sight index) (same_Some (in_phase target r) q (sym record_here ∙ subst (λ (k : ℕ). record_at (scene_in phase_sight) k ≡ Some q) same e)) words_here)
              | inr apart ↦
                  words-kept kind core step at pass phase_past i q (between kind core step at pass h goes locks i) (other_word (Layer i) refl) (other_word (User i) refl) (λ k. other_word (BoxWord i k) refl) (other_phase i apart)
                  (λ l t. other_word (Slot l t) refl) (h.live i q (sym (record_other i apart) ∙ e))
            ];
        dead = λ i none.
            elim (cases_eq i index) [
              | inl same ↦ absurd (false≢true (sym none ∙ subst (λ (k : ℕ). is_some (record_at (scene_in phase_sight) k) ≡ true) (sym same) (record_live (record_at (scene_in phase_sight) index) (in_phase target r) record_here)))
              | inr apart ↦ other_phase i apart ∙ h.dead i (ap is_some (sym (record_other i apart)) ∙ none)
            ];
      }

      pub phase-agree : kind.operation ≡ store → kind.entry step.view step.name step.first ≡ Some entry → IsLawful core.config.layers (scene_in Old) entry → BatchPart phase_sight → BodiesAgree (after_step kind core step)
      phase-agree stores made lawful batches =
          bodies-agree kind core step at pass phase_past (history-made kind core step entry stores made)
          (together phase_sight (words lawful)
          (list-goes kind core step at pass h goes locks phase_past (other_word SlotHead refl) (λ i. other_word (SlotNext i) refl) (changed-free core.config.bodies step.number (history core.log) entry (in_phase target) index alters))
          (stripe-goes kind core step at pass h goes locks phase_past) batches)
