-- The bodies agree after a step that makes an entry and changes one body: what is left to show of its words.
use Rattle.std.proofs.Common.{◌≡◌, ◌≢◌, ℕ, ◌<◌, Bool, true, false, List, [], ◌∷◌, ◌++◌, Option, Some, is_some, IsNone, IsSomeAnd, refl, ap, sym, ◌∙◌, subst, inl, inr}
use Rattle.std.proofs.lemmas.Bool.{false≢true, cases_eq}
use Rattle.std.proofs.lemmas.List.Elements.{filter_map-append}
use Rattle.scene_model.specs.declared.body_view.Phase.TheVariants.{Held}
use Rattle.scene_model.specs.declared.entry.Entry.{Entry}
use Rattle.scene_model.specs.declared.entry.Made.{Made}
use Rattle.scene_model.specs.Scene.{Record, Scene, Place, empty_scene, place_at, record_at}
use Rattle.scene_model.specs.Step.{HasBody, IsLawful, after_entry}
use Rattle.scene_model.specs.History.{IsLawfulHistory, scene_after}
use Rattle.scene_model.proofs.Histories.{scene_from-append, IsLawfulFrom-append}
use Rattle.word_map.specs.declared.name.Name.{Name}
use Rattle.word_map.specs.declared.name.Name.TheVariants.{SlotHead, SlotNext, State, Phase, Layer, User, BoxWord, Slot}
use Rattle.core_state.specs.Log.{history, made_by}
use Rattle.core_state.specs.View.{IsPass}
use Rattle.core_state.specs.Core.{Core, IsViewAt}
use Rattle.core_state.specs.Kind.{Kind, Step, gained_by, log_after, view_after, after_step}
use Rattle.core_state.specs.Operation.{store}
use Rattle.core_state.specs.Scope.{Sight, sight, scene_in}
use Rattle.core_state.specs.Encoding.{phase_out}
use Rattle.core_state.specs.Bodies.{state_word, IsChain, IsBetweenBoxes}
use Rattle.core_state.specs.BodiesAgree.{BodiesAgree, HasWordsOf, body_scope, IsUnderStripe}
use Rattle.core_guard.proofs.Chains.{chain-kept}
use Rattle.core_guard.proofs.BodiesStep.{WordsPart, ListPart, together, unstored, new_sight, bodies-agree, words-kept, stripe-part, KeepsHeld, batch-part}
use Rattle.core_state.proofs.Beginning.{record_body}

-- ---- a step that makes an entry

-- the history goes on with it
pub history-made : (kind : Kind) (core : Core) (step : Step) (entry : Entry) → kind.operation ≡ store → kind.entry step.view step.name step.first ≡ Some entry
    → history (log_after kind core step) ≡ history core.log ++ record { pass = step.number; entry = entry } ∷ []
history-made kind core step entry stores made =
    filter_map-append made_by core.log (gained_by kind core step)
    ∙ ap (λ (l : List Made). history core.log ++ l) (rw stores (rw made refl))

-- so the scene is the one after the entry
pub scene-made : (bodies number : ℕ) (past : List Made) (entry : Entry) → scene_after bodies (past ++ record { pass = number; entry = entry } ∷ []) ≡ after_entry (scene_after bodies past) entry
scene-made bodies number past entry = scene_from-append (empty_scene bodies) past (record { pass = number; entry = entry } ∷ [])

-- and the history stays lawful
pub lawful-made : (layers bodies number : ℕ) (past : List Made) (entry : Entry) → IsLawfulHistory layers bodies past → IsLawful layers (scene_after bodies past) entry
    → IsLawfulHistory layers bodies (past ++ record { pass = number; entry = entry } ∷ [])
lawful-made layers bodies number past entry was new = IsLawfulFrom-append layers (empty_scene bodies) past (record { pass = number; entry = entry } ∷ []) was (new, tt)

-- ---- a step that changes one body

-- the index of a state or a user word
abbrev pub body_index : Name → ℕ
body_index (State i) = i
body_index (User i) = i
body_index _ = 0

-- the words that no such step stores
abbrev pub is_other : Name → Bool
is_other (State i) = false
is_other (User i) = false
is_other _ = true

module _ (kind : Kind) (core : Core) (step : Step) (at : IsViewAt core step.seat step.view) (pass : IsPass step.view step.number) (h : BodiesAgree core)
    (entry : Entry) (index : ℕ) (of_body : is_other step.name ≡ false) (named : body_index step.name ≡ index)
    (places : (i : ℕ) → i ≢ index → place_at (after_entry (scene_in (sight body_scope core)) entry) i ≡ place_at (scene_in (sight body_scope core)) i) where
  abbrev pub past_after : List Made
  past_after = history core.log ++ record { pass = step.number; entry = entry } ∷ []

  abbrev pub one_sight : Sight
  one_sight = new_sight kind core step at pass past_after

  pub one-scene : scene_in one_sight ≡ after_entry (scene_in (sight body_scope core)) entry
  one-scene = scene-made core.config.bodies step.number (history core.log) entry

  pub other_place : (i : ℕ) → i ≢ index → place_at (scene_in one_sight) i ≡ place_at (scene_in (sight body_scope core)) i
  other_place i apart = ap (λ (scene : Scene). place_at scene i) one-scene ∙ places i apart

  other_record : (i : ℕ) → i ≢ index → record_at (scene_in one_sight) i ≡ record_at (scene_in (sight body_scope core)) i
  other_record i apart = ap (λ (p : Place). p.body) (other_place i apart)

  pub other_word : (name : Name) → is_other name ≡ true → one_sight.word name ≡ (sight body_scope core).word name
  other_word name other = unstored kind core step at pass name (λ same. false≢true (sym of_body ∙ (ap is_other (sym same) ∙ other)))

  other_body : (name : Name) → body_index name ≢ index → one_sight.word name ≡ (sight body_scope core).word name
  other_body name apart = unstored kind core step at pass name (λ same. apart (ap body_index same ∙ named))

  -- what is left to show is what the words of that body say
  pub one-words : IsLawful core.config.layers (scene_in (sight body_scope core)) entry → ((i : ℕ) → IsBetweenBoxes step.view i → IsBetweenBoxes (view_after kind core step) i)
      → (index < core.config.bodies → one_sight.word (State index) ≡ state_word (place_at (scene_in one_sight) index))
      → ((r : Record) → record_at (scene_in one_sight) index ≡ Some r → HasWordsOf one_sight index r)
      → (IsNone (record_at (scene_in one_sight) index) → one_sight.word (Phase index) ≡ phase_out) → WordsPart one_sight
  one-words lawful boxes state live dead = record {
    lawful = lawful-made core.config.layers core.config.bodies step.number (history core.log) entry h.lawful lawful;
    state = λ i below.
        elim (cases_eq i index) [
          | inl same ↦ subst (λ (k : ℕ). one_sight.word (State k) ≡ state_word (place_at (scene_in one_sight) k)) (sym same) (state (subst (λ (k : ℕ). k < core.config.bodies) same below))
          | inr apart ↦ other_body (State i) apart ∙ (h.state i below ∙ ap state_word (sym (other_place i apart)))
        ];
    live = λ i r e.
        elim (cases_eq i index) [
          | inl same ↦ subst (λ (k : ℕ). HasWordsOf one_sight k r) (sym same) (live r (subst (λ (k : ℕ). record_at (scene_in one_sight) k ≡ Some r) same e))
          | inr apart ↦
              words-kept kind core step at pass past_after i r (boxes i) (other_word (Layer i) refl) (other_body (User i) apart) (λ k. other_word (BoxWord i k) refl) (other_word (Phase i) refl)
              (λ l t. other_word (Slot l t) refl) (h.live i r (sym (other_record i apart) ∙ e))
        ];
    dead = λ i none.
        elim (cases_eq i index) [
          | inl same ↦ subst (λ (k : ℕ). one_sight.word (Phase k) ≡ phase_out) (sym same) (dead (subst (λ (k : ℕ). IsNone (record_at (scene_in one_sight) k)) same none))
          | inr apart ↦ other_word (Phase i) refl ∙ h.dead i (ap is_some (sym (other_record i apart)) ∙ none)
        ];
  }

  -- and whether it is held
  pub one-held : ((r : Record) → record_at (scene_in (sight body_scope core)) index ≡ Some r → r.phase ≡ Held → HasBody (scene_in one_sight) index (λ q. (q.phase ≡ Held) × (q.layer ≡ r.layer)))
      → (HasBody (scene_in one_sight) index (λ q. q.phase ≡ Held) → HasBody (scene_in (sight body_scope core)) index (λ r. r.phase ≡ Held)) → KeepsHeld kind core step at pass past_after
  one-held forth back = record {
    forth = λ i r e held.
        elim (cases_eq i index) [
          | inl same ↦
              subst (λ (k : ℕ). HasBody (scene_in one_sight) k (λ q. (q.phase ≡ Held) × (q.layer ≡ r.layer))) (sym same)
              (forth r (subst (λ (k : ℕ). record_at (scene_in (sight body_scope core)) k ≡ Some r) same e) held)
          | inr apart ↦ record_body (record_at (scene_in one_sight) i) (λ q. (q.phase ≡ Held) × (q.layer ≡ r.layer)) r (other_record i apart ∙ e) (held, refl)
        ];
    boxes = λ i r e held k. other_word (BoxWord i k) refl;
    back = λ i held.
        elim (cases_eq i index) [
          | inl same ↦
              subst (λ (k : ℕ). HasBody (scene_in (sight body_scope core)) k (λ r. r.phase ≡ Held)) (sym same)
              (back (subst (λ (k : ℕ). HasBody (scene_in one_sight) k (λ q. q.phase ≡ Held)) same held))
          | inr apart ↦ subst (λ (o : Option Record). IsSomeAnd o (λ r. r.phase ≡ Held)) (other_record i apart) held
        ];
  }

  -- the links are as they were
  pub one-linked : IsChain (λ i. one_sight.word (SlotNext i)) (one_sight.word SlotHead) h.chain
  one-linked =
      let s = sight body_scope core in
      rw (other_word SlotHead refl) (chain-kept (λ i. s.word (SlotNext i)) (λ i. one_sight.word (SlotNext i)) (s.word SlotHead) h.chain (λ j c. other_word (SlotNext j) refl) h.linked)

  pub one-agree : kind.operation ≡ store → kind.entry step.view step.name step.first ≡ Some entry → (view_after kind core step).batches ≡ step.view.batches
      → WordsPart one_sight → KeepsHeld kind core step at pass past_after → ListPart one_sight
      → (IsUnderStripe (sight body_scope core) step.view step.view.call.task → IsUnderStripe one_sight (view_after kind core step) (view_after kind core step).call.task) → BodiesAgree (after_step kind core step)
  one-agree stores made batches words held list stripes =
      bodies-agree kind core step at pass past_after (history-made kind core step entry stores made)
      (together one_sight words list (stripe-part kind core step at pass past_after h stripes)
      (batch-part kind core step at pass past_after h batches held (λ i. other_word (Phase i) refl) (λ l t. other_word (Slot l t) refl)))
