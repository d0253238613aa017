-- The bodies agree after a step on a word of a body that is live and that no batch holds, before and after: what is left to
-- show is what its own words say.
use Rattle.std.proofs.Common.{◌≡◌, ◌≢◌, ℕ, List, Option, Some, Bool, true, false, refl, ap, sym, ◌∙◌, subst, inl, inr, ◌<◌, ◌+◌, ◌-◌, ◌^◌}
use Rattle.std.specs.Prelude.{IsNone, IsSomeAnd, slice_index}
use Rattle.std.proofs.lemmas.Bool.{cases_eq, false≢true}
use Rattle.std.proofs.lemmas.Option.{none-some, same_Some}
use Rattle.scene_model.specs.declared.body_view.Phase.TheVariants.{Held}
use Rattle.scene_model.specs.declared.entry.Made.{Made}
use Rattle.scene_model.specs.Scene.{Record, Place, place_at, record_at}
use Rattle.scene_model.specs.Step.{HasBody}
use Rattle.word_map.specs.declared.name.Name.{Name}
use Rattle.word_map.specs.declared.name.Name.TheVariants.{State, Phase, Layer, User, BoxWord, Slot, SlotHead, SlotNext}
use Rattle.core_state.specs.declared.view.Marked.{Marked}
use Rattle.core_state.specs.declared.view.Batch.{Batch}
use Rattle.core_state.specs.declared.view.Call.{Call}
use Rattle.core_state.specs.declared.view.View.{View}
use Rattle.core_state.specs.Log.{history}
use Rattle.core_state.specs.Core.{Core, word_of, scene_of}
use Rattle.core_state.specs.Kind.{Kind, Step, log_after, after_step}
use Rattle.core_state.specs.Scope.{Sight, sight, scene_in}
use Rattle.core_state.specs.Bodies.{state_word, phase_by, IsBetweenBoxes, HasWholeBox}
use Rattle.core_state.specs.BodiesAgree.{BodiesAgree, body_scope, HasWordsOf, IsHeldFor}
use Rattle.core_state.proofs.Beginning.{record_body}
use Rattle.core_state.proofs.Steps.{word-step-other}
use Rattle.fixed_box.specs.FixBox.{words_of}
use Rattle.core_guard.proofs.BodiesStep.{new_sight, unstored, bodies-agree, together, words-kept, list-left, unlisted, stripe-part, batch-left}
use Rattle.core_guard.proofs.Leaving.{Acts, After, Last, some_and_map, held-once, body_of}
use Rattle.core_guard.proofs.OnBody.{OnBody, on-moves, on-lists, on-stripe, on-after, stripe-after}
use Rattle.core_guard.proofs.Recalled.{recalled}
use Rattle.core_guard.proofs.Scenes.{none_here}
use Rattle.core_guard.proofs.Changed.{Changes}

module _ (kind : Kind) (core : Core) (step : Step) (a : Acts core step) (index : ℕ) (call : Call) (o : OnBody kind core step index call) (of_body : body_of step.name ≡ Some index) (past : List Made) where
  abbrev pub Old : Sight
  Old = sight body_scope core

  abbrev pub New : Sight
  New = new_sight kind core step a.at a.pass past

  -- what is to be shown: what the history says then, and what the words of the body do
  pub record AgreesOn (r : Record) : Type 0 where
    pub changes : Changes core index past r
    pub unheld : ¬ HasBody (scene_of core) index (λ q. q.phase ≡ Held)
    pub unheld_now : r.phase ≢ Held
    pub state : New.word (State index) ≡ Old.word (State index)
    pub words : HasWordsOf New index r

  module _ (r : Record) (c : AgreesOn r) where
    other : (name : Name) → body_of name ≢ Some index → New.word name ≡ Old.word name
    other name apart = unstored kind core step a.at a.pass name (λ e. apart (ap body_of e ∙ of_body))

    off : (i : ℕ) → i ≢ index → (name : Name) → body_of name ≡ Some i → New.word name ≡ Old.word name
    off i apart name of = other name (λ e. apart (same_Some i index (sym of ∙ e)))

    same : (i : ℕ) → i ≢ index → record_at (scene_in New) i ≡ record_at (scene_in Old) i
    same i apart = ap (λ (p : Place). p.body) (c.changes.others i apart)

    -- a body that is held is another one
    held-was : (m : ℕ) → HasBody (scene_in Old) m (λ q. q.phase ≡ Held) → m ≢ index
    held-was m held one = c.unheld (subst (λ (j : ℕ). HasBody (scene_in Old) j (λ q. q.phase ≡ Held)) one held)

    held-is : (m : ℕ) → HasBody (scene_in New) m (λ q. q.phase ≡ Held) → m ≢ index
    held-is m held one =
        held-once (record_at (scene_in New) index) (record_body (record_at (scene_in New) index) (λ q. q.phase ≢ Held) r c.changes.now c.unheld_now)
        (subst (λ (j : ℕ). HasBody (scene_in New) j (λ q. q.phase ≡ Held)) one held)

    marks : (batch : Batch) (m : Marked) → IsHeldFor Old batch m → IsHeldFor New batch m
    marks batch m was =
        let apart = held-was m.index (some_and_map (record_at (scene_in Old) m.index) _ _ (λ q t. t.0) was.held) in
        record {
          held = subst (λ (x : Option Record). IsSomeAnd x (λ q. (q.phase ≡ Held) × (q.layer ≡ batch.layer))) (sym (same m.index apart)) was.held;
          phase = off m.index apart (Phase m.index) refl ∙ was.phase;
          bounds = λ k below. off m.index apart (BoxWord m.index k) refl ∙ was.bounds k below;
        }

    pub BodiesAgree-on : history (log_after kind core step) ≡ past → BodiesAgree (after_step kind core step)
    BodiesAgree-on made =
        let h = a.laws.bodies in
        let task = on-after kind core step index call a o in
        let boxes : (i : ℕ) → i ≢ index → IsBetweenBoxes step.view i → IsBetweenBoxes (Last kind core step) i = λ i apart between. absurd (apart (on-moves index i step.view.call.task o.before between.0)) in
        bodies-agree kind core step a.at a.pass past made
        (together New
        (record {
          lawful = c.changes.lawful;
          state = λ i below.
              elim (cases_eq i index) [
                | inl one ↦ subst (λ (j : ℕ). New.word (State j) ≡ state_word (place_at (scene_in New) j)) (sym one) (c.state ∙ (h.state index (subst (λ (j : ℕ). j < core.config.bodies) one below) ∙ sym c.changes.state))
                | inr apart ↦ off i apart (State i) refl ∙ (h.state i below ∙ ap state_word (sym (c.changes.others i apart)))
              ];
          live = λ i q is.
              elim (cases_eq i index) [
                | inl one ↦ subst (λ (j : ℕ). HasWordsOf New j q) (sym one) (subst (HasWordsOf New index) (same_Some r q (sym c.changes.now ∙ subst (λ (j : ℕ). record_at (scene_in New) j ≡ Some q) one is)) c.words)
                | inr apart ↦
                    words-kept kind core step a.at a.pass past i q (boxes i apart) (off i apart (Layer i) refl) (off i apart (User i) refl) (λ k. off i apart (BoxWord i k) refl) (off i apart (Phase i) refl)
                    (λ l t. other (Slot l t) (none-some index)) (h.live i q (sym (same i apart) ∙ is))
              ];
          dead = λ i none.
              elim (cases_eq i index) [
                | inl one ↦ absurd (none_here (record_at (scene_in New) index) (λ q. Unit {0}) (subst (λ (j : ℕ). IsNone (record_at (scene_in New) j)) one none) (record_body (record_at (scene_in New) index) (λ q. Unit {0}) r c.changes.now tt))
                | inr apart ↦ off i apart (Phase i) refl ∙ h.dead i (subst IsNone (same i apart) none)
              ];
        })
        (list-left kind core step a.at a.pass past h (λ was. unlisted New (Last kind core step) (Last kind core step).call.task h.chain (on-lists index (Last kind core step).call.task task))
        (λ none. on-lists index step.view.call.task o.before) (other SlotHead (none-some index)) (λ i. other (SlotNext i) (none-some index)) c.changes.free)
        (stripe-part kind core step a.at a.pass past h (λ was. on-stripe New (Last kind core step) index (Last kind core step).call.task task (stripe-after kind core step index call a o)))
        (batch-left kind core step a.at a.pass past h (ap (λ (v : View). v.batches) (recalled kind core step call o.recalls)) (λ l t. other (Slot l t) (none-some index)) marks
        (λ i held. subst (λ (x : Option Record). IsSomeAnd x (λ q. q.phase ≡ Held)) (same i (held-is i held)) held)))

-- ---- a step on the phase word or a box word of the body

abbrev pub is_turned : Name → Bool
is_turned (Phase i) = true
is_turned (BoxWord i k) = true
is_turned _ = false

module _ (kind : Kind) (core : Core) (step : Step) (a : Acts core step) (index : ℕ) (call : Call) (o : OnBody kind core step index call) (past : List Made) where
  -- what is to be shown: the body is of the layer that it was and has the user number that it had, and its phase and its box
  -- words say what the history says
  pub record Turned (q r : Record) : Type 0 where
    pub of_body : body_of step.name ≡ Some index
    pub turned : is_turned step.name ≡ true
    pub was : record_at (scene_of core) index ≡ Some q
    pub changes : Changes core index past r
    pub made : history (log_after kind core step) ≡ past
    pub unheld : q.phase ≢ Held
    pub unheld_now : r.phase ≢ Held
    pub layer : q.layer ≡ r.layer
    pub user : q.user ≡ r.user
    pub bounds : HasWholeBox (new_sight kind core step a.at a.pass past) index → (k : ℕ) → k < 6 → word_of (After kind core step) (BoxWord index k) ≡ slice_index (words_of r.bounds) k
    pub phase : phase_by (word_of (After kind core step) (Phase index)) (word_of core (Slot r.layer (word_of (After kind core step) (Phase index) - 2))) ≡ Some r.phase
    pub fits : word_of (After kind core step) (Phase index) < 2 + core.config.slots

  pub BodiesAgree-turned : (q r : Record) → Turned q r → BodiesAgree (after_step kind core step)
  BodiesAgree-turned q r t =
      let was = a.laws.bodies.live index q t.was in
      BodiesAgree-on kind core step a index call o t.of_body past r
      (record {
        changes = t.changes;
        unheld = held-once (record_at (scene_of core) index) (record_body (record_at (scene_of core) index) (λ x. x.phase ≢ Held) q t.was t.unheld);
        unheld_now = t.unheld_now;
        state = kept (State index) refl;
        words = record {
          layer = kept (Layer index) refl ∙ (was.layer ∙ t.layer);
          user = kept (User index) refl ∙ (was.user ∙ t.user);
          user_fits = subst (λ (n : ℕ). n < 2 ^ 32) t.user was.user_fits;
          bounds = t.bounds;
          phase = ap (phase_by (word_of (After kind core step) (Phase index))) (kept (Slot r.layer (word_of (After kind core step) (Phase index) - 2)) refl) ∙ t.phase;
          slot = t.fits;
        };
      })
      t.made
    where
      kept : (name : Name) → is_turned name ≡ false → word_of (After kind core step) name ≡ word_of core name
      kept name other = word-step-other kind core step name (λ e. false≢true (sym other ∙ (ap is_turned e ∙ t.turned)))
