-- What the law of bodies says of the call of a pass that begins a call on a body in a tree, goes on with it or ends it: it
-- changes no list and no box. And the law after a step on a word that it does not read.
use Rattle.std.proofs.Common.{◌≡◌, ℕ, List, None, true, false, refl, ap, sym, ◌∙◌, subst}
use Rattle.std.proofs.lemmas.Bool.{false≢true}
use Rattle.scene_model.specs.declared.body_view.Phase.TheVariants.{Held}
use Rattle.scene_model.specs.declared.entry.Made.{Made}
use Rattle.scene_model.specs.Scene.{record_at}
use Rattle.word_map.specs.declared.name.Name.{Name}
use Rattle.word_map.specs.declared.name.Name.TheVariants.{SlotHead, SlotNext, State, Phase, Layer, User, BoxWord, Slot}
use Rattle.word_map.specs.Names.{index_lock, stripe_of}
use Rattle.core_state.specs.declared.view.Mode.TheVariants.{Write}
use Rattle.core_state.specs.declared.view.Call.{Call}
use Rattle.core_state.specs.declared.view.View.{View}
use Rattle.core_state.specs.Log.{history}
use Rattle.core_state.specs.View.{IsPass, Holds}
use Rattle.core_state.specs.Core.{Core, IsViewAt}
use Rattle.core_state.specs.Kind.{Kind, Step, view_after, after_step}
use Rattle.core_state.specs.Scope.{Sight, sight, scene_in}
use Rattle.core_state.specs.Bodies.{free_indexes, IsBetweenBoxes, MovesBody, has_box_word}
use Rattle.core_state.specs.BodiesAgree.{BodiesAgree, body_scope, ListsFree, ChangesList}
use Rattle.core_state.proofs.Beginning.{record_body}
use Rattle.core_state.proofs.Frames.{step-history}
use Rattle.core_guard.proofs.OnBody.{IsOn, on-moves, on-lists, on-stripe, OnBody, on-after, stripe-after}
use Rattle.core_guard.proofs.BodiesStep.{WordsPart, ListPart, StripePart, together, same-locks, unlisted, unstored, new_sight, bodies-agree, words-kept, list-moved, list-left, stripe-part, stripe-stays, KeepsHeld, batch-part}
use Rattle.core_guard.proofs.Recalled.{recalled, call-is}
use Rattle.core_guard.proofs.Leaving.{Acts}

-- the call is as before, or one on a body whose stripe the pass has, before and afterwards
pub data CallGoesOn (s : Sight) (v w : View) : Type 0 where
  same_call : w.call ≡ v.call → CallGoesOn s v w
  on_body : (index : ℕ) → IsOn index v.call.task → IsOn index w.call.task → Holds w (stripe_of s.config index) Write → (IsBetweenBoxes v index → IsBetweenBoxes w index) → CallGoesOn s v w

module _ (kind : Kind) (core : Core) (step : Step) (at : IsViewAt core step.seat step.view) (pass : IsPass step.view step.number) (h : BodiesAgree core)
    (goes : CallGoesOn (sight body_scope core) step.view (view_after kind core step)) (locks : (view_after kind core step).locks ≡ step.view.locks) where
  abbrev Old : Sight
  Old = sight body_scope core

  abbrev Last : View
  Last = view_after kind core step

  pub between : (i : ℕ) → IsBetweenBoxes step.view i → IsBetweenBoxes Last i
  between i was = go goes
    where
      go : CallGoesOn Old step.view Last → IsBetweenBoxes Last i
      go (same_call same) = subst (λ (c : Call). IsBetweenBoxes (record step.view { call = c }) i) (sym same) was
      go (on_body index before after stripe boxes) =
          let one = on-moves index i step.view.call.task before was.0 in
          subst (IsBetweenBoxes Last) (sym one) (boxes (subst (IsBetweenBoxes step.view) one was))

  module _ (past : List Made) where
    abbrev New : Sight
    New = new_sight kind core step at pass past

    pub list-goes : New.word SlotHead ≡ Old.word SlotHead → ((i : ℕ) → New.word (SlotNext i) ≡ Old.word (SlotNext i)) → free_indexes (scene_in New) ≡ free_indexes (scene_in Old) → ListPart New
    list-goes head next same = list-left kind core step at pass past h (own goes) (quiet goes) head next same
      where
        own : CallGoesOn Old step.view Last → ListsFree Old step.view step.view.call.task h.chain → ListsFree New Last Last.call.task h.chain
        own (same_call e) old =
            list-moved kind core step at pass past step.view Last Last.call.task h.chain (same-locks step.view Last locks (index_lock core.config)) same
            (subst (λ (c : Call). ListsFree Old step.view c.task h.chain) (sym e) old)
        own (on_body index before after stripe boxes) old = unlisted New Last Last.call.task h.chain (on-lists index Last.call.task after)

        quiet : CallGoesOn Old step.view Last → ¬ ChangesList Last.call.task → ¬ ChangesList step.view.call.task
        quiet (same_call e) none = subst (λ (c : Call). ¬ ChangesList c.task) e none
        quiet (on_body index before after stripe boxes) none = on-lists index step.view.call.task before

    pub stripe-goes : StripePart New
    stripe-goes = go goes
      where
        go : CallGoesOn Old step.view Last → StripePart New
        go (same_call same) = stripe-stays kind core step at pass past h same locks
        go (on_body index before after stripe boxes) = stripe-part kind core step at pass past h (λ old. on-stripe New Last index Last.call.task after stripe)

  -- ---- a step on a word that the law does not read

  pub BodiesAgree-goes : body_scope.names step.name ≡ false → ((value : ℕ) → kind.entry step.view step.name value ≡ None) → Last.batches ≡ step.view.batches → BodiesAgree (after_step kind core step)
  BodiesAgree-goes hidden plain batches =
      bodies-agree kind core step at pass (history core.log) (step-history kind core step plain)
      (together Now words (list-goes (history core.log) (kept SlotHead refl) (λ i. kept (SlotNext i) refl) refl) (stripe-goes (history core.log))
      (batch-part kind core step at pass (history core.log) h batches held (λ i. kept (Phase i) refl) (λ l t. kept (Slot l t) refl)))
    where
      Now : Sight
      Now = new_sight kind core step at pass (history core.log)

      kept : (name : Name) → body_scope.names name ≡ true → Now.word name ≡ Old.word name
      kept name reads = unstored kind core step at pass name (λ same. false≢true (sym hidden ∙ (ap (λ (n : Name). body_scope.names n) (sym same) ∙ reads)))

      words : WordsPart Now
      words = record {
        lawful = h.lawful;
        state = λ i below. kept (State i) refl ∙ h.state i below;
        live = λ i r e.
            words-kept kind core step at pass (history core.log) i r (between i) (kept (Layer i) refl) (kept (User i) refl) (λ k. kept (BoxWord i k) refl) (kept (Phase i) refl) (λ l t. kept (Slot l t) refl)
            (h.live i r e);
        dead = λ i none. kept (Phase i) refl ∙ h.dead i none;
      }

      held : KeepsHeld kind core step at pass (history core.log)
      held = record {
        forth = λ i r e is. record_body (record_at (scene_in Old) i) (λ q. (q.phase ≡ Held) × (q.layer ≡ r.layer)) r e (is, refl);
        boxes = λ i r e is k. kept (BoxWord i k) refl;
        back = λ i is. is;
      }

-- so of a step on a body under its stripe
pub BodiesAgree-beside : (kind : Kind) (core : Core) (step : Step) (a : Acts core step) (index : ℕ) (call : Call) → OnBody kind core step index call → (IsBetweenBoxes step.view index → MovesBody call.task index × (has_box_word call.stores ≡ true))
    → body_scope.names step.name ≡ false → ((value : ℕ) → kind.entry step.view step.name value ≡ None) → BodiesAgree (after_step kind core step)
BodiesAgree-beside kind core step a index call o boxes hidden plain =
    let last = recalled kind core step call o.recalls in
    BodiesAgree-goes kind core step a.at a.pass a.laws.bodies
    (on_body index o.before (on-after kind core step index call a o) (stripe-after kind core step index call a o)
    (λ between. subst (λ (c : Call). MovesBody c.task index × (has_box_word c.stores ≡ true)) (sym (call-is kind core step call o.recalls)) (boxes between)))
    (ap (λ (v : View). v.locks) last) hidden plain (ap (λ (v : View). v.batches) last)
