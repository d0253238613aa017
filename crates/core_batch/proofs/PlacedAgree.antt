-- The bodies agree after a step that stores the first location of a body and changes marks in their places alone.
use Rattle.std.proofs.Common.{◌≡◌, ℕ, List, None, true, refl, ap, sym, ◌∙◌, subst, inl, IsSomeAnd, slice_index}
use Rattle.std.specs.Prelude.{Contains, AllPairs, map, flat_map}
use Rattle.std.proofs.lemmas.Bool.{false≢true}
use Rattle.scene_model.specs.Scene.{record_at}
use Rattle.word_map.specs.declared.name.Name.{Name}
use Rattle.word_map.specs.declared.name.Name.TheVariants.{SlotHead, SlotNext, State, Phase, Layer, User, BoxWord, LocA, Slot}
use Rattle.core_state.specs.declared.view.Call.{Call}
use Rattle.core_state.specs.declared.view.Marked.{Marked}
use Rattle.core_state.specs.declared.view.Batch.{Batch}
use Rattle.core_state.specs.Log.{history}
use Rattle.core_state.specs.View.{IsPass}
use Rattle.core_state.specs.Core.{Core, IsViewAt}
use Rattle.core_state.specs.Kind.{Kind, Step, view_after, after_step}
use Rattle.core_state.specs.Batches.{with_bodies}
use Rattle.core_state.specs.Scope.{Sight, sight, scene_in}
use Rattle.core_state.specs.Bodies.{IsBetweenBoxes}
use Rattle.core_state.specs.BodiesAgree.{BodiesAgree, body_scope, IsHeldFor}
use Rattle.core_state.proofs.Frames.{step-history}
use Rattle.core_guard.proofs.BodiesStep.{new_sight, unstored, bodies-agree, WordsPart, together, words-kept, list-stays, stripe-stays, BatchPart}
use Rattle.core_batch.proofs.Lists.{contains_map, map_from, pairs-map, flat-own, flat-across, flat-pairs}
use Rattle.core_batch.proofs.Mapped.{AreOtherBodies, own-marks, StemsFrom, mapped-part, batch-kept, own_batch, other_batch, held-by}
use Rattle.scene_model.specs.declared.body_view.Phase.TheVariants.{Held}
use Rattle.core_state.specs.Encoding.{phase_join}

module _ (kind : Kind) (core : Core) (step : Step) (at : IsViewAt core step.seat step.view) (pass : IsPass step.view step.number) (h : BodiesAgree core)
    (index : ℕ) (names : step.name ≡ LocA index) (plain : (value : ℕ) → kind.entry step.view step.name value ≡ None)
    (call : (view_after kind core step).call ≡ step.view.call) (locks : (view_after kind core step).locks ≡ step.view.locks)
    (g : Marked → Marked) (same_mark : (m : Marked) → ((g m).index ≡ m.index) × ((g m).bounds ≡ m.bounds))
    (changes : (view_after kind core step).batches ≡ map (with_bodies (map g)) step.view.batches) where
  abbrev Old : Sight
  Old = sight body_scope core

  abbrev New : Sight
  New = new_sight kind core step at pass (history core.log)

  -- no word that the law reads is stored
  kept : (name : Name) → body_scope.names name ≡ true → New.word name ≡ Old.word name
  kept name reads = unstored kind core step at pass name (λ same. false≢true (sym (ap (λ (n : Name). body_scope.names n) (same ∙ names)) ∙ reads))

  between : (i : ℕ) → IsBetweenBoxes step.view i → IsBetweenBoxes (view_after kind core step) i
  between i h = subst (λ (c : Call). IsBetweenBoxes (record step.view { call = c }) i) (sym call) h

  words : WordsPart New
  words = record {
    lawful = h.lawful;
    state = λ i below. kept (State i) refl ∙ h.state i below;
    live = λ i r e.
        words-kept kind core step at pass (history core.log) i r (between i) (kept (Layer i) refl) (kept (User i) refl) (λ k. kept (BoxWord i k) refl) (kept (Phase i) refl) (λ l t. kept (Slot l t) refl)
        (h.live i r e);
    dead = λ i none. kept (Phase i) refl ∙ h.dead i none;
  }

  -- ---- marks

  held-moved : (b c : Batch) (m n : Marked) → c.layer ≡ b.layer → c.slot ≡ b.slot → n.index ≡ m.index → n.bounds ≡ m.bounds → IsHeldFor Old b m → IsHeldFor New c n
  held-moved b c m n layer slot same bounds was =
      record {
        held =
            subst (λ (i : ℕ). IsSomeAnd (record_at (scene_in New) i) (λ r. (r.phase ≡ Held) × (r.layer ≡ c.layer))) (sym same)
            (subst (λ (l : ℕ). IsSomeAnd (record_at (scene_in Old) m.index) (λ r. (r.phase ≡ Held) × (r.layer ≡ l))) (sym layer) was.held);
        phase = ap (λ (i : ℕ). New.word (Phase i)) same ∙ (kept (Phase m.index) refl ∙ (was.phase ∙ ap phase_join (sym slot)));
        bounds = λ k below.
            ap (λ (i : ℕ). New.word (BoxWord i k)) same ∙ (kept (BoxWord m.index k) refl ∙ (was.bounds k below ∙ ap (λ (l : List ℕ). slice_index l k) (sym bounds)));
      }

  stems : (b : Batch) (u : Marked) → Contains step.view.batches b → Contains (map g b.marked) u → StemsFrom kind core step at pass (history core.log) h (with_bodies (map g)) changes (λ b. (refl, refl)) b u
  stems b u among marked =
      let t = map_from g b.marked u marked in
      inl (t.0, t.1, sym (same_mark t.0).0 ∙ ap (λ (m : Marked). m.index) t.2)

  own : AllPairs AreOtherBodies (flat_map (λ b. map g b.marked) step.view.batches)
  own =
      let old = own-marks core h step.seat step.number step.view at pass in
      flat-pairs (λ b. map g b.marked) AreOtherBodies step.view.batches
      (λ i b found.
      pairs-map g AreOtherBodies AreOtherBodies b.marked (λ m n apart same. apart (sym (same_mark m).0 ∙ (same ∙ (same_mark n).0)))
      (flat-own (λ b. b.marked) AreOtherBodies step.view.batches i b old found))
      (λ i j b c u v less found other first later.
      let m = map_from g b.marked u first in
      let n = map_from g c.marked v later in
      let apart = flat-across (λ b. b.marked) AreOtherBodies step.view.batches i j b c m.0 n.0 old less found other m.1 n.1 in
      (λ same. apart (sym (same_mark m.0).0 ∙ (ap (λ (x : Marked). x.index) m.2 ∙ (same ∙ (sym (ap (λ (x : Marked). x.index) n.2) ∙ (same_mark n.0).0))))))

  batches : BatchPart New
  batches =
      mapped-part kind core step at pass (history core.log) h (with_bodies (map g)) changes (λ b. (refl, refl)) stems own (λ l t. kept (Slot l t) refl)
      (λ b u among marked.
      let t = map_from g b.marked u marked in
      subst (λ (m : Marked). IsHeldFor New (with_bodies (map g) b) m) t.2
      (held-moved b (with_bodies (map g) b) t.0 (g t.0) refl refl (same_mark t.0).0 (same_mark t.0).1 (h.marked b t.0 (held-by core step.seat step.number step.view b at pass among) t.1)))
      (λ seat number view b u apart found is among marked. held-moved b b u u refl refl refl refl (h.marked b u (held-by core seat number view b found is among) marked))
      (λ i has.
      let t = h.held i has in
      elim (batch-kept kind core step at pass (history core.log) h (with_bodies (map g)) changes (λ b. (refl, refl)) t.0 t.2) [
        | own_batch among all ↦ (with_bodies (map g) t.0, g t.1, all, contains_map g t.0.marked t.1 t.3, (same_mark t.1).0 ∙ t.4)
        | other_batch seat number view apart found is among all ↦ (t.0, t.1, all, t.3, t.4)
      ])

  pub placed-agree : BodiesAgree (after_step kind core step)
  placed-agree =
      bodies-agree kind core step at pass (history core.log) (step-history kind core step plain)
      (together New words
      (list-stays kind core step at pass (history core.log) h call locks (kept SlotHead refl) (λ i. kept (SlotNext i) refl) refl)
      (stripe-stays kind core step at pass (history core.log) h call locks) batches)
