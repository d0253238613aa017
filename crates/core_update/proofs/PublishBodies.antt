-- The bodies agree once the tree of a word is taken out of sight: no body that is in the broad phase joined it by its slot, and
-- no batch holds the slot.
use Rattle.std.proofs.Common.{◌≡◌, ◌↔◌, ℕ, zero, suc, ◌+◌, ◌-◌, ◌<◌, List, Some, refl, ap, sym, ◌∙◌, subst, inl, inr, arith}
use Rattle.scene_model.specs.Scene.{Record, record_at}
use Rattle.word_map.specs.declared.name.Name.{Name}
use Rattle.word_map.specs.declared.name.Name.TheVariants.{SlotHead, SlotNext, State, Phase, Layer, User, BoxWord, Slot}
use Rattle.core_state.specs.declared.view.Batch.{Batch}
use Rattle.core_state.specs.declared.view.Marked.{Marked}
use Rattle.core_state.specs.declared.view.Rebuild.{Rebuild}
use Rattle.core_state.specs.declared.view.Task.{Task}
use Rattle.core_state.specs.declared.view.Task.TheVariants.{Creating, Destroying, Moving, Removing, Placing}
use Rattle.core_state.specs.declared.view.View.{View}
use Rattle.core_state.specs.Core.{Core, word_of, scene_of}
use Rattle.core_state.specs.Kind.{Kind, Step, after_step}
use Rattle.core_state.specs.Encoding.{slot_tree, reserved_by}
use Rattle.core_state.specs.Nodes.{under}
use Rattle.core_state.specs.Parts.{update_on_cover, call_without_loads}
use Rattle.core_state.specs.Scope.{Sight, sight, bare_view, HasPass}
use Rattle.core_state.specs.Updates.{IsOldTree}
use Rattle.core_state.specs.Bodies.{phase_by, phase_by_slot}
use Rattle.core_state.specs.BodiesAgree.{BodiesAgree, BodiesAgreeIn, body_scope, HasWordsOf, ListsFree, IsUnderStripe, IsHeldFor}
use Rattle.core_state.specs.BodiesCovered.{cover_scope, KeepsMerged}
use Rattle.core_state.proofs.Frames.{step-history, passes-same}
use Rattle.core_state.proofs.SameNames.{cases_name}
use Rattle.core_state.proofs.Steps.{word-step-other}
use Rattle.core_guard.proofs.BodiesStep.{HoldsSlot}
use Rattle.core_guard.proofs.Chains.{chain-kept}
use Rattle.core_guard.proofs.Leaving.{Acts, After}
use Rattle.core_update.proofs.OwnUpdate.{each-own}
use Rattle.core_update.proofs.Publishing.{Published, Publishes, other-word}
use Rattle.core_update.proofs.PublishFacts.{unjoined}

module _ (kind : Kind) (core : Core) (step : Step) (a : Acts core step) (r : Rebuild) (q : Published) (p : Publishes kind core step a r q) where
  abbrev Old : Sight
  Old = sight body_scope core

  abbrev new : Name → ℕ
  new = (sight body_scope (After kind core step)).word

  abbrev Now : Sight
  Now = record Old { word = new }

  abbrev x : Name
  x = step.name

  -- a slot that is cleared had a tree
  had-tree : (l t : ℕ) → Slot l t ≡ x → (root : ℕ) × (word_of core (Slot l t) ≡ slot_tree root)
  had-tree l t one =
      let still : IsOldTree r (under (Slot l t)) = subst (λ (name : Name). IsOldTree r (under name)) (sym one) p.old in
      let h = each-own kind core step a r p.update cover_scope (λ k v. refl) update_on_cover (λ bare v. refl) (λ number v y. KeepsMerged (sight cover_scope core) y) a.laws.cover.merged in
      (still.0, h.stand l t still.0 still.1)

  -- ---- words

  phase-later : (i : ℕ) (b : Record) (word : ℕ) → record_at (scene_of core) i ≡ Some b → word_of core (Phase i) ≡ word → phase_by word (word_of core (Slot b.layer (word - 2))) ≡ Some b.phase
      → phase_by word (word_of (After kind core step) (Slot b.layer (word - 2))) ≡ Some b.phase
  phase-later i b zero live at h = h
  phase-later i b (suc zero) live at h = h
  phase-later i b (suc (suc t)) live at h =
      let two : suc (suc t) - 2 ≡ t = omega arith in
      let was : phase_by_slot (word_of core (Slot b.layer t)) ≡ Some b.phase = ap (λ (m : ℕ). phase_by_slot (word_of core (Slot b.layer m))) (sym two) ∙ h in
      ap (λ (m : ℕ). phase_by_slot (word_of (After kind core step) (Slot b.layer m))) two
      ∙ elim (cases_name (Slot b.layer t) x) [
        | inr other ↦ ap phase_by_slot (word-step-other kind core step (Slot b.layer t) other) ∙ was
        | inl one ↦ let joins : word_of core (Phase i) ≡ 2 + t = omega (arith, at) in absurd (unjoined kind core step a r q p i b t live one joins)
      ]

  words-later : (i : ℕ) (b : Record) → record_at (scene_of core) i ≡ Some b → HasWordsOf Old i b → HasWordsOf Now i b
  words-later i b live h =
      let phase = other-word kind core step a r q p (Phase i) refl in
      record {
        layer = other-word kind core step a r q p (Layer i) refl ∙ h.layer;
        user = other-word kind core step a r q p (User i) refl ∙ h.user;
        user_fits = h.user_fits;
        bounds = λ whole k below. other-word kind core step a r q p (BoxWord i k) refl ∙ h.bounds whole k below;
        phase = subst (λ (word : ℕ). phase_by word (word_of (After kind core step) (Slot b.layer (word - 2))) ≡ Some b.phase) (sym phase) (phase-later i b (word_of core (Phase i)) live refl h.phase);
        slot = subst (λ (word : ℕ). word < 2 + core.config.slots) (sym phase) h.slot;
      }

  -- ---- tasks, of which the law reads no word

  lists-same : (view : View) (task : Task) (chain : List ℕ) → ListsFree Old view task chain → ListsFree Now view task chain
  lists-same view (Creating index) chain h = h
  lists-same view (Destroying index) chain h = h
  lists-same view _ chain h = tt

  stripe-same : (view : View) (task : Task) → IsUnderStripe Old view task → IsUnderStripe Now view task
  stripe-same view (Moving index target) h = h
  stripe-same view (Removing index) h = h
  stripe-same view (Placing index) h = h
  stripe-same view _ h = tt

  -- ---- slots

  reserved-later : (l t number : ℕ) → suc number < 1024 → (Old.word (Slot l t) ≡ reserved_by number) ↔ HasPass Old number (HoldsSlot l t) → (new (Slot l t) ≡ reserved_by number) ↔ HasPass Now number (HoldsSlot l t)
  reserved-later l t number below h =
      elim (cases_name (Slot l t) x) [
        | inr other ↦
            let same = word-step-other kind core step (Slot l t) other in
            (λ e. h.0 (sym same ∙ e), λ has. same ∙ h.1 has)
        | inl one ↦
            let none : word_of (After kind core step) (Slot l t) ≡ 0 = ap (word_of (After kind core step)) one ∙ p.emptied l t one in
            let tree = had-tree l t one in
            let at = tree.1 in
            (λ e. absurd (omega arith), λ has. let e = h.1 has in absurd (omega arith))
      ]

  held-later : (batch : Batch) (m : Marked) → IsHeldFor Old batch m → IsHeldFor Now batch m
  held-later batch m h = record {
    held = h.held;
    phase = other-word kind core step a r q p (Phase m.index) refl ∙ h.phase;
    bounds = λ k below. other-word kind core step a r q p (BoxWord m.index k) refl ∙ h.bounds k below;
  }

  -- ---- the law

  pub BodiesAgree-published : BodiesAgree (after_step kind core step)
  BodiesAgree-published =
      let seen : sight body_scope (After kind core step) ≡ Now =
      λ j. record {
        config = core.config;
        word = new;
        history = step-history kind core step p.plain j;
        passes = passes-same body_scope kind core step a.at a.pass (λ i. record (bare_view step.number) { locks = p.locks i; call = call_without_loads (p.call i); batches = p.batches i }) j;
      }
      in
      let h = a.laws.bodies in
      subst BodiesAgreeIn (sym seen)
      (record {
        lawful = h.lawful;
        state = λ i below. other-word kind core step a r q p (State i) refl ∙ h.state i below;
        live = λ i b e. words-later i b e (h.live i b e);
        dead = λ i none. other-word kind core step a r q p (Phase i) refl ∙ h.dead i none;
        chain = h.chain;
        linked =
            rw (other-word kind core step a r q p SlotHead refl)
            (chain-kept (λ i. Old.word (SlotNext i)) (λ i. new (SlotNext i)) (Old.word SlotHead) h.chain (λ i c. other-word kind core step a r q p (SlotNext i) refl) h.linked);
        listed = λ number view among pass. lists-same view view.call.task h.chain (h.listed number view among pass);
        settled = h.settled;
        stripes = λ number view among pass. stripe-same view view.call.task (h.stripes number view among pass);
        reserved = λ l t number below. reserved-later l t number below (h.reserved l t number below);
        slots = h.slots;
        marked = λ batch m among marked. held-later batch m (h.marked batch m among marked);
        held = h.held;
        once = h.once;
      })
