-- The bodies agree after a slot is let go.
use Rattle.std.proofs.Common.{◌≡◌, ◌≢◌, ◌↔◌, ℕ, zero, suc, ◌+◌, ◌-◌, ◌<◌, List, ◌∷◌, ◌++◌, Bool, true, false, not, Some, Contains, AllPairs, refl, ap, sym, ◌∙◌, subst, inl, inr, arith}
use Rattle.std.specs.Prelude.{nat_lt, if◌then◌else◌, flat_map}
use Rattle.std.proofs.lemmas.Bool.{cases_Bool, lt-ltb, false≢true}
use Rattle.std.proofs.lemmas.Option.{same_Some}
use Rattle.std.proofs.lemmas.List.Concat.{flat_map-append}
use Rattle.std.proofs.lemmas.List.Kept.{AllPairs-filter}
use Rattle.scene_model.specs.declared.body_view.Phase.{Phase as BodyPhase}
use Rattle.scene_model.specs.declared.body_view.Phase.TheVariants.{Held, In}
use Rattle.scene_model.specs.Scene.{Record, record_at}
use Rattle.word_map.specs.declared.name.Name.TheVariants.{Phase, BoxWord, Slot}
use Rattle.core_state.specs.declared.view.Marked.{Marked}
use Rattle.core_state.specs.declared.view.Batch.{Batch}
use Rattle.core_state.specs.declared.view.View.{View}
use Rattle.core_state.specs.View.{IsPass}
use Rattle.core_state.specs.Core.{Core, word_of}
use Rattle.core_state.specs.Kind.{Step, view_after, after_step}
use Rattle.core_state.specs.Encoding.{reserved_by}
use Rattle.core_state.specs.Batches.{MayLetSlotGo, let_slot_go, without_batch, is_for}
use Rattle.core_state.specs.Bodies.{phase_by, phase_by_slot, AreOtherSlots, all_batches}
use Rattle.core_state.specs.BodiesAgree.{BodiesAgree, body_scope}
use Rattle.core_state.specs.Scope.{sight, scene_in, HasPass}
use Rattle.core_state.proofs.Beginning.{contains_flat, contains_filter, body_record, record_body}
use Rattle.core_state.proofs.Opening.{none_in}
use Rattle.core_state.proofs.SameNames.{cases_name}
use Rattle.core_state.proofs.Steps.{word-step, word-step-other}
use Rattle.core_guard.proofs.BodiesStep.{same-locks, HoldsSlot}
use Rattle.core_guard.proofs.Leaving.{Acts, lawful}
use Rattle.core_guard.proofs.Seats.{has-seat, SeatAfter, stepped, stayed, seat-after, seat_seen}
use Rattle.core_batch.proofs.BatchesStep.{ChangesBatches, Past, batch-part, slot-kept}
use Rattle.core_guard.proofs.BodiesAside.{IsAside, IsAsideWord, same_calls, PhasesKept, BodiesAgree-aside}
use Rattle.core_batch.proofs.Lists.{filter_from}
use Rattle.core_batch.proofs.Owning.{same-seat, number-low, slot-reserved}
use Rattle.core_batch.proofs.SlotLists.{is_for-true, is_for-slot, slot_one}
use Rattle.core_batch.proofs.SlotSteps.{slot_batch, own_apart, freed-left, freed-cut}

-- a phase that names a slot which a pass has reserved is that of a held body
phase-held : (number : ℕ) (phase : BodyPhase) → suc number < 1024 → phase_by_slot (suc number) ≡ Some phase → phase ≡ Held
phase-held number phase low h =
    let below : nat_lt (suc number) 1024 ≡ true = lt-ltb (suc number) 1024 low in
    sym (same_Some Held phase (sym (ap (λ (b : Bool). if b then Some Held else Some In) below) ∙ h))

-- a phase does not want its slot's word, but for one that names a slot
phase-or : (word slot other : ℕ) (phase : BodyPhase) → ((t : ℕ) → word ≡ suc (suc t) → phase_by_slot slot ≡ Some phase → phase_by_slot other ≡ Some phase) → phase_by word slot ≡ Some phase → phase_by word other ≡ Some phase
phase-or zero slot other phase f h = h
phase-or (suc zero) slot other phase f h = h
phase-or (suc (suc t)) slot other phase f h = f t refl h

module _ (core : Core) (step : Step) (a : Acts core step) (asked : MayLetSlotGo step.view step.name step.first step.second) where
  abbrev After : Core
  After = after_step let_slot_go core step

  abbrev Last : View
  Last = view_after let_slot_go core step

  abbrev p : ℕ
  p = step.number

  abbrev l : ℕ
  l = asked.layer

  abbrev t : ℕ
  t = asked.slot

  abbrev all : List Batch
  all = all_batches (sight body_scope core)

  pub freed-low : suc p < 1024
  freed-low = number-low core a.formed step.seat p step.view a.at a.pass

  pub freed-old : word_of core (Slot l t) ≡ reserved_by p
  freed-old = slot-reserved core a.formed a.laws.bodies step.seat p l t step.view a.at a.pass (asked.batch, asked.has.among, asked.has.for_slot)

  pub freed-new : word_of After step.name ≡ 0
  freed-new = word-step let_slot_go core step ∙ asked.empty

  other_slot : (k n : ℕ) → Slot k n ≢ step.name → word_of After (Slot k n) ≡ word_of core (Slot k n)
  other_slot k n other = word-step-other let_slot_go core step (Slot k n) other

  -- ---- batches without one that has marked nothing

  last_is : Last.batches ≡ without_batch l t step.view.batches
  last_is = ap (λ (v : View). v.batches) (freed-left core step asked)

  kept_from : (b : Batch) → Contains Last.batches b → Contains step.view.batches b × (not (is_for l t b) ≡ true)
  kept_from b kept = filter_from (λ x. not (is_for l t x)) step.view.batches b (subst (λ (xs : List Batch). Contains xs b) last_is kept)

  kept_there : (b : Batch) → Contains step.view.batches b → is_for l t b ≡ false → Contains Last.batches b
  kept_there b among miss = subst (λ (xs : List Batch). Contains xs b) (sym last_is) (contains_filter (λ x. not (is_for l t x)) step.view.batches b among (ap not miss))

  pub freed-changes : ChangesBatches all step.view.batches Last.batches
  freed-changes =
      let cut = freed-cut core step a asked in
      record {
        apart = λ h. subst (λ (xs : List Batch). AllPairs AreOtherSlots xs) (sym last_is) (AllPairs-filter AreOtherSlots (λ x. not (is_for l t x)) step.view.batches h);
        keyed = λ y kept. inl (y, (kept_from y kept).0, refl, refl);
        marks =
            ap (λ (xs : List Batch). flat_map (λ (x : Batch). x.marked) xs) (last_is ∙ cut.rest)
            ∙ (flat_map-append (λ (x : Batch). x.marked) cut.front cut.back
            ∙ (ap (λ (m : List Marked). flat_map (λ (x : Batch). x.marked) cut.front ++ (m ++ flat_map (λ (x : Batch). x.marked) cut.back)) (sym asked.bare)
            ∙ (sym (flat_map-append (λ (x : Batch). x.marked) cut.front (asked.batch ∷ cut.back))
            ∙ ap (λ (xs : List Batch). flat_map (λ (x : Batch). x.marked) xs) (sym cut.whole))));
        back = λ y m kept marked. (y, (kept_from y kept).0, marked, refl, refl, λ n inside. inside);
        forth = λ x m is marked.
            let other : is_for l t x ≡ false =
            elim (cases_Bool (is_for l t x)) [
              | inl hit ↦
                  let same = slot_batch step.view.batches l t x asked.batch (own_apart core step a) is asked.has.among (is_for-slot l t x hit) asked.has.for_slot in
                  absurd (none_in _ (subst (λ (k : List Marked). Contains k m) (ap (λ (z : Batch). z.marked) same ∙ asked.bare) marked))
              | inr miss ↦ miss
            ]
            in
            (x, kept_there x is other, marked);
      }

  leaves : IsAside let_slot_go core step
  leaves = record {
    word = subst IsAsideWord (sym asked.names) tt;
    entry = λ value. refl;
    call = same_calls (ap (λ (v : View). v.call) (freed-left core step asked)) (same-locks step.view Last (ap (λ (v : View). v.locks) (freed-left core step asked)));
  }

  -- ---- phases

  own_among : (b : Batch) → Contains step.view.batches b → Contains all b
  own_among b own = contains_flat (λ v. v.batches) (sight body_scope core).passes _ b (seat_seen body_scope core step.seat p step.view a.at a.pass) own

  -- no body is held for the slot
  unheld : (i k : ℕ) (r : Record) → record_at (scene_in (sight body_scope core)) i ≡ Some r → r.phase ≡ Held → word_of core (Phase i) ≡ suc (suc k) → ¬ (Slot r.layer k ≡ Slot l t)
  unheld i k r e held phase same =
      let one = slot_one r.layer k l t same in
      let u = a.laws.bodies.held i (record_body (record_at (scene_in (sight body_scope core)) i) (λ q. q.phase ≡ Held) r e held) in
      let marked = a.laws.bodies.marked u.0 u.1 u.2 u.3 in
      let body = body_record (record_at (scene_in (sight body_scope core)) u.1.index) (λ q. (q.phase ≡ Held) × (q.layer ≡ u.0.layer)) marked.held in
      let record_same : body.0 ≡ r = same_Some body.0 r (sym body.1 ∙ (ap (λ (j : ℕ). record_at (scene_in (sight body_scope core)) j) u.4 ∙ e)) in
      let layer : u.0.layer ≡ l = sym body.2.1 ∙ (ap (λ (q : Record). q.layer) record_same ∙ one.0) in
      let word : word_of core (Phase u.1.index) ≡ suc (suc k) = ap (λ (j : ℕ). word_of core (Phase j)) u.4 ∙ phase in
      let joined : word_of core (Phase u.1.index) ≡ 2 + u.0.slot = marked.phase in
      let slot : u.0.slot ≡ t = (let second = one.1 in omega arith) in
      let same_batch = slot_batch all l t u.0 asked.batch a.laws.bodies.slots u.2 (own_among asked.batch asked.has.among) (layer, slot) asked.has.for_slot in
      none_in _ (subst (λ (m : List Marked). Contains m u.1) (ap (λ (b : Batch). b.marked) same_batch ∙ asked.bare) u.3)

  phases : PhasesKept let_slot_go core step (lawful a) leaves
  phases i r e old =
      let word = word_of core (Phase i) in
      phase-or word (word_of core (Slot r.layer (word - 2))) (word_of After (Slot r.layer (word - 2))) r.phase
      (λ k is by_slot.
      elim (cases_name (Slot r.layer (word - 2)) step.name) [
        | inl same ↦
            let reserved : word_of core (Slot r.layer (word - 2)) ≡ suc p = ap (word_of core) (same ∙ asked.names) ∙ freed-old in
            let held = phase-held p r.phase freed-low (sym (ap phase_by_slot reserved) ∙ by_slot) in
            let number : word - 2 ≡ k = omega arith in
            absurd (unheld i k r e held is (sym (ap (λ (n : ℕ). Slot r.layer n) number) ∙ (same ∙ asked.names)))
        | inr other ↦ ap phase_by_slot (other_slot r.layer (word - 2) other) ∙ by_slot
      ])
      old

  -- ---- who holds slots

  holds_less : (k n : ℕ) → Slot k n ≢ step.name → HoldsSlot k n step.view → HoldsSlot k n Last
  holds_less k n other has =
      let miss : is_for l t has.0 ≡ false =
      elim (cases_Bool (is_for l t has.0)) [
        | inl hit ↦
            let one = is_for-slot l t has.0 hit in
            absurd (other ((λ i. Slot ((sym has.2.0 ∙ one.0) i) ((sym has.2.1 ∙ one.1) i)) ∙ sym asked.names))
        | inr miss ↦ miss
      ]
      in
      (has.0, kept_there has.0 has.1 miss, has.2)

  holds_more : (k n : ℕ) → HoldsSlot k n Last → HoldsSlot k n step.view
  holds_more k n has = (has.0, (kept_from has.0 has.1).0, has.2)

  nobody : (number : ℕ) → ¬ HasPass (Past let_slot_go core step a freed-changes) number (HoldsSlot l t)
  nobody number has =
      let from = has-seat body_scope (λ k v. refl) After number (HoldsSlot l t) has in
      go from.seat from.view from.pass from.holds (seat-after body_scope (λ k v. refl) let_slot_go core step a.at a.pass from.seat number from.view from.at from.pass)
    where
      go : (seat : ℕ) (view : View) → IsPass view number → HoldsSlot l t view → SeatAfter body_scope (λ k v. refl) let_slot_go core step a.at a.pass seat number view → ⊥
      go seat view is holds (stepped here same two) =
          let kept = kept_from holds.0 (subst (λ (v : View). Contains v.batches holds.0) (sym same) holds.1) in
          false≢true (sym (ap not (is_for-true l t holds.0 holds.2)) ∙ kept.1)
      go seat view is holds (stayed other old) =
          let word = slot-reserved core a.formed a.laws.bodies seat number l t view old is holds in
          let before = freed-old in
          let same : number ≡ p = omega arith in
          other (same-seat core a.formed seat step.seat p view step.view old a.at (is ∙ ap Some same) a.pass)

  held_slots : (k n number : ℕ) → suc number < 1024 → ((Past let_slot_go core step a freed-changes).word (Slot k n) ≡ reserved_by number) ↔ HasPass (Past let_slot_go core step a freed-changes) number (HoldsSlot k n)
  held_slots k n number below =
      elim (cases_name (Slot k n) step.name) [
        | inl same ↦
            let one = slot_one k n l t (same ∙ asked.names) in
            let new : word_of After (Slot k n) ≡ 0 = ap (word_of After) same ∙ freed-new in
            let P : ℕ → ℕ → Type 0 = (λ c d. HasPass (Past let_slot_go core step a freed-changes) number (HoldsSlot c d)) in (
              λ e. absurd (omega arith),
              λ has. absurd (nobody number (subst (λ (d : ℕ). P l d) one.1 (subst (λ (c : ℕ). P c n) one.0 has))),
            )
        | inr other ↦ slot-kept let_slot_go core step a freed-changes k n number below (other_slot k n other) (holds_less k n other, holds_more k n)
      ]

  pub BodiesAgree-let_slot_go : BodiesAgree After
  BodiesAgree-let_slot_go =
      BodiesAgree-aside let_slot_go core step (lawful a) leaves phases
      (batch-part let_slot_go core step a freed-changes (λ i. word-step-other let_slot_go core step (Phase i) (λ same. let e = same ∙ asked.names in absurd cc))
      (λ i k. word-step-other let_slot_go core step (BoxWord i k) (λ same. let e = same ∙ asked.names in absurd cc)) held_slots)
