-- The bodies agree after a slot is reserved, or in vain.
use Rattle.std.proofs.Common.{◌≡◌, ◌≢◌, ◌↔◌, ℕ, zero, suc, ◌-◌, ◌<◌, List, [], ◌∷◌, ◌++◌, Bool, true, cond, eqb, None, Some, Contains, refl, ap, sym, ◌∙◌, subst, inl, inr, arith}
use Rattle.std.specs.Prelude.{flat_map}
use Rattle.std.proofs.lemmas.Bool.{eq-eqb, false≢true}
use Rattle.std.proofs.lemmas.Option.{none-some}
use Rattle.std.proofs.lemmas.List.{append-nil}
use Rattle.std.proofs.lemmas.List.Concat.{flat_map-append}
use Rattle.std.proofs.lemmas.List.Elements.{Contains-append_left, Contains-append_right, Contains-append_cases}
use Rattle.scene_model.specs.declared.body_view.Phase.{Phase as BodyPhase}
use Rattle.word_map.specs.declared.name.Name.{Name}
use Rattle.word_map.specs.declared.name.Name.TheVariants.{Phase, BoxWord, Slot}
use Rattle.core_state.specs.declared.item.Item.{Item}
use Rattle.core_state.specs.declared.view.Batch.{Batch}
use Rattle.core_state.specs.declared.view.View.{View}
use Rattle.core_state.specs.View.{IsPass}
use Rattle.core_state.specs.Log.{word}
use Rattle.core_state.specs.Core.{Core, word_of}
use Rattle.core_state.specs.Kind.{Step, found_by, log_after, view_after, after_step}
use Rattle.core_state.specs.Encoding.{reserved_by}
use Rattle.core_state.specs.Batches.{MayReserve, reserve, new_batch}
use Rattle.core_state.specs.Bodies.{phase_by, IsForSlot, AreOtherSlots, all_batches}
use Rattle.core_state.specs.BodiesAgree.{BodiesAgree, BodiesAgreeIn, body_scope}
use Rattle.core_state.specs.Scope.{sight, bare_view, HasPass}
use Rattle.core_state.proofs.Beginning.{contains_flat}
use Rattle.core_state.proofs.Frames.{frame, step-same}
use Rattle.core_state.proofs.Opening.{none_in, only}
use Rattle.core_state.proofs.SameNames.{cases_name}
use Rattle.core_state.proofs.Steps.{gained-unstored, word-step, word-step-other, view-step}
use Rattle.core_guard.proofs.BodiesStep.{same-locks, HoldsSlot}
use Rattle.core_guard.proofs.Leaving.{Acts, lawful}
use Rattle.core_guard.proofs.Seats.{seen_at, has-seat, seat-has, SeatAfter, stepped, stayed, seat-after, seat_seen}
use Rattle.core_batch.proofs.BatchesStep.{ChangesBatches, Past, batch-part, slot-kept}
use Rattle.core_guard.proofs.BodiesAside.{IsAside, IsAsideWord, same_calls, PhasesKept, BodiesAgree-aside}
use Rattle.core_batch.proofs.Lists.{pairs-cons, pairs-none, pairs-append}
use Rattle.core_batch.proofs.Owning.{number-low, slot-reserved}
use Rattle.core_batch.proofs.SlotLists.{slot_one}
use Rattle.core_batch.proofs.SlotSteps.{IsReserving, IsMissing, reserving, missing, reserve-step}
use Rattle.core_guard.proofs.NodesLeft.{flat_from}

-- ---- a batch of which nothing is there but its slot

fresh-changes : (all from : List Batch) (l t : ℕ) → ((b : Batch) → Contains all b → ¬ IsForSlot l t b) → ((b : Batch) → Contains from b → Contains all b) → ChangesBatches all from (from ++ new_batch l t ∷ [])
fresh-changes all from l t none among_all = record {
  apart = λ h.
      pairs-append AreOtherSlots from (new_batch l t ∷ []) h (pairs-cons AreOtherSlots (new_batch l t) [] (λ y c. absurd (none_in _ c)) (pairs-none AreOtherSlots))
      (λ a b own last. subst (AreOtherSlots a) (only (new_batch l t) b last) (none a (among_all a own)));
  keyed = λ y among.
      elim (Contains-append_cases from (new_batch l t ∷ []) y among) [
        | inl own ↦ inl (y, own, refl, refl)
        | inr last ↦ inr (subst (λ (z : Batch). (b : Batch) → Contains all b → ¬ IsForSlot z.layer z.slot b) (only (new_batch l t) y last) none)
      ];
  marks = flat_map-append (λ (b : Batch). b.marked) from (new_batch l t ∷ []) ∙ append-nil (flat_map (λ (b : Batch). b.marked) from);
  back = λ y m among marked.
      elim (Contains-append_cases from (new_batch l t ∷ []) y among) [
        | inl own ↦ (y, own, marked, refl, refl, λ n inside. inside)
        | inr last ↦ absurd (none_in _ (subst (λ (z : Batch). Contains z.marked m) (sym (only (new_batch l t) y last)) marked))
      ];
  forth = λ x m among marked. (x, Contains-append_left from (new_batch l t ∷ []) x among, marked);
}

-- a phase that does not want a slot to be taken does not want its word
phase_any : (word slot : ℕ) (phase : BodyPhase) → phase_by word 0 ≡ Some phase → phase_by word slot ≡ Some phase
phase_any zero slot phase h = h
phase_any (suc zero) slot phase h = h
phase_any (suc (suc t)) slot phase h = absurd (none-some phase h)

-- ---- the slot is reserved

module _ (core : Core) (step : Step) (a : Acts core step) (l t : ℕ) (r : IsReserving core step l t) where
  abbrev After : Core
  After = after_step reserve core step

  abbrev Last : View
  Last = view_after reserve core step

  abbrev p : ℕ
  p = step.number

  pub reserved-new : word_of After step.name ≡ reserved_by p
  reserved-new =
      let hit : eqb (found_by core step) step.first ≡ true = eq-eqb (found_by core step) step.first (r.empty ∙ sym r.expected) in
      word-step reserve core step ∙ (ap (λ (b : Bool). cond b step.second (found_by core step)) hit ∙ r.own)

  pub reserved-low : suc p < 1024
  reserved-low = number-low core a.formed step.seat p step.view a.at a.pass

  -- no pass has a batch for it
  nobody : (b : Batch) → Contains (all_batches (sight body_scope core)) b → ¬ IsForSlot l t b
  nobody b among for_slot =
      let u = flat_from (λ (v : View). v.batches) (sight body_scope core).passes b among in
      let from = seen_at body_scope core u.0 u.1 in
      let holds : HoldsSlot l t from.view = (b, subst (λ (v : View). Contains v.batches b) (sym from.is) u.2, for_slot) in
      let word = slot-reserved core a.formed a.laws.bodies from.seat from.number l t from.view from.at from.pass holds in
      let empty : word_of core (Slot l t) ≡ 0 = ap (word_of core) (sym r.names) ∙ r.empty in
      absurd (omega arith)

  last_is : Last.batches ≡ step.view.batches ++ new_batch l t ∷ []
  last_is = ap (λ (v : View). v.batches) r.left

  leaves : IsAside reserve core step
  leaves = record {
    word = subst IsAsideWord (sym r.names) tt;
    entry = λ value. refl;
    call = same_calls (ap (λ (v : View). v.call) r.left) (same-locks step.view Last (ap (λ (v : View). v.locks) r.left));
  }

  pub reserved-changes : ChangesBatches (all_batches (sight body_scope core)) step.view.batches Last.batches
  reserved-changes =
      subst (λ (to : List Batch). ChangesBatches (all_batches (sight body_scope core)) step.view.batches to) (sym last_is)
      (fresh-changes (all_batches (sight body_scope core)) step.view.batches l t nobody
      (λ b among. contains_flat (λ v. v.batches) (sight body_scope core).passes _ b (seat_seen body_scope core step.seat p step.view a.at a.pass) among))

  -- the word of another slot is as before
  other_slot : (k n : ℕ) → Slot k n ≢ step.name → word_of After (Slot k n) ≡ word_of core (Slot k n)
  other_slot k n other = word-step-other reserve core step (Slot k n) other

  phases : PhasesKept reserve core step (lawful a) leaves
  phases i q e old =
      let word = word_of core (Phase i) in
      elim (cases_name (Slot q.layer (word - 2)) step.name) [
        | inl same ↦
            let none : word_of core (Slot q.layer (word - 2)) ≡ 0 = ap (word_of core) same ∙ r.empty in
            phase_any word (word_of After (Slot q.layer (word - 2))) q.phase (sym (ap (λ (w : ℕ). phase_by word w) none) ∙ old)
        | inr other ↦ ap (λ (w : ℕ). phase_by word w) (other_slot q.layer (word - 2) other) ∙ old
      ]

  -- ---- who holds slots

  holds_more : (k n : ℕ) → HoldsSlot k n step.view → HoldsSlot k n Last
  holds_more k n has = (has.0, subst (λ (xs : List Batch). Contains xs has.0) (sym last_is) (Contains-append_left step.view.batches (new_batch l t ∷ []) has.0 has.1), has.2)

  holds_less : (k n : ℕ) → Slot k n ≢ step.name → HoldsSlot k n Last → HoldsSlot k n step.view
  holds_less k n other has =
      elim (Contains-append_cases step.view.batches (new_batch l t ∷ []) has.0 (subst (λ (xs : List Batch). Contains xs has.0) last_is has.1)) [
        | inl old ↦ (has.0, old, has.2)
        | inr new ↦
            let one : IsForSlot k n (new_batch l t) = subst (λ (b : Batch). IsForSlot k n b) (sym (only (new_batch l t) has.0 new)) has.2 in
            absurd (other ((λ i. Slot (sym one.0 i) (sym one.1 i)) ∙ sym r.names))
      ]

  -- the slot itself
  own_forth : (number : ℕ) → p ≡ number → HasPass (Past reserve core step a reserved-changes) number (HoldsSlot l t)
  own_forth number same =
      seat-has body_scope (λ k v. refl) After number (HoldsSlot l t)
      (record {
        seat = step.seat;
        view = Last;
        at = view-step reserve core step a.at;
        pass = a.pass ∙ ap Some same;
        holds = (
          new_batch l t,
          subst (λ (xs : List Batch). Contains xs (new_batch l t)) (sym last_is) (Contains-append_right step.view.batches (new_batch l t ∷ []) (new_batch l t) (0, omega arith, refl)),
          (refl, refl),
        );
      })

  own_back : (number : ℕ) → HasPass (Past reserve core step a reserved-changes) number (HoldsSlot l t) → p ≡ number
  own_back number has =
      let from = has-seat body_scope (λ k v. refl) After number (HoldsSlot l t) has in
      go from.seat from.view from.pass from.holds (seat-after body_scope (λ k v. refl) reserve core step a.at a.pass from.seat number from.view from.at from.pass)
    where
      go : (seat : ℕ) (view : View) → IsPass view number → HoldsSlot l t view → SeatAfter body_scope (λ k v. refl) reserve core step a.at a.pass seat number view → p ≡ number
      go seat view is holds (stepped here same two) = two
      go seat view is holds (stayed apart old) =
          absurd
          (nobody holds.0 (contains_flat (λ v. v.batches) (sight body_scope core).passes _ holds.0 (seat_seen body_scope core seat number view old is) holds.1) holds.2)

  held_slots : (k n number : ℕ) → suc number < 1024 → ((Past reserve core step a reserved-changes).word (Slot k n) ≡ reserved_by number) ↔ HasPass (Past reserve core step a reserved-changes) number (HoldsSlot k n)
  held_slots k n number below =
      elim (cases_name (Slot k n) step.name) [
        | inl same ↦
            let one = slot_one k n l t (same ∙ r.names) in
            let new : word_of After (Slot k n) ≡ suc p = ap (word_of After) same ∙ reserved-new in
            let P : ℕ → ℕ → Type 0 = (λ c d. HasPass (Past reserve core step a reserved-changes) number (HoldsSlot c d)) in (
              λ e. let is : p ≡ number = omega arith in subst (λ (c : ℕ). P c n) (sym one.0) (subst (λ (d : ℕ). P l d) (sym one.1) (own_forth number is)),
              λ has.
                  let is = own_back number (subst (λ (d : ℕ). P l d) one.1 (subst (λ (c : ℕ). P c n) one.0 has)) in
                  new ∙ ap suc is,
            )
        | inr other ↦ slot-kept reserve core step a reserved-changes k n number below (other_slot k n other) (holds_more k n, holds_less k n other)
      ]

  BodiesAgree-reserved : BodiesAgree After
  BodiesAgree-reserved =
      BodiesAgree-aside reserve core step (lawful a) leaves phases
      (batch-part reserve core step a reserved-changes (λ i. word-step-other reserve core step (Phase i) (λ same. let e = same ∙ r.names in absurd cc))
      (λ i k. word-step-other reserve core step (BoxWord i k) (λ same. let e = same ∙ r.names in absurd cc)) held_slots)

-- ---- in vain

module _ (core : Core) (step : Step) (a : Acts core step) (m : IsMissing core step) where
  pub missed-word : (name : Name) → word_of (after_step reserve core step) name ≡ word_of core name
  missed-word name = rw (gained-unstored reserve core step m.missed) (ap (λ (l : List Item). word core.config l name) (append-nil core.log))

  BodiesAgree-missed : BodiesAgree (after_step reserve core step)
  BodiesAgree-missed =
      frame body_scope BodiesAgreeIn core (after_step reserve core step)
      (step-same body_scope reserve core step a.at a.pass
      (record {
        name = λ stored. absurd (false≢true (sym m.missed ∙ stored));
        entry = λ past value. refl;
        part = ap (λ (v : View). body_scope.part (bare_view step.number) (record v { config = step.view.config; role = step.view.role; known = log_after reserve core step; joined = None })) m.left;
      }))
      a.laws.bodies

pub BodiesAgree-reserve : (core : Core) (step : Step) (a : Acts core step) → MayReserve step.view step.name step.first step.second → BodiesAgree (after_step reserve core step)
BodiesAgree-reserve core step a asked =
    elim (reserve-step core step a asked) [
      | reserving l t r ↦ BodiesAgree-reserved core step a l t r
      | missing m ↦ BodiesAgree-missed core step a m
    ]
