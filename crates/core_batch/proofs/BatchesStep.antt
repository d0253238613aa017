-- What a change of the batches of the stepping pass leaves of what is said of all batches.
use Rattle.std.proofs.Common.{◌≡◌, ◌≢◌, ◌↔◌, ◌⊎◌, ℕ, zero, suc, ◌<◌, List, [], ◌∷◌, ◌++◌, Option, Some, None, Contains, AllPairs, set, refl, ap, sym, ◌∙◌, subst, inl, inr, option_map}
use Rattle.std.specs.Prelude.{flat_map, filter_map}
use Rattle.std.specs.List.{cons_option}
use Rattle.std.proofs.lemmas.List.Concat.{flat_map-append}
use Rattle.std.proofs.lemmas.List.Elements.{Contains-append_left, Contains-append_right, Contains-append_cases}
use mathlib.Core.Option.{some, some-injective, some-ne-none}
use lib.ListN.{get_elem?}
use Rattle.scene_model.specs.declared.body_view.Phase.TheVariants.{Held}
use Rattle.scene_model.specs.Step.{HasBody}
use Rattle.word_map.specs.declared.name.Name.TheVariants.{Phase, BoxWord, Slot}
use Rattle.core_state.specs.declared.view.Marked.{Marked}
use Rattle.core_state.specs.declared.view.Batch.{Batch}
use Rattle.core_state.specs.declared.view.View.{View}
use Rattle.core_state.specs.Log.{history}
use Rattle.core_state.specs.Core.{Core}
use Rattle.core_state.specs.Kind.{Kind, Step, view_after, after_step}
use Rattle.core_state.specs.Encoding.{phase_join, reserved_by}
use Rattle.core_state.specs.Bodies.{IsForSlot, AreOtherSlots, all_batches, all_marked}
use Rattle.core_state.specs.BodiesAgree.{body_scope, IsHeldFor}
use Rattle.core_state.specs.LocationsHold.{location_scope}
use Rattle.core_state.specs.Scope.{Scope, Sight, sight, part_of, bare_view, scene_in, HasPass}
use Rattle.core_guard.proofs.Leaving.{Acts}
use Rattle.core_guard.proofs.Seats.{seen_of, has-step, has-unstep}
use Rattle.core_guard.proofs.BodiesStep.{BatchPart, HoldsSlot, new_sight}
use Rattle.core_batch.proofs.Lists.{pairs-left, pairs-right, pairs-across, pairs-append}

-- ---- the passes before and behind the one that steps

-- what is kept of a list, cut at one element
record IsCut {X Y : Type 0} (f : X → Option Y) (xs : List X) (i : ℕ) (y : X) (a b : Y) : Type 0 where
  front : List Y
  back : List Y
  before : filter_map f xs ≡ front ++ a ∷ back
  after : filter_map f (set xs i y) ≡ front ++ b ∷ back

module _ {X Y : Type 0} (f : X → Option Y) where
  -- with one element more in front
  cut_more : (z : X) (xs : List X) (i : ℕ) (y : X) (a b : Y) → IsCut f xs i y a b → IsCut f (z ∷ xs) (suc i) y a b
  cut_more z xs i y a b h =
      record {
        front = cons_option (f z) h.front;
        back = h.back;
        before = ap (λ (l : List Y). cons_option (f z) l) h.before ∙ cons_append (f z) h.front (a ∷ h.back);
        after = ap (λ (l : List Y). cons_option (f z) l) h.after ∙ cons_append (f z) h.front (b ∷ h.back);
      }
    where
      cons_append : (o : Option Y) (ys zs : List Y) → cons_option o (ys ++ zs) ≡ cons_option o ys ++ zs
      cons_append None ys zs = refl
      cons_append (Some y) ys zs = refl

  cut_set : (xs : List X) (i : ℕ) (x y : X) (a b : Y) → get_elem? xs i ≡ some x → f x ≡ Some a → f y ≡ Some b → IsCut f xs i y a b
  cut_set [] i x y a b at old new = absurd (some-ne-none x (sym at))
  cut_set (z ∷ xs) zero x y a b at old new =
      let first : f z ≡ Some a = ap f (some-injective z x at) ∙ old in
      record {
        front = [];
        back = filter_map f xs;
        before = ap (λ (o : Option Y). cons_option o (filter_map f xs)) first;
        after = ap (λ (o : Option Y). cons_option o (filter_map f xs)) new;
      }
  cut_set (z ∷ xs) (suc i) x y a b at old new = cut_more z xs i y a b (cut_set xs i x y a b at old new)

-- ---- batches

-- how the batches of a pass may change without notice: they keep their slots, but for a new one, and what they marked
pub record ChangesBatches (all from to : List Batch) : Type 0 where
  pub apart : AllPairs AreOtherSlots from → AllPairs AreOtherSlots to
  pub keyed : (y : Batch) → Contains to y → ((x : Batch) × Contains from x × (x.layer ≡ y.layer) × (x.slot ≡ y.slot)) ⊎ ((b : Batch) → Contains all b → ¬ IsForSlot y.layer y.slot b)
  pub marks : flat_map (λ b. b.marked) to ≡ flat_map (λ b. b.marked) from
  pub back : (y : Batch) (m : Marked) → Contains to y → Contains y.marked m
      → (x : Batch) × Contains from x × Contains x.marked m × (x.layer ≡ y.layer) × (x.slot ≡ y.slot) × ((n : ℕ) → Contains x.nodes n → Contains y.nodes n)
  pub forth : (x : Batch) (m : Marked) → Contains from x → Contains x.marked m → (y : Batch) × Contains to y × Contains y.marked m

-- batches that are not those of the stepping pass
pub other_slots : (front from to rest : List Batch) → ChangesBatches (front ++ (from ++ rest)) from to → AllPairs AreOtherSlots (front ++ (from ++ rest)) → AllPairs AreOtherSlots (front ++ (to ++ rest))
other_slots front from to rest c h =
    let R = AreOtherSlots in
    let tail = pairs-right R front (from ++ rest) h in
    pairs-append R front (to ++ rest) (pairs-left R front (from ++ rest) h)
    (pairs-append R to rest (c.apart (pairs-left R from rest tail)) (pairs-right R from rest tail)
    (λ y g is among.
    elim (c.keyed y is) [
      | inl t ↦ λ for_slot. pairs-across R from rest tail t.0 g t.1 among (t.2 ∙ for_slot.0, t.3 ∙ for_slot.1)
      | inr none ↦ λ for_slot. none g (Contains-append_right front (from ++ rest) g (Contains-append_right from rest g among)) (sym for_slot.0, sym for_slot.1)
    ]))
    (λ a y among is.
    elim (Contains-append_cases to rest y is) [
      | inl own ↦ elim (c.keyed y own) [
        | inl t ↦
            λ for_slot. pairs-across R front (from ++ rest) h a t.0 among (Contains-append_left from rest t.0 t.1) (for_slot.0 ∙ sym t.2, for_slot.1 ∙ sym t.3)
        | inr none ↦ none a (Contains-append_left front (from ++ rest) a among)
      ]
      | inr other ↦ pairs-across R front (from ++ rest) h a y among (Contains-append_right from rest y other)
    ])

module _ (kind : Kind) (core : Core) (step : Step) (a : Acts core step) where
  abbrev Last : View
  Last = view_after kind core step

  -- the batches of all passes, cut at the one that steps, as a law sees them that reads batches
  module _ (scope : Scope) (reads : (number : ℕ) (view : View) → (seen_of scope number view).batches ≡ view.batches) where
    abbrev cut : IsCut (part_of scope) core.views step.seat Last (seen_of scope step.number step.view) (seen_of scope step.number Last)
    cut =
        cut_set (part_of scope) core.views step.seat step.view Last (seen_of scope step.number step.view) (seen_of scope step.number Last) a.at
        (ap (option_map (λ n. scope.part (bare_view n) step.view)) a.pass) (ap (option_map (λ n. scope.part (bare_view n) Last)) a.pass)

    abbrev ahead : List Batch
    ahead = flat_map (λ v. v.batches) cut.front

    abbrev behind : List Batch
    behind = flat_map (λ v. v.batches) cut.back

    batches-before : all_batches (sight scope core) ≡ ahead ++ (step.view.batches ++ behind)
    batches-before =
        ap (λ (l : List View). flat_map (λ (v : View). v.batches) l) cut.before
        ∙ (flat_map-append (λ (v : View). v.batches) cut.front (seen_of scope step.number step.view ∷ cut.back)
        ∙ ap (λ (l : List Batch). ahead ++ (l ++ behind)) (reads step.number step.view))

    batches-after : all_batches (sight scope (after_step kind core step)) ≡ ahead ++ (Last.batches ++ behind)
    batches-after =
        ap (λ (l : List View). flat_map (λ (v : View). v.batches) l) cut.after
        ∙ (flat_map-append (λ (v : View). v.batches) cut.front (seen_of scope step.number Last ∷ cut.back)
        ∙ ap (λ (l : List Batch). ahead ++ (l ++ behind)) (reads step.number Last))

    -- a batch that is there afterwards is one of the stepping pass, or was there
    pub batch-came : (batch : Batch) → Contains (all_batches (sight scope (after_step kind core step))) batch → Contains Last.batches batch ⊎ Contains (all_batches (sight scope core)) batch
    batch-came batch among =
        elim (Contains-append_cases ahead (Last.batches ++ behind) batch (subst (λ (l : List Batch). Contains l batch) batches-after among)) [
          | inl front ↦ inr (subst (λ (l : List Batch). Contains l batch) (sym batches-before) (Contains-append_left ahead (step.view.batches ++ behind) batch front))
          | inr rest ↦ elim (Contains-append_cases Last.batches behind batch rest) [
            | inl own ↦ inl own
            | inr back ↦ inr (subst (λ (l : List Batch). Contains l batch) (sym batches-before) (Contains-append_right ahead (step.view.batches ++ behind) batch (Contains-append_right step.view.batches behind batch back)))
          ]
        ]

    -- and the other way round
    pub batch-goes : (batch : Batch) → Contains (all_batches (sight scope core)) batch → Contains step.view.batches batch ⊎ Contains (all_batches (sight scope (after_step kind core step))) batch
    batch-goes batch among =
        elim (Contains-append_cases ahead (step.view.batches ++ behind) batch (subst (λ (l : List Batch). Contains l batch) batches-before among)) [
          | inl front ↦ inr (subst (λ (l : List Batch). Contains l batch) (sym batches-after) (Contains-append_left ahead (Last.batches ++ behind) batch front))
          | inr rest ↦ elim (Contains-append_cases step.view.batches behind batch rest) [
            | inl own ↦ inl own
            | inr back ↦ inr (subst (λ (l : List Batch). Contains l batch) (sym batches-after) (Contains-append_right ahead (Last.batches ++ behind) batch (Contains-append_right Last.batches behind batch back)))
          ]
        ]

    pub own-before : (batch : Batch) → Contains step.view.batches batch → Contains (all_batches (sight scope core)) batch
    own-before batch own =
        subst (λ (l : List Batch). Contains l batch) (sym batches-before) (Contains-append_right ahead (step.view.batches ++ behind) batch (Contains-append_left step.view.batches behind batch own))

    pub own-after : (batch : Batch) → Contains Last.batches batch → Contains (all_batches (sight scope (after_step kind core step))) batch
    own-after batch own =
        subst (λ (l : List Batch). Contains l batch) (sym batches-after) (Contains-append_right ahead (Last.batches ++ behind) batch (Contains-append_left Last.batches behind batch own))

  -- ---- what is said of batches

  module _ (c : ChangesBatches (all_batches (sight body_scope core)) step.view.batches Last.batches) where
    abbrev Old : Sight
    Old = sight body_scope core

    abbrev pub Past : Sight
    Past = new_sight kind core step a.at a.pass (history core.log)

    slots-part : AllPairs AreOtherSlots (all_batches Past)
    slots-part =
        let before = batches-before body_scope (λ k v. refl) in
        subst (λ (l : List Batch). AllPairs AreOtherSlots l) (sym (batches-after body_scope (λ k v. refl)))
        (other_slots (ahead body_scope (λ k v. refl)) step.view.batches Last.batches (behind body_scope (λ k v. refl))
        (subst (λ (l : List Batch). ChangesBatches l step.view.batches Last.batches) before c) (subst (λ (l : List Batch). AllPairs AreOtherSlots l) before a.laws.bodies.slots))

    marked-flat : (front mid rest : List Batch) → flat_map (λ b. b.marked) (front ++ (mid ++ rest)) ≡ flat_map (λ b. b.marked) front ++ (flat_map (λ b. b.marked) mid ++ flat_map (λ b. b.marked) rest)
    marked-flat front mid rest =
        flat_map-append (λ (b : Batch). b.marked) front (mid ++ rest)
        ∙ ap (λ (l : List Marked). flat_map (λ (b : Batch). b.marked) front ++ l) (flat_map-append (λ (b : Batch). b.marked) mid rest)

    marked-same : all_marked Past ≡ all_marked Old
    marked-same =
        let front = ahead body_scope (λ k v. refl) in
        let rest = behind body_scope (λ k v. refl) in
        ap (λ (l : List Batch). flat_map (λ (b : Batch). b.marked) l) (batches-after body_scope (λ k v. refl))
        ∙ (marked-flat front Last.batches rest
        ∙ (ap (λ (l : List Marked). flat_map (λ (b : Batch). b.marked) front ++ (l ++ flat_map (λ (b : Batch). b.marked) rest)) c.marks
        ∙ (sym (marked-flat front step.view.batches rest)
        ∙ ap (λ (l : List Batch). flat_map (λ (b : Batch). b.marked) l) (sym (batches-before body_scope (λ k v. refl))))))

    held-moved : (x y : Batch) (m : Marked) → x.layer ≡ y.layer → x.slot ≡ y.slot → ((i : ℕ) → Past.word (Phase i) ≡ Old.word (Phase i)) → ((i k : ℕ) → Past.word (BoxWord i k) ≡ Old.word (BoxWord i k))
        → IsHeldFor Old x m → IsHeldFor Past y m
    held-moved x y m layer slot phases boxes was = record {
      held = subst (λ (l : ℕ). HasBody (scene_in Old) m.index (λ r. (r.phase ≡ Held) × (r.layer ≡ l))) layer was.held;
      phase = phases m.index ∙ (was.phase ∙ ap phase_join slot);
      bounds = λ k below. boxes m.index k ∙ was.bounds k below;
    }

    pub batch-part : ((i : ℕ) → Past.word (Phase i) ≡ Old.word (Phase i)) → ((i k : ℕ) → Past.word (BoxWord i k) ≡ Old.word (BoxWord i k))
        → ((l t number : ℕ) → suc number < 1024 → (Past.word (Slot l t) ≡ reserved_by number) ↔ HasPass Past number (HoldsSlot l t)) → BatchPart Past
    batch-part phases boxes reserved = record {
      reserved = reserved;
      slots = slots-part;
      marked = λ batch m among marked.
          elim (batch-came body_scope (λ k v. refl) batch among) [
            | inl own ↦
                let t = c.back batch m own marked in
                held-moved t.0 batch m t.3 t.4 phases boxes (a.laws.bodies.marked t.0 m (own-before body_scope (λ k v. refl) t.0 t.1) t.2)
            | inr old ↦ held-moved batch batch m refl refl phases boxes (a.laws.bodies.marked batch m old marked)
          ];
      held = λ i has.
          let t = a.laws.bodies.held i has in
          elim (batch-goes body_scope (λ k v. refl) t.0 t.2) [
            | inl own ↦
                let u = c.forth t.0 t.1 own t.3 in
                (u.0, t.1, own-after body_scope (λ k v. refl) u.0 u.1, u.2, t.4)
            | inr new ↦ (t.0, t.1, new, t.3, t.4)
          ];
      once = subst (λ (m : List Marked). AllPairs (λ (a : Marked) (b : Marked). a.index ≢ b.index) m) (sym marked-same) a.laws.bodies.once;
    }

    -- a slot whose word is not stored is held as it was
    pub slot-kept : (l t number : ℕ) → suc number < 1024 → Past.word (Slot l t) ≡ Old.word (Slot l t) → (HoldsSlot l t step.view ↔ HoldsSlot l t Last)
        → (Past.word (Slot l t) ≡ reserved_by number) ↔ HasPass Past number (HoldsSlot l t)
    slot-kept l t number below same holds = (
      λ e. has-step body_scope (λ k v. refl) kind core step a.at a.pass number (HoldsSlot l t) (HoldsSlot l t) ((a.laws.bodies.reserved l t number below).0 (sym same ∙ e))
          (λ seat view apart found own has. has) (λ one has. holds.0 has),
      λ has. same ∙ (a.laws.bodies.reserved l t number below).1
          (has-unstep body_scope (λ k v. refl) kind core step a.at a.pass number (HoldsSlot l t) (HoldsSlot l t) has
          (λ seat view apart found own has. has) (λ one has. holds.1 has)),
    )

    -- ---- locations

    -- each body that is marked afterwards was marked in a batch with no other nodes
    pub marked-was : (batch : Batch) (m : Marked) → Contains (all_batches (sight location_scope (after_step kind core step))) batch → Contains batch.marked m
        → (old : Batch) × Contains (all_batches (sight location_scope core)) old × Contains old.marked m × ((n : ℕ) → Contains old.nodes n → Contains batch.nodes n)
    marked-was batch m among marked =
        elim (batch-came location_scope (λ k v. refl) batch among) [
          | inl own ↦
              let t = c.back batch m own marked in
              (t.0, own-before location_scope (λ k v. refl) t.0 t.1, t.2, t.5)
          | inr old ↦ (batch, old, marked, λ n inside. inside)
        ]
