-- What the bodies say of batches, where one pass has other batches in the same slots.
use Rattle.std.proofs.Common.{◌≡◌, ◌≢◌, ◌⊎◌, ℕ, List, Option, Some, None, option_map, refl, ap, sym, ◌∙◌, subst, inl, inr}
use Rattle.std.specs.Prelude.{Contains, AllPairs, map, flat_map}
use Rattle.std.proofs.lemmas.Bool.{cases_eq}
use Rattle.std.proofs.lemmas.List.Folds.{flat_map-map}
use Rattle.scene_model.specs.declared.body_view.Phase.TheVariants.{Held}
use Rattle.scene_model.specs.declared.entry.Made.{Made}
use Rattle.scene_model.specs.Step.{HasBody}
use Rattle.word_map.specs.declared.name.Name.TheVariants.{Slot}
use Rattle.core_state.specs.declared.view.Marked.{Marked}
use Rattle.core_state.specs.declared.view.Batch.{Batch}
use Rattle.core_state.specs.declared.view.View.{View}
use Rattle.core_state.specs.View.{number_of, IsPass}
use Rattle.core_state.specs.Core.{Core, IsViewAt}
use Rattle.core_state.specs.Kind.{Kind, Step, view_after, after_step}
use Rattle.core_state.specs.Scope.{Sight, sight, part_of, bare_view, scene_in}
use Rattle.core_state.specs.Bodies.{AreOtherSlots, all_batches, all_marked}
use Rattle.core_state.specs.BodiesAgree.{BodiesAgree, body_scope, IsHeldFor}
use Rattle.core_state.specs.LocationsHold.{location_scope}
use Rattle.core_state.proofs.Beginning.{contains_flat}
use Rattle.core_state.proofs.Steps.{view-step, view-step-other}
use Rattle.core_guard.proofs.Seats.{KeepsNumber, seen_at, seat_seen, seat-after, stepped, stayed, has-step, has-unstep, SeatAfter}
use Rattle.core_guard.proofs.BodiesStep.{new_sight, HoldsSlot, BatchPart}
use Rattle.core_batch.proofs.Lists.{contains_at, at_contains, contains_map, map_from, pairs-map, flat-own, flat-apart, flat-changed, flat-flat, kept_list, flat-kept}
use mathlib.Core.Option.{some-injective}
use Rattle.core_state.proofs.Lookups.{at_one}
use lib.ListN.{get_elem?}
use Rattle.core_guard.proofs.NodesLeft.{flat_from}

keeps : KeepsNumber body_scope
keeps number view = refl

-- ---- who holds a batch

-- a pass has it
pub record IsHolder (core : Core) (batch : Batch) : Type 0 where
  pub seat : ℕ
  pub number : ℕ
  pub view : View
  pub at : IsViewAt core seat view
  pub pass : IsPass view number
  pub among : Contains view.batches batch

pub holder : (core : Core) (batch : Batch) → Contains (all_batches (sight body_scope core)) batch → IsHolder core batch
holder core batch h =
    let t = flat_from (λ v. v.batches) (sight body_scope core).passes batch h in
    let s = seen_at body_scope core t.0 t.1 in
    record { seat = s.seat; number = s.number; view = s.view; at = s.at; pass = s.pass; among = subst (λ (v : View). Contains v.batches batch) (sym s.is) t.2 }

pub held-by : (core : Core) (seat number : ℕ) (view : View) (batch : Batch) → IsViewAt core seat view → IsPass view number → Contains view.batches batch → Contains (all_batches (sight body_scope core)) batch
held-by core seat number view batch at pass among = contains_flat (λ v. v.batches) (sight body_scope core).passes _ batch (seat_seen body_scope core seat number view at pass) among

-- ---- batches and marks by seats

-- what the view of a seat has
abbrev seat_batches : View → List Batch
seat_batches view = kept_list (λ v. v.batches) (part_of body_scope view)

abbrev marks_in : List Batch → List Marked
marks_in batches = flat_map (λ b. b.marked) batches

abbrev seat_marks : View → List Marked
seat_marks view = marks_in (seat_batches view)

batches-seats : (core : Core) → all_batches (sight body_scope core) ≡ flat_map seat_batches core.views
batches-seats core = flat-kept (part_of body_scope) (λ v. v.batches) core.views

marks-seats : (core : Core) → all_marked (sight body_scope core) ≡ flat_map seat_marks core.views
marks-seats core = ap marks_in (batches-seats core) ∙ flat-flat seat_batches (λ b. b.marked) core.views

-- what the law of locations sees of batches is what the law of bodies sees
pub location-batches : (core : Core) → all_batches (sight location_scope core) ≡ all_batches (sight body_scope core)
location-batches core =
    flat-kept (part_of location_scope) (λ v. v.batches) core.views
    ∙ (ap (λ (f : View → List Batch). flat_map f core.views) (λ i view. seen view (number_of view) i) ∙ sym (batches-seats core))
  where
    seen : (view : View) (o : Option ℕ) → kept_list (λ v. v.batches) (option_map (λ n. location_scope.part (bare_view n) view) o) ≡ kept_list (λ v. v.batches) (option_map (λ n. body_scope.part (bare_view n) view) o)
    seen view None = refl
    seen view (Some n) = refl

seat-batches : (view : View) (number : ℕ) → IsPass view number → seat_batches view ≡ view.batches
seat-batches view number pass = ap (λ (o : Option ℕ). kept_list (λ v. v.batches) (option_map (λ n. body_scope.part (bare_view n) view) o)) pass

-- two marks of other bodies
abbrev pub AreOtherBodies : Marked → Marked → Type 0
AreOtherBodies a b = a.index ≢ b.index

other_turns : (a b : Marked) → AreOtherBodies a b → AreOtherBodies b a
other_turns a b h e = h (sym e)

slots_turn : (a b : Batch) → AreOtherSlots a b → AreOtherSlots b a
slots_turn a b h e = h (sym e.0, sym e.1)

-- ---- what the law gives of a pass

module _ (core : Core) (h : BodiesAgree core) where
  slots-seats : AllPairs AreOtherSlots (flat_map seat_batches core.views)
  slots-seats = subst (AllPairs AreOtherSlots) (batches-seats core) h.slots

  once-seats : AllPairs AreOtherBodies (flat_map seat_marks core.views)
  once-seats = subst (AllPairs AreOtherBodies) (marks-seats core) h.once

  module _ (seat number : ℕ) (view : View) (at : IsViewAt core seat view) (pass : IsPass view number) where
    pub own-slots : AllPairs AreOtherSlots view.batches
    own-slots = subst (AllPairs AreOtherSlots) (seat-batches view number pass) (flat-own seat_batches AreOtherSlots core.views seat view slots-seats at)

    pub own-marks : AllPairs AreOtherBodies (marks_in view.batches)
    own-marks = subst (λ (l : List Batch). AllPairs AreOtherBodies (marks_in l)) (seat-batches view number pass) (flat-own seat_marks AreOtherBodies core.views seat view once-seats at)

    has-batch : (batch : Batch) → Contains view.batches batch → Contains (seat_batches view) batch
    has-batch batch h = subst (λ (l : List Batch). Contains l batch) (sym (seat-batches view number pass)) h

    -- a body that it has marked another pass has not
    pub marks-apart : (other second : ℕ) (next : View) (b c : Batch) (m n : Marked) → other ≢ seat → IsViewAt core other next → IsPass next second → Contains view.batches b → Contains b.marked m
        → Contains next.batches c → Contains c.marked n → m.index ≢ n.index
    marks-apart other second next b c m n apart found own among marked inside held =
        flat-apart seat_marks AreOtherBodies core.views seat other view next m n other_turns once-seats (λ e. apart (sym e)) at found
        (contains_flat (λ x. x.marked) (seat_batches view) b m (has-batch b among) marked)
        (contains_flat (λ x. x.marked) (seat_batches next) c n (subst (λ (l : List Batch). Contains l c) (sym (seat-batches next second own)) inside) held)

    -- it has marked the body in one batch
    pub marked-once : (b c : Batch) (m n : Marked) → Contains view.batches b → Contains b.marked m → Contains view.batches c → Contains c.marked n → m.index ≡ n.index → b ≡ c
    marked-once b c m n among marked inside held same =
        let p = at_contains view.batches b among in
        let q = at_contains view.batches c inside in
        elim (cases_eq p.0 q.0) [
          | inl one ↦ some-injective b c (sym p.1 ∙ (ap (λ (k : ℕ). get_elem? view.batches k) one ∙ q.1))
          | inr apart ↦ absurd (flat-apart (λ x. x.marked) AreOtherBodies view.batches p.0 q.0 b c m n other_turns own-marks apart p.1 q.1 marked held same)
        ]

-- ---- a step after which each batch of the pass is another in the same slot

module _ (kind : Kind) (core : Core) (step : Step) (at : IsViewAt core step.seat step.view) (pass : IsPass step.view step.number) (past : List Made) (h : BodiesAgree core)
    (f : Batch → Batch) (changes : (view_after kind core step).batches ≡ map f step.view.batches) (same_slot : (b : Batch) → ((f b).layer ≡ b.layer) × ((f b).slot ≡ b.slot)) where
  abbrev Old : Sight
  Old = sight body_scope core

  abbrev New : Sight
  New = new_sight kind core step at pass past

  -- a batch of another pass stays, and an own one is another
  pub data IsKeptBatch (batch : Batch) : Type 0 where
    own_batch : Contains step.view.batches batch → Contains (all_batches New) (f batch) → IsKeptBatch batch
    other_batch : (seat number : ℕ) (view : View) → seat ≢ step.seat → IsViewAt core seat view → IsPass view number → Contains view.batches batch → Contains (all_batches New) batch → IsKeptBatch batch

  pub own-kept : (batch : Batch) → Contains step.view.batches batch → Contains (all_batches New) (f batch)
  own-kept batch among =
      held-by (after_step kind core step) step.seat step.number (view_after kind core step) (f batch) (view-step kind core step at) pass
      (subst (λ (l : List Batch). Contains l (f batch)) (sym changes) (contains_map f step.view.batches batch among))

  pub batch-kept : (batch : Batch) → Contains (all_batches Old) batch → IsKeptBatch batch
  batch-kept batch among =
      let t = holder core batch among in
      elim (cases_eq t.seat step.seat) [
        | inl same ↦
            let one : step.view ≡ t.view = at_one core.views step.seat step.view t.view at (subst (λ (k : ℕ). IsViewAt core k t.view) same t.at) in
            let inside : Contains step.view.batches batch = subst (λ (v : View). Contains v.batches batch) (sym one) t.among in
            own_batch inside (own-kept batch inside)
        | inr apart ↦ other_batch t.seat t.number t.view apart t.at t.pass t.among (held-by (after_step kind core step) t.seat t.number t.view batch (view-step-other kind core step t.seat t.view apart t.at) t.pass t.among)
      ]

  -- and each comes from one
  pub data IsFromBatch (batch : Batch) : Type 0 where
    from_own : (old : Batch) → Contains step.view.batches old → f old ≡ batch → IsFromBatch batch
    from_other : (seat number : ℕ) (view : View) → seat ≢ step.seat → IsViewAt core seat view → IsPass view number → Contains view.batches batch → IsFromBatch batch

  pub batch-from : (batch : Batch) → Contains (all_batches New) batch → IsFromBatch batch
  batch-from batch among =
      let t = holder (after_step kind core step) batch among in
      go t (seat-after body_scope keeps kind core step at pass t.seat t.number t.view t.at t.pass)
    where
      go : (t : IsHolder (after_step kind core step) batch) → SeatAfter body_scope keeps kind core step at pass t.seat t.number t.view → IsFromBatch batch
      go t (stepped same one two) =
          let inside : Contains (map f step.view.batches) batch = subst (λ (l : List Batch). Contains l batch) changes (subst (λ (v : View). Contains v.batches batch) (sym one) t.among) in
          let u = map_from f step.view.batches batch inside in
          from_own u.0 u.1 u.2
      go t (stayed apart old) = from_other t.seat t.number t.view apart old t.pass t.among

  -- so what holds of the marks of each of those holds of all
  module _ (P : Batch → Marked → Type 0) (own : (old : Batch) (u : Marked) → Contains step.view.batches old → Contains (f old).marked u → P (f old) u)
      (others : (seat number : ℕ) (view : View) (b : Batch) (u : Marked) → seat ≢ step.seat → IsViewAt core seat view → IsPass view number → Contains view.batches b → Contains b.marked u → P b u) where
    marks-from : (b : Batch) (u : Marked) → Contains b.marked u → IsFromBatch b → P b u
    marks-from b u marked (from_own old has e) = subst (λ (d : Batch). P d u) e (own old u has (subst (λ (d : Batch). Contains d.marked u) (sym e) marked))
    marks-from b u marked (from_other seat number view apart found is has) = others seat number view b u apart found is has marked

    pub marks-after : (b : Batch) (u : Marked) → Contains (all_batches (sight location_scope (after_step kind core step))) b → Contains b.marked u → P b u
    marks-after b u among marked = marks-from b u marked (batch-from b (subst (λ (l : List Batch). Contains l b) (location-batches (after_step kind core step)) among))

  -- ---- slots

  slot-forth : (l t : ℕ) → HoldsSlot l t step.view → HoldsSlot l t (view_after kind core step)
  slot-forth l t has = (
    f has.0,
    subst (λ (b : List Batch). Contains b (f has.0)) (sym changes) (contains_map f step.view.batches has.0 has.1),
    ((same_slot has.0).0 ∙ has.2.0, (same_slot has.0).1 ∙ has.2.1),
  )

  slot-back : (l t : ℕ) → HoldsSlot l t (view_after kind core step) → HoldsSlot l t step.view
  slot-back l t has =
      let u = map_from f step.view.batches has.0 (subst (λ (b : List Batch). Contains b has.0) changes has.1) in
      (u.0, u.1, (sym (same_slot u.0).0 ∙ (ap (λ (b : Batch). b.layer) u.2 ∙ has.2.0), sym (same_slot u.0).1 ∙ (ap (λ (b : Batch). b.slot) u.2 ∙ has.2.1)))

  slots-kept : AllPairs AreOtherSlots (all_batches New)
  slots-kept =
      let own : AllPairs AreOtherSlots (seat_batches (view_after kind core step)) =
      subst (AllPairs AreOtherSlots) (sym (seat-batches (view_after kind core step) step.number pass ∙ changes))
      (pairs-map f AreOtherSlots AreOtherSlots step.view.batches
      (λ a b apart same. apart (sym (same_slot a).0 ∙ (same.0 ∙ (same_slot b).0), sym (same_slot a).1 ∙ (same.1 ∙ (same_slot b).1)))
      (own-slots core h step.seat step.number step.view at pass))
      in
      subst (AllPairs AreOtherSlots) (sym (batches-seats (after_step kind core step)))
      (flat-changed seat_batches AreOtherSlots core.views step.seat (view_after kind core step) (slots-seats core h) own
      (λ j z u v apart found first later.
      let w = map_from f step.view.batches u (subst (λ (l : List Batch). Contains l u) (seat-batches (view_after kind core step) step.number pass ∙ changes) first) in
      let old : AreOtherSlots w.0 v =
      flat-apart seat_batches AreOtherSlots core.views step.seat j step.view z w.0 v slots_turn (slots-seats core h) (λ e. apart (sym e)) at found
      (has-batch core h step.seat step.number step.view at pass w.0 w.1) later
      in
      let new : AreOtherSlots u v = subst (λ (x : Batch). AreOtherSlots x v) w.2 (λ same. old (sym (same_slot w.0).0 ∙ same.0, sym (same_slot w.0).1 ∙ same.1)) in
      (new, slots_turn u v new)))

  -- ---- marks

  -- each mark afterwards is of a body that was marked there, or of one that was marked nowhere
  abbrev pub StemsFrom : Batch → Marked → Type 0
  StemsFrom b u =
      ((old : Marked) × Contains b.marked old × (old.index ≡ u.index))
      ⊎ ((c : Batch) (m : Marked) → Contains (all_batches Old) c → Contains c.marked m → m.index ≢ u.index)

  module _ (stems : (b : Batch) (u : Marked) → Contains step.view.batches b → Contains (f b).marked u → StemsFrom b u) (own : AllPairs AreOtherBodies (flat_map (λ b. (f b).marked) step.view.batches)) where
    once-kept : AllPairs AreOtherBodies (all_marked New)
    once-kept =
        let same : seat_marks (view_after kind core step) ≡ flat_map (λ b. (f b).marked) step.view.batches =
        ap marks_in (seat-batches (view_after kind core step) step.number pass ∙ changes) ∙ flat_map-map (λ b. b.marked) f step.view.batches
        in
        subst (AllPairs AreOtherBodies) (sym (marks-seats (after_step kind core step)))
        (flat-changed seat_marks AreOtherBodies core.views step.seat (view_after kind core step) (once-seats core h) (subst (AllPairs AreOtherBodies) (sym same) own)
        (λ j z u v apart found first later.
        let new = apart-from j z u v apart found (subst (λ (l : List Marked). Contains l u) same first) later in
        (new, other_turns u v new)))
      where
        apart-from : (j : ℕ) (z : View) (u v : Marked) → j ≢ step.seat → IsViewAt core j z → Contains (flat_map (λ b. (f b).marked) step.view.batches) u → Contains (seat_marks z) v → AreOtherBodies u v
        apart-from j z u v apart found first later =
            let w = flat_from (λ b. (f b).marked) step.view.batches u first in
            elim (stems w.0 u w.1 w.2) [
              | inl old ↦ λ e.
                  flat-apart seat_marks AreOtherBodies core.views step.seat j step.view z old.0 v other_turns (once-seats core h) (λ s. apart (sym s)) at found
                  (contains_flat (λ x. x.marked) (seat_batches step.view) w.0 old.0 (has-batch core h step.seat step.number step.view at pass w.0 w.1) old.1) later (old.2 ∙ e)
              | inr none ↦ λ e.
                  let c = flat_from (λ x. x.marked) (seat_batches z) v later in
                  let all : Contains (all_batches Old) c.0 = subst (λ (l : List Batch). Contains l c.0) (sym (batches-seats core)) (contains_flat seat_batches core.views z c.0 (contains_at core.views j z found) c.1) in
                  none c.0 v all c.2 (sym e)
            ]

    -- what is left of the law
    pub mapped-part : ((l t : ℕ) → New.word (Slot l t) ≡ Old.word (Slot l t))
        → ((b : Batch) (u : Marked) → Contains step.view.batches b → Contains (f b).marked u → IsHeldFor New (f b) u)
        → ((seat number : ℕ) (view : View) (b : Batch) (u : Marked) → seat ≢ step.seat → IsViewAt core seat view → IsPass view number → Contains view.batches b → Contains b.marked u → IsHeldFor New b u)
        → ((i : ℕ) → HasBody (scene_in New) i (λ r. r.phase ≡ Held) → (batch : Batch) × (m : Marked) × Contains (all_batches New) batch × Contains batch.marked m × (m.index ≡ i))
        → BatchPart New
    mapped-part slots marked others held = record {
      reserved = λ l t number below. (
        λ e. has-step body_scope keeps kind core step at pass number (HoldsSlot l t) (HoldsSlot l t) ((h.reserved l t number below).0 (sym (slots l t) ∙ e))
            (λ seat view apart found is has. has) (λ same has. slot-forth l t has),
        λ has. slots l t ∙ (h.reserved l t number below).1
            (has-unstep body_scope keeps kind core step at pass number (HoldsSlot l t) (HoldsSlot l t) has
            (λ seat view apart found is one. one) (λ same one. slot-back l t one)),
      );
      slots = slots-kept;
      marked = λ batch m among inside. marks-from (λ b u. IsHeldFor New b u) marked others batch m inside (batch-from batch among);
      held = held;
      once = once-kept;
    }
