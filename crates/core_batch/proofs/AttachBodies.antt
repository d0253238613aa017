-- The bodies agree where a batch was attached.
use Rattle.std.proofs.Common.{◌≡◌, ◌≢◌, ℕ, zero, suc, ◌+◌, ◌-◌, ◌<◌, ◌≤◌, ◌++◌, length, get_or, Option, Some, None, Contains, IsSomeAnd, refl, ap, sym, ◌∙◌, subst, inl, inr, arith, nat_eq}
use Rattle.std.specs.Prelude.{All, ⊤, is_some}
use Rattle.std.specs.List.{IsDistinct, range_with_len}
use Rattle.std.proofs.lemmas.Bool.{false≢true, eqb-true, eq-eqb, le-ltb, lt-ltb, cases_lt}
use Rattle.std.proofs.lemmas.Option.{same_Some}
use Rattle.std.proofs.lemmas.List.Elements.{Contains-get_or}
use Rattle.std.proofs.lemmas.Map.Made.{IsDistinct-from_AllPairs}
use Rattle.scene_model.specs.declared.body_view.Phase.TheVariants.{Held, In}
use Rattle.scene_model.specs.declared.entry.Entry.TheVariants.{Join}
use Rattle.scene_model.specs.Scene.{Record, Place, Scene, place_at, record_at}
use Rattle.scene_model.specs.Step.{HasBody, IsLawful, in_phase}
use Rattle.scene_model.proofs.Batches.{put_in, place_at-fold_phase, JoinsOnly-fold}
use Rattle.word_map.specs.declared.name.Name.{Name}
use Rattle.word_map.specs.declared.name.Name.TheVariants.{SlotHead, SlotNext, State, Phase, Layer, User, BoxWord, Slot}
use Rattle.core_state.specs.declared.view.Marked.{Marked}
use Rattle.core_state.specs.declared.view.Batch.{Batch}
use Rattle.core_state.specs.declared.view.View.{View}
use Rattle.core_state.specs.Log.{history}
use Rattle.core_state.specs.Core.{Core, word_of, scene_of}
use Rattle.core_state.specs.Encoding.{reserved_by, slot_tree, phase_join}
use Rattle.core_state.specs.Formed.{IsFormed}
use Rattle.core_state.specs.Guards.{GuardsHold}
use Rattle.core_state.specs.Scope.{Sight, sight, bare_view, HasPass, EachPass}
use Rattle.core_state.specs.Bodies.{state_word, phase_by, phase_by_slot, free_indexes, IsForSlot, AreOtherSlots, all_batches, all_marked}
use Rattle.core_state.specs.BodiesAgree.{BodiesAgree, body_scope, HasWordsOf, IsHeldFor}
use Rattle.core_state.specs.Batches.{attach}
use Rattle.core_state.specs.Invariants.{Invariants}
use Rattle.core_state.proofs.SameNames.{cases_name}
use Rattle.core_state.proofs.Steps.{view-step}
use Rattle.core_guard.proofs.Seats.{seen_at, seat_seen, each-seat, each-step, has-step, has-unstep, steps_now, stays as seat_stays, seat-before}
use Rattle.core_guard.proofs.OneBody.{lawful-made}
use Rattle.core_guard.proofs.BodiesStep.{WordsPart, ListPart, BatchPart, HoldsSlot, together, unstored, new_sight, bodies-agree, whole-back, stripe-part, list-stays}
use Rattle.core_state.proofs.Beginning.{contains_flat, body_record, record_body}
use Rattle.core_batch.proofs.Lists.{contains_map, map_from, pairs-map, IsPartOf, part-contains, part-pairs, part-flat, part-one}
use Rattle.core_batch.proofs.Attaching.{Attaching, step_of, was_reserved, no_other, in_all, only_batch, IsJoining, joining}
use Rattle.core_batch.proofs.Attached.{joined, past_of, scene_then, scene-then, past-after, joins, stays, becomes, core_after, word-slot}
use Rattle.core_batch.proofs.BatchesLeft.{left_view, left-from, left-there, batches-left}
use Rattle.core_batch.proofs.SlotLists.{slot_one}
use Rattle.core_batch.proofs.Owning.{number-low}
use Rattle.core_guard.proofs.NodesLeft.{flat_from}

-- ---- words

-- a place keeps its state word when its body comes into the broad phase
state-put : (at : Place) → state_word (put_in In at) ≡ state_word at
state-put at = go at.body refl
  where
    go : (o : Option Record) → at.body ≡ o → state_word (put_in In at) ≡ state_word at
    go None e = rw e refl
    go (Some r) e = rw e refl

-- a phase that names a slot with a tree says in, and one that names a reserved slot held
slot-in : (w : ℕ) → 1024 ≤ w → phase_by_slot w ≡ Some In
slot-in zero h = absurd (omega arith)
slot-in (suc w) h = let test = le-ltb (suc w) 1024 h in rw test refl

slot-held : (number : ℕ) → suc number < 1024 → phase_by_slot (suc number) ≡ Some Held
slot-held number h = let test = lt-ltb (suc number) 1024 h in rw test refl

phase-names : (p t slot : ℕ) → p ≡ phase_join t → phase_by p slot ≡ phase_by_slot slot
phase-names p t slot e = let two : p ≡ suc (suc t) = omega arith in ap (λ (n : ℕ). phase_by n slot) two

-- one that names no slot reads none
phase-unread : (p a b : ℕ) → p < 2 → phase_by p a ≡ phase_by p b
phase-unread zero a b h = refl
phase-unread (suc zero) a b h = refl
phase-unread (suc (suc p)) a b h = absurd (omega arith)

module _ (core : Core) (a : Attaching core) (formed : IsFormed core) (h : Invariants core) (guards : GuardsHold core) where
  abbrev Old : Sight
  Old = sight body_scope core

  abbrev New : Sight
  New = new_sight attach core (step_of core a) a.at a.pass (past_of core a)

  -- the words that are not the slot's
  same_word : (name : Name) → name ≢ Slot a.layer a.slot → New.word name ≡ Old.word name
  same_word name other = unstored attach core (step_of core a) a.at a.pass name other

  slot_word : New.word (Slot a.layer a.slot) ≡ slot_tree a.root
  slot_word = word-slot core a

  -- ---- the entry is lawful

  joined_some : 0 < length (joined a)
  joined_some =
      let t = a.whole.some in
      let c = contains_map (λ (m : Marked). m.index) a.batch.marked t.0 t.1 in
      let below = c.1 in
      omega arith

  joined_apart : IsDistinct nat_eq (joined a)
  joined_apart =
      IsDistinct-from_AllPairs (λ x y. (eqb-true x y, eq-eqb x y)) (joined a)
      (pairs-map (λ (m : Marked). m.index) (λ (m : Marked) (k : Marked). m.index ≢ k.index) (λ x y. x ≢ y) a.batch.marked (λ m k apart. apart)
      (part-pairs (λ (m : Marked) (k : Marked). m.index ≢ k.index) a.batch.marked (all_marked Old)
      (part-one (λ (b : Batch). b.marked) (all_batches Old) a.batch (in_all core a formed h)) h.bodies.once))

  joined_held : All (λ i. HasBody (scene_of core) i (λ r. (r.phase ≡ Held) × (r.layer ≡ a.layer))) (joined a)
  joined_held k d below =
      let t = map_from (λ (m : Marked). m.index) a.batch.marked (get_or (joined a) k d) (Contains-get_or (joined a) k d below) in
      let j = joining core a formed h guards t.0 t.1 in
      subst (λ (i : ℕ). HasBody (scene_of core) i (λ r. (r.phase ≡ Held) × (r.layer ≡ a.layer))) t.2
      (record_body (record_at (scene_of core) t.0.index) (λ r. (r.phase ≡ Held) × (r.layer ≡ a.layer)) j.body j.live (j.held, j.in_layer))

  join_lawful : IsLawful core.config.layers (scene_of core) (Join a.layer (joined a))
  join_lawful = ((joined_some, joined_apart, joined_held), tt)

  -- ---- the words of bodies

  state-same : (i : ℕ) → state_word (place_at (scene_then core a) i) ≡ state_word (place_at (scene_of core) i)
  state-same i =
      ap (λ (scene : Scene). state_word (place_at scene i)) (scene-then core a formed h)
      ∙ elim (place_at-fold_phase In (joined a) (scene_of core) i) [
        | inl at ↦ ap state_word at.1 ∙ state-put (place_at (scene_of core) i)
        | inr not ↦ ap state_word not.1
      ]

  -- a held body whose phase names the slot is one of the batch
  held_in : (i : ℕ) (r : Record) → record_at (scene_of core) i ≡ Some r → r.phase ≡ Held → r.layer ≡ a.layer → word_of core (Phase i) ≡ phase_join a.slot
      → (m : Marked) × Contains a.batch.marked m × (m.index ≡ i)
  held_in i r live held layer phase =
      let t = h.bodies.held i (record_body (record_at (scene_of core) i) (λ q. q.phase ≡ Held) r live held) in
      let for = h.bodies.marked t.0 t.1 t.2 t.3 in
      let q = body_record (record_at (scene_of core) t.1.index) _ for.held in
      let same : q.0 ≡ r = same_Some q.0 r (sym q.1 ∙ (ap (λ (k : ℕ). record_at (scene_of core) k) t.4 ∙ live)) in
      let slot : t.0.slot ≡ a.slot = (let one = sym for.phase ∙ (ap (λ (k : ℕ). word_of core (Phase k)) t.4 ∙ phase) in omega arith) in
      let layer_of : t.0.layer ≡ a.layer = sym q.2.1 ∙ (ap (λ (p : Record). p.layer) same ∙ layer) in
      let one : t.0 ≡ a.batch = only_batch core a formed h t.0 t.2 (layer_of, slot) in
      (t.1, subst (λ (b : Batch). Contains b.marked t.1) one t.3, t.4)

  joined-words : (i : ℕ) (m : Marked) → IsJoining core a.layer a.slot a.batch m i → (r : Record) → record_at (scene_of core) i ≡ Some r → r.phase ≡ Held → r.layer ≡ a.layer → HasWordsOf New i (in_phase In r)
  joined-words i m j r live held layer =
      let was = h.bodies.live i r live in
      let phase : New.word (Phase i) ≡ phase_join a.slot = same_word (Phase i) (λ e. absurd cc) ∙ j.phase in
      let slot : New.word (Slot r.layer (New.word (Phase i) - 2)) ≡ slot_tree a.root =
      (λ k. New.word (Slot (layer k) ((let index : New.word (Phase i) - 2 ≡ a.slot = omega arith in index) k))) ∙ slot_word in
      record {
        layer = same_word (Layer i) (λ e. absurd cc) ∙ was.layer;
        user = same_word (User i) (λ e. absurd cc) ∙ was.user;
        user_fits = was.user_fits;
        bounds = λ whole k below.
            same_word (BoxWord i k) (λ e. absurd cc) ∙ was.bounds (whole-back attach core (step_of core a) a.at a.pass (past_of core a) i (λ between. between) whole) k below;
        phase =
            phase-names (New.word (Phase i)) a.slot (New.word (Slot r.layer (New.word (Phase i) - 2))) phase
            ∙ (ap phase_by_slot slot ∙ slot-in (slot_tree a.root) (omega arith));
        slot = subst (λ (n : ℕ). n < 2 + core.config.slots) (sym (same_word (Phase i) (λ e. absurd cc))) was.slot;
      }

  -- a body that does not join has a phase word that names another slot, or none
  other-phase : (i : ℕ) (r : Record) → ((m : Marked) → Contains a.batch.marked m → m.index ≢ i) → record_at (scene_of core) i ≡ Some r
      → phase_by (Old.word (Phase i)) (New.word (Slot r.layer (Old.word (Phase i) - 2))) ≡ Some r.phase
  other-phase i r apart live =
      let was = (h.bodies.live i r live).phase in
      elim (cases_name (Slot r.layer (Old.word (Phase i) - 2)) (Slot a.layer a.slot)) [
        | inr other ↦ ap (phase_by (Old.word (Phase i))) (same_word (Slot r.layer (Old.word (Phase i) - 2)) other) ∙ was
        | inl same ↦
            let parts = slot_one r.layer (Old.word (Phase i) - 2) a.layer a.slot same in
            elim (cases_lt (Old.word (Phase i)) 2) [
              | inl few ↦ phase-unread (Old.word (Phase i)) (New.word (Slot r.layer (Old.word (Phase i) - 2))) (Old.word (Slot r.layer (Old.word (Phase i) - 2))) few ∙ was
              | inr many ↦
                  let index = parts.1 in
                  let phase : Old.word (Phase i) ≡ phase_join a.slot = omega arith in
                  let reserved : Old.word (Slot r.layer (Old.word (Phase i) - 2)) ≡ suc a.number = ap (λ (n : Name). Old.word n) same ∙ was_reserved core a formed h in
                  let held : Some Held ≡ Some r.phase =
                  sym (slot-held a.number (number-low core formed a.seat a.number a.view a.at a.pass))
                  ∙ (ap phase_by_slot (sym reserved) ∙ (sym (phase-names (Old.word (Phase i)) a.slot (Old.word (Slot r.layer (Old.word (Phase i) - 2))) phase) ∙ was)) in
                  let t = held_in i r live (sym (same_Some Held r.phase held)) parts.0 phase in
                  absurd (apart t.0 t.1 t.2)
            ]
      ]

  other-words : (i : ℕ) (r : Record) → ((m : Marked) → Contains a.batch.marked m → m.index ≢ i) → record_at (scene_of core) i ≡ Some r → HasWordsOf New i r
  other-words i r apart live =
      let was = h.bodies.live i r live in
      let same : New.word (Phase i) ≡ Old.word (Phase i) = same_word (Phase i) (λ e. absurd cc) in
      record {
        layer = same_word (Layer i) (λ e. absurd cc) ∙ was.layer;
        user = same_word (User i) (λ e. absurd cc) ∙ was.user;
        user_fits = was.user_fits;
        bounds = λ whole k below.
            same_word (BoxWord i k) (λ e. absurd cc) ∙ was.bounds (whole-back attach core (step_of core a) a.at a.pass (past_of core a) i (λ between. between) whole) k below;
        phase = (λ k. phase_by (same k) (New.word (Slot r.layer (same k - 2)))) ∙ other-phase i r apart live;
        slot = subst (λ (n : ℕ). n < 2 + core.config.slots) (sym same) was.slot;
      }

  words-then : (i : ℕ) (r : Record) → record_at (scene_then core a) i ≡ Some r → HasWordsOf New i r
  words-then i r e =
      elim (becomes core a formed h guards i) [
        | joins m marked j was is ↦ subst (HasWordsOf New i) (same_Some (in_phase In j.body) r (sym is ∙ e)) (joined-words i m j j.body j.live j.held j.in_layer)
        | stays apart is ↦ other-words i r apart (sym is ∙ e)
      ]

  words : WordsPart New
  words = record {
    lawful = lawful-made core.config.layers core.config.bodies a.number (history core.log) (Join a.layer (joined a)) h.bodies.lawful join_lawful;
    state = λ i below. same_word (State i) (λ e. absurd cc) ∙ (h.bodies.state i below ∙ sym (state-same i));
    live = words-then;
    dead = λ i none.
        same_word (Phase i) (λ e. absurd cc)
        ∙ elim (becomes core a formed h guards i) [
          | joins m marked j was is ↦ absurd (false≢true (sym none ∙ ap is_some is))
          | stays apart is ↦ h.bodies.dead i (ap is_some (sym is) ∙ none)
        ];
  }

  -- ---- the list

  free-same : free_indexes (scene_then core a) ≡ free_indexes (scene_of core)
  free-same =
      let j = JoinsOnly-fold (scene_of core) (joined a) in
      ap free_indexes (scene-then core a formed h) ∙ (λ i. j.freed i ++ range_with_len (j.used i) (j.bodies i - j.used i))

  list : ListPart New
  list =
      list-stays attach core (step_of core a) a.at a.pass (past_of core a) h.bodies refl refl (same_word SlotHead (λ e. absurd cc)) (λ i. same_word (SlotNext i) (λ e. absurd cc)) free-same

  -- ---- batches

  batches-part : IsPartOf (all_batches New) (all_batches Old)
  batches-part = batches-left core a body_scope (λ bare view. refl)

  -- none that is left is for the slot
  none_left : (b : Batch) → Contains (all_batches New) b → ¬ IsForSlot a.layer a.slot b
  none_left b among =
      let t = flat_from (λ (v : View). v.batches) New.passes b among in
      let from = seen_at body_scope (core_after core a) t.0 t.1 in
      let each : EachPass New (λ number view. (c : Batch) → Contains view.batches c → ¬ IsForSlot a.layer a.slot c) =
      each-step body_scope (λ n v. refl) attach core (step_of core a) a.at a.pass (λ number view. ⊤) (λ number view. (c : Batch) → Contains view.batches c → ¬ IsForSlot a.layer a.slot c) (λ number view c is. tt)
      (λ seat number view apart at pass old c own for. no_other core a formed h seat number view apart at pass (c, own, for))
      (λ old c own. (left-from core a c own).1) in
      let own : Contains (body_scope.part (bare_view from.number) from.view).batches b = subst (λ (v : View). Contains v.batches b) (sym from.is) t.2 in
      each-seat body_scope (λ n v. refl) (core_after core a) (λ number view. (c : Batch) → Contains view.batches c → ¬ IsForSlot a.layer a.slot c) each from.seat from.number from.view from.at from.pass b own

  -- and all others are left
  others_left : (b : Batch) → Contains (all_batches Old) b → ¬ IsForSlot a.layer a.slot b → Contains (all_batches New) b
  others_left b among other =
      let t = flat_from (λ (v : View). v.batches) Old.passes b among in
      let from = seen_at body_scope core t.0 t.1 in
      let own : Contains from.view.batches b = subst (λ (v : View). Contains v.batches b) (sym from.is) t.2 in
      elim (seat-before body_scope (λ n v. refl) attach core (step_of core a) a.at a.pass from.seat from.number from.view from.at from.pass) [
        | steps_now same one two ↦
            contains_flat (λ (v : View). v.batches) New.passes (body_scope.part (bare_view a.number) (left_view core a)) b
            (seat_seen body_scope (core_after core a) a.seat a.number (left_view core a) (view-step attach core (step_of core a) a.at) a.pass)
            (left-there core a b (subst (λ (v : View). Contains v.batches b) (sym one) own) other)
        | seat_stays apart new ↦
            contains_flat (λ (v : View). v.batches) New.passes (body_scope.part (bare_view from.number) from.view) b (seat_seen body_scope (core_after core a) from.seat from.number from.view new from.pass) own
      ]

  reserved-forth : (l t number : ℕ) → suc number < 1024 → New.word (Slot l t) ≡ reserved_by number → HasPass New number (HoldsSlot l t)
  reserved-forth l t number few e =
      elim (cases_name (Slot l t) (Slot a.layer a.slot)) [
        | inl same ↦ let now = ap (λ (n : Name). New.word n) (sym same) ∙ e in let tree = slot_word in absurd (omega arith)
        | inr other ↦
            has-step body_scope (λ n v. refl) attach core (step_of core a) a.at a.pass number (HoldsSlot l t) (HoldsSlot l t) ((h.bodies.reserved l t number few).0 (sym (same_word (Slot l t) other) ∙ e))
            (λ seat view apart at pass has. has)
            (λ same has. (has.0, left-there core a has.0 has.1 (λ for. other (λ i. Slot ((sym has.2.0 ∙ for.0) i) ((sym has.2.1 ∙ for.1) i))), has.2))
      ]

  reserved-back : (l t number : ℕ) → suc number < 1024 → HasPass New number (HoldsSlot l t) → New.word (Slot l t) ≡ reserved_by number
  reserved-back l t number few has =
      elim (cases_name (Slot l t) (Slot a.layer a.slot)) [
        | inl same ↦
            let parts = slot_one l t a.layer a.slot same in
            let none : HasPass Old number (λ v. ⊥) =
            has-unstep body_scope (λ n v. refl) attach core (step_of core a) a.at a.pass number (λ v. ⊥) (HoldsSlot l t) has
            (λ seat view apart at pass own. no_other core a formed h seat number view apart at pass (own.0, own.1, (own.2.0 ∙ parts.0, own.2.1 ∙ parts.1)))
            (λ one own. (left-from core a own.0 own.1).1 (own.2.0 ∙ parts.0, own.2.1 ∙ parts.1)) in
            absurd none.3
        | inr other ↦
            same_word (Slot l t) other
            ∙ (h.bodies.reserved l t number few).1
            (has-unstep body_scope (λ n v. refl) attach core (step_of core a) a.at a.pass number (HoldsSlot l t) (HoldsSlot l t) has (λ seat view apart at pass own. own)
            (λ one own. (own.0, (left-from core a own.0 own.1).0, own.2)))
      ]

  held-kept : (b : Batch) (m : Marked) → Contains (all_batches New) b → Contains b.marked m → IsHeldFor New b m
  held-kept b m among marked =
      let was = h.bodies.marked b m (part-contains (all_batches New) (all_batches Old) b batches-part among) marked in
      let t = body_record (record_at (scene_of core) m.index) (λ r. (r.phase ≡ Held) × (r.layer ≡ b.layer)) was.held in
      elim (becomes core a formed h guards m.index) [
        | joins k of_batch j old is ↦
            let slot : b.slot ≡ a.slot = (let one = sym was.phase ∙ j.phase in omega arith) in
            let layer : b.layer ≡ a.layer = sym t.2.1 ∙ (ap (λ (r : Record). r.layer) (same_Some t.0 j.body (sym t.1 ∙ old)) ∙ j.in_layer) in
            absurd (none_left b among (layer, slot))
        | stays apart is ↦ record {
          held = subst (λ (o : Option Record). IsSomeAnd o (λ r. (r.phase ≡ Held) × (r.layer ≡ b.layer))) (sym is) was.held;
          phase = same_word (Phase m.index) (λ e. absurd cc) ∙ was.phase;
          bounds = λ k below. same_word (BoxWord m.index k) (λ e. absurd cc) ∙ was.bounds k below;
        }
      ]

  held-then : (i : ℕ) → HasBody (scene_then core a) i (λ r. r.phase ≡ Held) → (b : Batch) × (m : Marked) × Contains (all_batches New) b × Contains b.marked m × (m.index ≡ i)
  held-then i held =
      elim (becomes core a formed h guards i) [
        | joins m marked j old is ↦ absurd (in_held (subst (λ (o : Option Record). IsSomeAnd o (λ r. r.phase ≡ Held)) is held))
        | stays apart is ↦
            let t = h.bodies.held i (subst (λ (o : Option Record). IsSomeAnd o (λ r. r.phase ≡ Held)) is held) in
            let other : ¬ IsForSlot a.layer a.slot t.0 = λ for. apart t.1 (subst (λ (b : Batch). Contains b.marked t.1) (only_batch core a formed h t.0 t.2 for) t.3) t.4 in
            (t.0, t.1, others_left t.0 t.2 other, t.3, t.4)
      ]
    where
      in_held : In ≡ Held → ⊥
      in_held e = absurd cc

  batches : BatchPart New
  batches = record {
    reserved = λ l t number few. (reserved-forth l t number few, reserved-back l t number few);
    slots = part-pairs AreOtherSlots (all_batches New) (all_batches Old) batches-part h.bodies.slots;
    marked = held-kept;
    held = held-then;
    once =
        part-pairs (λ (m : Marked) (k : Marked). m.index ≢ k.index) (all_marked New) (all_marked Old) (part-flat (λ (b : Batch). b.marked) (all_batches New) (all_batches Old) batches-part) h.bodies.once;
  }

  pub BodiesAgree-attach : BodiesAgree (core_after core a)
  BodiesAgree-attach =
      bodies-agree attach core (step_of core a) a.at a.pass (past_of core a) (past-after core a formed h)
      (together New words list (stripe-part attach core (step_of core a) a.at a.pass (past_of core a) h.bodies (λ was. was)) batches)
