-- Marking a body for a batch: bodies agree, and the body is in no tree before and afterwards.
use Rattle.std.proofs.Common.{zero, ◌≡◌, ◌≢◌, ◌⊎◌, ℕ, suc, ◌-◌, ◌<◌, ◌≤◌, List, [], ◌∷◌, ◌++◌, Bool, true, false, cond, eqb, Option, Some, IsSome, IsSomeAnd, refl, ap, sym, ◌∙◌, subst, inl, inr, arith}
use Rattle.std.specs.Prelude.{Contains, AllPairs, map, flat_map, slice_index}
use Rattle.std.specs.List.{range_with_len}
use Rattle.std.proofs.lemmas.Bool.{false≢true, cases_eq, eqb-true, eq-eqb, lt-ltb}
use Rattle.std.proofs.lemmas.List.Folds.{flat_map-map}
use Rattle.std.proofs.lemmas.List.Elements.{Contains-append_cases, Contains-append_left, Contains-append_right}
use Rattle.scene_model.specs.declared.body_view.Phase.TheVariants.{Out, Held, In}
use Rattle.scene_model.specs.declared.entry.Entry.TheVariants.{Mark}
use Rattle.scene_model.specs.declared.entry.Made.{Made}
use Rattle.scene_model.specs.Scene.{Record, place_at, record_at}
use Rattle.scene_model.specs.Step.{HasBody, in_phase}
use Rattle.word_map.specs.declared.config.Config.{Config}
use Rattle.word_map.specs.declared.name.Name.{Name}
use Rattle.word_map.specs.declared.name.Name.TheVariants.{State, Phase, Layer, BoxWord, LocA, LocB, Slot}
use Rattle.word_map.specs.Names.{IsName, stripe_of}
use Rattle.core_state.specs.declared.view.Mode.TheVariants.{Write}
use Rattle.core_state.specs.declared.view.Task.{Task}
use Rattle.core_state.specs.declared.view.Call.{Call}
use Rattle.core_state.specs.declared.view.Marked.{Marked}
use Rattle.core_state.specs.declared.view.Batch.{Batch}
use Rattle.core_state.specs.declared.view.View.{View}
use Rattle.core_state.specs.Log.{word}
use Rattle.core_state.specs.View.{IsPass, Holds, known_word}
use Rattle.core_state.specs.Core.{Core, word_of, scene_of, IsViewAt}
use Rattle.core_state.specs.Kind.{Step, learned, found_by, view_after, after_step}
use Rattle.core_state.specs.Guards.{by_lock}
use Rattle.core_state.specs.Batches.{is_for, MayMark, marked_now, with_mark, mark_of, mark}
use Rattle.core_state.specs.Encoding.{phase_out, phase_join, slot_tree, reserved_by}
use Rattle.core_state.specs.Scope.{Sight, sight, scene_in}
use Rattle.core_state.specs.Bodies.{phase_by, IsForSlot, AreOtherSlots, all_batches}
use Rattle.core_state.specs.LocksAgree.{LocksAgree, lock_scope}
use Rattle.core_state.specs.BodiesAgree.{BodiesAgree, body_scope, IsHeldFor}
use Rattle.core_state.specs.LocationsHold.{IsPlannedIn, location_scope, is_location_store}
use Rattle.core_state.proofs.Beginning.{body_record, record_body}
use Rattle.core_state.proofs.Guarding.{live-still}
use Rattle.core_state.proofs.Opening.{only, none_in}
use Rattle.core_state.proofs.SameNames.{and_left, and_right}
use Rattle.core_guard.proofs.Scenes.{live_or_dead, state-tells_live}
use Rattle.core_guard.proofs.BodiesStep.{sound, known-now, out_phase, BatchPart}
use Rattle.core_guard.proofs.LockSteps.{LocksAgree-other}
use Rattle.core_guard.proofs.Leaving.{Acts, lawful, IsHandled, After, Touches, body_of}
use Rattle.core_guard.proofs.BodyTouch.{touches-body, location-words, record-made, stripe-alone, IsBare, bare-apart}
use Rattle.core_guard.proofs.LivesTouch.{out_unseen, out-places}
use Rattle.core_batch.proofs.Lists.{contains_at, pairs-cons, pairs-none, pairs-at, pairs-append, flat-own, flat-across, flat-pairs}
use Rattle.core_batch.proofs.Mapped.{AreOtherBodies, own-marks, own-slots, StemsFrom, mapped-part, own-kept, batch-kept, own_batch, other_batch, held-by, marks-after}
use Rattle.core_guard.proofs.CallsAgree.{same_call}
use Rattle.core_guard.proofs.PhaseAgree.{phase_past, phase_sight, other_word, record_other, record_here, held-other, held-was, phase_here, phase-agree}
use Rattle.core_batch.proofs.Owning.{number-low, slot-reserved}
use Rattle.core_batch.proofs.HeldFacts.{out_or_held, Rebatches, rebatches, slot-named, batch-no_tree, mark-planned, planned-still}

-- a test fails or passes
tells : (b : Bool) → (b ≡ true) ⊎ (b ≡ false)
tells true = inl refl
tells false = inr refl

-- the six words of a box that are known
box-words : (view : View) (index k : ℕ) → k < 6 → slice_index (map (λ q. known_word view (BoxWord index q)) (range_with_len 0 6)) k ≡ known_word view (BoxWord index k)
box-words view index zero below = refl
box-words view index (suc zero) below = refl
box-words view index (suc (suc zero)) below = refl
box-words view index (suc (suc (suc zero))) below = refl
box-words view index (suc (suc (suc (suc zero)))) below = refl
box-words view index (suc (suc (suc (suc (suc zero))))) below = refl
box-words view index (suc (suc (suc (suc (suc (suc k)))))) below = absurd (omega arith)

module _ (core : Core) (step : Step) (a : Acts core step) (asked : MayMark step.view step.name step.first step.second) where
  -- ---- the body

  below : asked.index < core.config.bodies
  below = subst (IsName core.config) asked.names a.named

  config : step.view.config ≡ core.config
  config = (sound mark core step a.at a.pass a.formed).config

  pub mark-stripe : Holds step.view (stripe_of core.config asked.index) Write
  mark-stripe = subst (λ (c : Config). Holds step.view (stripe_of c asked.index) Write) config asked.stripe

  -- it is live still, since the pass has its stripe
  live-known : 256 ≤ word core.config step.view.known (State asked.index)
  live-known = subst (λ (c : Config). 256 ≤ word c step.view.known (State asked.index)) config asked.live

  is-live : IsSome (record_at (scene_of core) asked.index)
  is-live =
      let still = live-still core step.seat step.number step.view asked.index Write (State asked.index) a.formed a.guards a.at a.pass mark-stripe live-known refl in
      let state = a.laws.bodies.state asked.index below in
      let known = live-known in
      state-tells_live (place_at (scene_of core) asked.index) (omega arith)

  body : (r : Record) × (record_at (scene_of core) asked.index ≡ Some r)
  body =
      elim (live_or_dead (record_at (scene_of core) asked.index)) [
        | inl t ↦ t
        | inr none ↦ absurd (false≢true (sym none ∙ is-live))
      ]

  -- and out
  phase-now : word_of core (Phase asked.index) ≡ phase_out
  phase-now = known-now mark core step a.at a.pass (Phase asked.index) a.formed a.guards (by_lock (stripe_of core.config asked.index) Write mark-stripe refl) ∙ asked.out

  is-out : body.0.phase ≡ Out
  is-out = sym (out_phase (word_of core (Phase asked.index)) (word_of core (Slot body.0.layer (word_of core (Phase asked.index) - 2))) body.0.phase phase-now (a.laws.bodies.live asked.index body.0 body.1).phase)

  pub mark-out : HasBody (scene_of core) asked.index (λ r. r.phase ≡ Out)
  mark-out = record_body (record_at (scene_of core) asked.index) (λ r. r.phase ≡ Out) body.0 body.1 is-out

  -- so no batch has marked it
  pub unmarked-yet : (b : Batch) (u : Marked) → Contains (all_batches (sight body_scope core)) b → Contains b.marked u → u.index ≢ asked.index
  unmarked-yet b u among marked same =
      let was = a.laws.bodies.marked b u among marked in
      let held = body_record (record_at (scene_of core) u.index) (λ r. (r.phase ≡ Held) × (r.layer ≡ b.layer)) was.held in
      out_or_held (record_at (scene_of core) asked.index) mark-out
      (subst (λ (i : ℕ). HasBody (scene_of core) i (λ r. r.phase ≡ Held)) same (record_body (record_at (scene_of core) u.index) (λ r. r.phase ≡ Held) held.0 held.1 held.2.0))

  -- it is in the layer of the batch
  layer-now : word_of core (Layer asked.index) ≡ asked.layer
  layer-now =
      live-still core step.seat step.number step.view asked.index Write (Layer asked.index) a.formed a.guards a.at a.pass mark-stripe live-known refl
      ∙ (ap (λ (c : Config). word c step.view.known (Layer asked.index)) (sym config) ∙ asked.in_layer)

  layer-here : body.0.layer ≡ asked.layer
  layer-here = sym (a.laws.bodies.live asked.index body.0 body.1).layer ∙ layer-now

  -- ---- the batches

  abbrev layer-told : ℕ
  layer-told = known_word (learned core step) (Layer asked.index)

  layer-same : layer-told ≡ asked.layer
  layer-same = ap (λ (c : Config). word c core.log (Layer asked.index)) config ∙ layer-now

  slot-same : step.first - 2 ≡ asked.slot
  slot-same = let joins = asked.joins in omega arith

  abbrev new : Marked
  new = marked_now (learned core step) asked.index

  abbrev with_new : Batch → Batch
  with_new b = record b { marked = b.marked ++ new ∷ [] }

  abbrev gets : Batch → Bool
  gets b = is_for layer-told (step.first - 2) b

  abbrev f : Batch → Batch
  f b = cond (gets b) (with_new b) b

  leaves : mark.leaves (learned core step) step.name (found_by core step) step.first step.second ≡ record (learned core step) { batches = map f step.view.batches }
  leaves = ap (λ (n : Name). with_mark (learned core step) n step.first) asked.names

  -- the batch that gets the mark is that for the slot
  gets-slot : (b : Batch) → gets b ≡ true → IsForSlot asked.layer asked.slot b
  gets-slot b e =
      let one = and_left (eqb b.layer layer-told) (eqb b.slot (step.first - 2)) e in
      let other = and_right (eqb b.layer layer-told) (eqb b.slot (step.first - 2)) e in
      (eqb-true b.layer layer-told one ∙ layer-same, eqb-true b.slot (step.first - 2) other ∙ slot-same)

  slot-gets : gets asked.batch ≡ true
  slot-gets =
      let layer = eq-eqb asked.batch.layer layer-told (asked.has.for_slot.0 ∙ sym layer-same) in
      let slot = eq-eqb asked.batch.slot (step.first - 2) (asked.has.for_slot.1 ∙ sym slot-same) in
      rw (layer, slot) refl

  got : (b : Batch) → gets b ≡ true → f b ≡ with_new b
  got b e = ap (λ (t : Bool). cond t (with_new b) b) e

  not-got : (b : Batch) → gets b ≡ false → f b ≡ b
  not-got b e = ap (λ (t : Bool). cond t (with_new b) b) e

  same_slot : (b : Batch) → ((f b).layer ≡ b.layer) × ((f b).slot ≡ b.slot)
  same_slot b = go (gets b)
    where
      go : (test : Bool) → ((cond test (with_new b) b).layer ≡ b.layer) × ((cond test (with_new b) b).slot ≡ b.slot)
      go true = (refl, refl)
      go false = (refl, refl)

  same_nodes : (b : Batch) → (f b).nodes ≡ b.nodes
  same_nodes b = go (gets b)
    where
      go : (test : Bool) → (cond test (with_new b) b).nodes ≡ b.nodes
      go true = refl
      go false = refl

  changes : (view_after mark core step).batches ≡ map f step.view.batches
  changes = ap (λ (v : View). v.batches) leaves

  -- which keep their nodes
  pub rebatches-mark : Rebatches step.view (view_after mark core step)
  rebatches-mark =
      rebatches mark core step (map f step.view.batches) leaves
      (flat_map-map (λ (b : Batch). b.nodes) f step.view.batches ∙ ap (λ (g : Batch → List ℕ). flat_map g step.view.batches) (λ i b. same_nodes b i))

  call : (view_after mark core step).call ≡ step.view.call
  call = rebatches-mark.call

  locks : (view_after mark core step).locks ≡ step.view.locks
  locks = rebatches-mark.locks

  abbrev past : List Made
  past = phase_past mark core step a.at a.pass a.laws.bodies asked.index asked.names (Mark asked.index) Held (λ scene. refl) body.0 body.1

  abbrev New : Sight
  New = phase_sight mark core step a.at a.pass a.laws.bodies asked.index asked.names (Mark asked.index) Held (λ scene. refl) body.0 body.1

  -- ---- marks

  -- a mark afterwards is one of before, or the new one in the batch that gets it
  pub data IsMark (b : Batch) (u : Marked) : Type 0 where
    old_mark : Contains b.marked u → IsMark b u
    new_mark : gets b ≡ true → new ≡ u → IsMark b u

  mark-in : (b : Batch) (u : Marked) → Contains (f b).marked u → IsMark b u
  mark-in b u marked =
      elim (tells (gets b)) [
        | inl e ↦
            elim (Contains-append_cases b.marked (new ∷ []) u (subst (λ (d : Batch). Contains d.marked u) (got b e) marked)) [
              | inl old ↦ old_mark old
              | inr last ↦ new_mark e (only new u last)
            ]
        | inr e ↦ old_mark (subst (λ (d : Batch). Contains d.marked u) (not-got b e) marked)
      ]

  mark-stays : (b : Batch) (u : Marked) → Contains b.marked u → Contains (f b).marked u
  mark-stays b u marked =
      elim (tells (gets b)) [
        | inl e ↦ subst (λ (d : Batch). Contains d.marked u) (sym (got b e)) (Contains-append_left b.marked (new ∷ []) u marked)
        | inr e ↦ subst (λ (d : Batch). Contains d.marked u) (sym (not-got b e)) marked
      ]

  mark-comes : Contains (f asked.batch).marked new
  mark-comes = subst (λ (d : Batch). Contains d.marked new) (sym (got asked.batch slot-gets)) (Contains-append_right asked.batch.marked (new ∷ []) new (0, omega arith, refl))

  old-apart : (b : Batch) (u : Marked) → Contains step.view.batches b → Contains b.marked u → u.index ≢ asked.index
  old-apart b u among marked = unmarked-yet b u (held-by core step.seat step.number step.view b a.at a.pass among) marked

  stems : (b : Batch) (u : Marked) → Contains step.view.batches b → Contains (f b).marked u → StemsFrom mark core step a.at a.pass past a.laws.bodies f changes same_slot b u
  stems b u among marked =
      elim (mark-in b u marked) [
        | old_mark old ↦ inl (u, old, refl)
        | new_mark e same ↦ inr (λ c m all held is. unmarked-yet c m all held (is ∙ sym (ap (λ (x : Marked). x.index) same)))
      ]

  once : AllPairs AreOtherBodies (flat_map (λ b. (f b).marked) step.view.batches)
  once =
      let old = own-marks core a.laws.bodies step.seat step.number step.view a.at a.pass in
      flat-pairs (λ b. (f b).marked) AreOtherBodies step.view.batches
      (λ i b found. own-once b (contains_at step.view.batches i b found) (flat-own (λ b. b.marked) AreOtherBodies step.view.batches i b old found))
      (λ i j b c u v less found other first later.
      let b_in = contains_at step.view.batches i b found in
      let c_in = contains_at step.view.batches j c other in
      elim (mark-in b u first) [
        | old_mark mine ↦ elim (mark-in c v later) [
          | old_mark yours ↦ flat-across (λ b. b.marked) AreOtherBodies step.view.batches i j b c u v old less found other mine yours
          | new_mark e same ↦ λ is. old-apart b u b_in mine (is ∙ sym (ap (λ (x : Marked). x.index) same))
        ]
        | new_mark d here ↦ elim (mark-in c v later) [
          | old_mark yours ↦ λ is. old-apart c v c_in yours (sym is ∙ sym (ap (λ (x : Marked). x.index) here))
          | new_mark e same ↦
              let one = gets-slot b d in
              let two = gets-slot c e in
              absurd (pairs-at AreOtherSlots step.view.batches i j b c (own-slots core a.laws.bodies step.seat step.number step.view a.at a.pass) less found other (one.0 ∙ sym two.0, one.1 ∙ sym two.1))
        ]
      ])
    where
      own-once : (b : Batch) → Contains step.view.batches b → AllPairs AreOtherBodies b.marked → AllPairs AreOtherBodies (f b).marked
      own-once b among was =
          elim (tells (gets b)) [
            | inl e ↦
                subst (λ (d : Batch). AllPairs AreOtherBodies d.marked) (sym (got b e))
                (pairs-append AreOtherBodies b.marked (new ∷ []) was (pairs-cons AreOtherBodies new [] (λ y c. absurd (none_in y c)) (pairs-none AreOtherBodies))
                (λ x y c d is. old-apart b x among c (is ∙ sym (ap (λ (z : Marked). z.index) (only new y d)))))
            | inr e ↦ subst (λ (d : Batch). AllPairs AreOtherBodies d.marked) (sym (not-got b e)) was
          ]

  here : record_at (scene_in New) asked.index ≡ Some (in_phase Held body.0)
  here = record_here mark core step a.at a.pass a.laws.bodies asked.index asked.names (Mark asked.index) Held (λ scene. refl) body.0 body.1

  stored : New.word (Phase asked.index) ≡ step.first
  stored = phase_here mark core step a.at a.pass a.laws.bodies asked.index asked.names (Mark asked.index) Held (λ scene. refl) body.0 body.1 refl

  stays-held : (b d : Batch) (u : Marked) → d.layer ≡ b.layer → d.slot ≡ b.slot → u.index ≢ asked.index → IsHeldFor (sight body_scope core) b u → IsHeldFor New d u
  stays-held b d u layer slot apart was =
      let kept = held-other mark core step a.at a.pass a.laws.bodies asked.index asked.names (Mark asked.index) Held (λ scene. refl) body.0 body.1 b u apart was in
      record {
        held = subst (λ (l : ℕ). HasBody (scene_in New) u.index (λ r. (r.phase ≡ Held) × (r.layer ≡ l))) (sym layer) kept.held;
        phase = kept.phase ∙ ap phase_join (sym slot);
        bounds = kept.bounds;
      }

  -- the body is held for the batch
  new-held : (b : Batch) → IsForSlot asked.layer asked.slot b → IsHeldFor New b new
  new-held b slot = record {
    held = record_body (record_at (scene_in New) asked.index) (λ r. (r.phase ≡ Held) × (r.layer ≡ b.layer)) (in_phase Held body.0) here (refl, layer-here ∙ sym slot.0);
    phase = stored ∙ (asked.joins ∙ ap phase_join (sym slot.1));
    bounds = λ k less.
        other_word mark core step a.at a.pass a.laws.bodies asked.index asked.names (Mark asked.index) Held (λ scene. refl) body.0 body.1 (BoxWord asked.index k) refl
        ∙ (ap (λ (c : Config). word c core.log (BoxWord asked.index k)) (sym config) ∙ sym (box-words (learned core step) asked.index k less));
  }

  batches : BatchPart New
  batches =
      mapped-part mark core step a.at a.pass past a.laws.bodies f changes same_slot stems once
      (λ l t. other_word mark core step a.at a.pass a.laws.bodies asked.index asked.names (Mark asked.index) Held (λ scene. refl) body.0 body.1 (Slot l t) refl)
      (λ b u among marked.
      elim (mark-in b u marked) [
        | old_mark old ↦ stays-held b (f b) u (same_slot b).0 (same_slot b).1 (old-apart b u among old) (a.laws.bodies.marked b u (held-by core step.seat step.number step.view b a.at a.pass among) old)
        | new_mark e same ↦
            let slot = gets-slot b e in
            subst (IsHeldFor New (f b)) same (new-held (f b) ((same_slot b).0 ∙ slot.0, (same_slot b).1 ∙ slot.1))
      ])
      (λ seat number view b u apart found is among marked.
      let all = held-by core seat number view b found is among in
      stays-held b b u refl refl (unmarked-yet b u all marked) (a.laws.bodies.marked b u all marked))
      (λ i has.
      elim (cases_eq i asked.index) [
        | inl same ↦ (f asked.batch, new, own-kept mark core step a.at a.pass past a.laws.bodies f changes same_slot asked.batch asked.has.among, mark-comes, sym same)
        | inr apart ↦
            let t = a.laws.bodies.held i (held-was mark core step a.at a.pass a.laws.bodies asked.index asked.names (Mark asked.index) Held (λ scene. refl) body.0 body.1 i apart has) in
            elim (batch-kept mark core step a.at a.pass past a.laws.bodies f changes same_slot t.0 t.2) [
              | own_batch among all ↦ (f t.0, t.1, all, mark-stays t.0 t.1 t.3, t.4)
              | other_batch seat number view other found is among all ↦ (t.0, t.1, all, t.3, t.4)
            ]
      ])

  -- the slot is reserved, and one of the world
  reserved : word_of core (Slot asked.layer asked.slot) ≡ reserved_by step.number
  reserved =
      (λ i. word_of core (Slot (sym asked.has.for_slot.0 i) (sym asked.has.for_slot.1 i)))
      ∙ slot-reserved core a.formed a.laws.bodies step.seat step.number asked.batch.layer asked.batch.slot step.view a.at a.pass (asked.batch, asked.has.among, (refl, refl))

  says : phase_by step.first (word_of core (Slot body.0.layer (step.first - 2))) ≡ Some Held
  says =
      let word : word_of core (Slot body.0.layer (step.first - 2)) ≡ suc step.number = (λ i. word_of core (Slot (layer-here i) (slot-same i))) ∙ reserved in
      let fits = number-low core a.formed step.seat step.number step.view a.at a.pass in
      (λ i. phase_by (asked.joins i) (word i)) ∙ held-by_number asked.slot step.number fits
    where
      held-by_number : (slot number : ℕ) → suc number < 1024 → phase_by (phase_join slot) (suc number) ≡ Some Held
      held-by_number slot number fits =
          let test = lt-ltb (suc number) 1024 fits in
          let two : phase_join slot ≡ suc (suc slot) = omega arith in
          ap (λ (n : ℕ). phase_by n (suc number)) two ∙ ap (λ (b : Bool). cond b (Some Held) (Some In)) test

  pub BodiesAgree-mark : BodiesAgree (after_step mark core step)
  BodiesAgree-mark =
      let named = slot-named core a.formed a.laws step.seat step.number step.view a.at a.pass asked.batch asked.has.among in
      let slot = asked.has.for_slot.1 in
      let joins = asked.joins in
      let fits = named.1 in
      phase-agree mark core step a.at a.pass a.laws.bodies asked.index asked.names (Mark asked.index) Held (λ scene. refl) body.0 body.1 refl (same_call call) locks says (omega arith) refl (ap mark_of asked.names) (mark-out, tt) batches

  pub LocksAgree-mark : LocksAgree (after_step mark core step)
  LocksAgree-mark = LocksAgree-other core step (lawful a) mark (ap (λ (n : Name). lock_scope.names n) asked.names) locks

  -- ---- the laws of trees and of places

  alone : (seat number : ℕ) (view : View) → IsViewAt core seat view → IsPass view number → ¬ IsHandled view.call.task asked.index
  alone = stripe-alone mark core step a asked.index mark-stripe (λ handled. subst (λ (t : Task). IsHandled t asked.index) asked.idle handled)

  places : (word_of core (LocA asked.index) ≡ 0) × (word_of core (LocB asked.index) ≡ 0)
  places = out-places core step a asked.index mark-out alone

  after-here : record_at (scene_of (After mark core step)) asked.index ≡ Some (in_phase Held body.0)
  after-here = record-made mark core step (Mark asked.index) refl (ap mark_of asked.names) asked.index ∙ here

  after-other : (i : ℕ) → i ≢ asked.index → record_at (scene_of (After mark core step)) i ≡ record_at (scene_of core) i
  after-other i apart =
      record-made mark core step (Mark asked.index) refl (ap mark_of asked.names) i
      ∙ record_other mark core step a.at a.pass a.laws.bodies asked.index asked.names (Mark asked.index) Held (λ scene. refl) body.0 body.1 i apart

  unstored : is_location_store step.name ≡ false
  unstored = ap is_location_store asked.names

  -- the slot that the phase names is reserved
  unjoined : (l t root : ℕ) → HasBody (scene_of (After mark core step)) asked.index (λ r. r.layer ≡ l) → word_of (After mark core step) (Phase asked.index) ≡ phase_join t → word_of core (Slot l t) ≢ slot_tree root
  unjoined l t root has joins =
      let layer : body.0.layer ≡ l = subst (λ (o : Option Record). IsSomeAnd o (λ r. r.layer ≡ l)) after-here has in
      let phase : step.first ≡ phase_join t = sym stored ∙ joins in
      let own = asked.joins in
      batch-no_tree core a.formed a.laws step.seat step.number step.view a.at a.pass asked.batch asked.has.among l t root
      (sym layer ∙ (layer-here ∙ sym asked.has.for_slot.0)) (let slot : t ≡ asked.slot = omega arith in slot ∙ sym asked.has.for_slot.1)

  bare : IsBare mark core step asked.index
  bare = record {
    unseen = out_unseen (record_at (scene_of core) asked.index) mark-out;
    unseen_after = λ inside. held_in (subst (λ (o : Option Record). IsSomeAnd o (λ r. r.phase ≡ In)) after-here inside);
    alone = alone;
    alone_after = λ handled. subst (λ (t : Task). IsHandled t asked.index) asked.idle (subst (λ (c : Call). IsHandled c.task asked.index) call handled);
    places = places;
    unjoined = unjoined;
  }
    where
      held_in : Held ≡ In → ⊥
      held_in e = absurd cc

  abbrev IsSettled : Batch → Marked → Type 0
  IsSettled b u = IsPlannedIn (sight location_scope (After mark core step)) b u × (word_of (After mark core step) (LocB u.index) ≡ 0)

  settled : (b : Batch) (u : Marked) → Contains (all_batches (sight location_scope (After mark core step))) b → Contains b.marked u → IsSettled b u
  settled =
      marks-after mark core step a.at a.pass past a.laws.bodies f changes same_slot IsSettled
      (λ old u inside marked.
      elim (mark-in old u marked) [
        | old_mark was ↦ planned-still mark core step unstored old (f old) u (same_nodes old) (mark-planned core a.formed a.laws step.seat step.number step.view a.at a.pass old inside u was)
        | new_mark gets is ↦
            let words = location-words mark core step unstored asked.index in
            subst (IsSettled (f old)) is (inl (refl, words.0 ∙ places.0), words.1 ∙ places.1)
      ])
      (λ seat number view b u apart found is inside marked. planned-still mark core step unstored b b u refl (mark-planned core a.formed a.laws seat number view found is b inside u marked))

  pub touches-mark : Touches mark core step a.laws.nodes a.laws.nodes
  touches-mark =
      touches-body mark core step a asked.index
      (record {
        of_body = ap body_of asked.names;
        others = after-other;
        itself = inr (bare-apart mark core step a.laws.nodes asked.index unstored bare);
        call = inl call;
        walk = rebatches-mark.walk;
        rebuild = rebatches-mark.rebuild;
        written = rebatches-mark.written;
        held = settled;
      })
