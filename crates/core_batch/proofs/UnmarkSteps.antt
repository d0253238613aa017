-- Unmarking a body: bodies agree, and the body is in no tree before and afterwards.
use Rattle.std.proofs.Common.{◌≡◌, ◌≢◌, ℕ, ◌+◌, ◌-◌, ◌<◌, List, Bool, true, false, not, eqb, Option, Some, refl, ap, sym, ◌∙◌, subst, inl, inr, arith}
use Rattle.std.specs.Prelude.{Contains, AllPairs, IsSomeAnd, map, filter, flat_map}
use Rattle.std.proofs.lemmas.Bool.{false≢true, eqb-true, eq-eqb}
use Rattle.std.proofs.lemmas.List.Folds.{flat_map-map}
use Rattle.std.proofs.lemmas.List.Kept.{AllPairs-filter}
use Rattle.scene_model.specs.declared.body_view.Phase.TheVariants.{Out, Held, In}
use Rattle.scene_model.specs.declared.entry.Entry.TheVariants.{Unmark}
use Rattle.scene_model.specs.declared.entry.Made.{Made}
use Rattle.scene_model.specs.Scene.{Record, record_at}
use Rattle.scene_model.specs.Step.{HasBody, in_phase}
use Rattle.word_map.specs.declared.name.Name.{Name}
use Rattle.word_map.specs.declared.name.Name.TheVariants.{Phase, LocA, LocB, Slot}
use Rattle.core_state.specs.declared.view.Task.{Task}
use Rattle.core_state.specs.declared.view.Call.{Call}
use Rattle.core_state.specs.declared.view.Marked.{Marked}
use Rattle.core_state.specs.declared.view.Batch.{Batch}
use Rattle.core_state.specs.declared.view.View.{View}
use Rattle.core_state.specs.View.{IsPass}
use Rattle.core_state.specs.Core.{Core, word_of, scene_of, IsViewAt}
use Rattle.core_state.specs.Kind.{Step, learned, found_by, view_after, after_step}
use Rattle.core_state.specs.Batches.{with_bodies, MayUnmark, with_unmark, unmark_of, unmark}
use Rattle.core_state.specs.Scope.{Sight, sight, scene_in}
use Rattle.core_state.specs.Bodies.{phase_by, all_batches}
use Rattle.core_state.specs.LocksAgree.{LocksAgree, lock_scope}
use Rattle.core_state.specs.BodiesAgree.{BodiesAgree, body_scope, IsHeldFor}
use Rattle.core_state.specs.LocationsHold.{IsPlannedIn, location_scope, is_location_store}
use Rattle.core_state.proofs.Beginning.{contains_filter, body_record}
use Rattle.core_guard.proofs.BodiesStep.{BatchPart}
use Rattle.core_guard.proofs.LockSteps.{LocksAgree-other}
use Rattle.core_guard.proofs.Leaving.{Acts, lawful, IsHandled, After, Touches, body_of}
use Rattle.core_guard.proofs.BodyTouch.{touches-body, record-made, IsBare, bare-apart}
use Rattle.core_batch.proofs.Lists.{filter_from, flat-own, flat-across, flat-pairs}
use Rattle.core_batch.proofs.Mapped.{AreOtherBodies, own-marks, marks-apart, StemsFrom, mapped-part, batch-kept, own_batch, other_batch, held-by, marks-after}
use Rattle.core_guard.proofs.CallsAgree.{same_call}
use Rattle.core_guard.proofs.PhaseAgree.{phase_past, phase_sight, other_word, record_other, record_here, held-other, held-was, phase_here, phase-agree}
use Rattle.core_batch.proofs.HeldFacts.{held_or_in, held-alone, Rebatches, rebatches, mark-held, marked-held, mark-planned, planned-still}

module _ (core : Core) (step : Step) (a : Acts core step) (asked : MayUnmark step.view step.name step.first step.second) where
  abbrev left_over : Marked → Bool
  left_over x = not (eqb x.index asked.m.index)

  abbrev f : Batch → Batch
  f = with_bodies (filter left_over)

  leaves : unmark.leaves (learned core step) step.name (found_by core step) step.first step.second ≡ record (learned core step) { batches = map f step.view.batches }
  leaves = ap (λ (n : Name). with_unmark (learned core step) n) asked.names

  own : IsHeldFor (sight body_scope core) asked.batch asked.m
  own = mark-held core a.formed a.laws step.seat step.number step.view a.at a.pass asked.batch asked.has.among asked.m asked.has.marked

  body : (r : Record) × (record_at (scene_of core) asked.m.index ≡ Some r) × ((r.phase ≡ Held) × (r.layer ≡ asked.batch.layer))
  body = body_record (record_at (scene_of core) asked.m.index) (λ r. (r.phase ≡ Held) × (r.layer ≡ asked.batch.layer)) own.held

  held : HasBody (scene_of core) asked.m.index (λ r. r.phase ≡ Held)
  held = marked-held core a.formed a.laws step.seat step.number step.view a.at a.pass asked.batch asked.has.among asked.m asked.has.marked

  -- another mark than that of the body is left
  left-apart : (x : Marked) → left_over x ≡ true → x.index ≢ asked.m.index
  left-apart x e same = false≢true (ap not (sym (eq-eqb x.index asked.m.index same)) ∙ e)

  apart-left : (x : Marked) → x.index ≢ asked.m.index → left_over x ≡ true
  apart-left x apart = go (eqb x.index asked.m.index) refl
    where
      go : (test : Bool) → eqb x.index asked.m.index ≡ test → not test ≡ true
      go true e = absurd (apart (eqb-true x.index asked.m.index e))
      go false e = refl

  changes : (view_after unmark core step).batches ≡ map f step.view.batches
  changes = ap (λ (v : View). v.batches) leaves

  -- batches keep their nodes
  pub rebatches-unmark : Rebatches step.view (view_after unmark core step)
  rebatches-unmark = rebatches unmark core step (map f step.view.batches) leaves (flat_map-map (λ (b : Batch). b.nodes) f step.view.batches)

  call : (view_after unmark core step).call ≡ step.view.call
  call = rebatches-unmark.call

  locks : (view_after unmark core step).locks ≡ step.view.locks
  locks = rebatches-unmark.locks

  abbrev past : List Made
  past = phase_past unmark core step a.at a.pass a.laws.bodies asked.m.index asked.names (Unmark asked.m.index) Out (λ scene. refl) body.0 body.1

  abbrev New : Sight
  New = phase_sight unmark core step a.at a.pass a.laws.bodies asked.m.index asked.names (Unmark asked.m.index) Out (λ scene. refl) body.0 body.1

  stems : (b : Batch) (u : Marked) → Contains step.view.batches b → Contains (filter left_over b.marked) u → StemsFrom unmark core step a.at a.pass past a.laws.bodies f changes (λ x. (refl, refl)) b u
  stems b u among marked = inl (u, (filter_from left_over b.marked u marked).0, refl)

  once : AllPairs AreOtherBodies (flat_map (λ b. filter left_over b.marked) step.view.batches)
  once =
      let old = own-marks core a.laws.bodies step.seat step.number step.view a.at a.pass in
      flat-pairs (λ b. filter left_over b.marked) AreOtherBodies step.view.batches
      (λ i b found. AllPairs-filter AreOtherBodies left_over b.marked (flat-own (λ b. b.marked) AreOtherBodies step.view.batches i b old found))
      (λ i j b c u v less found other first later.
      flat-across (λ b. b.marked) AreOtherBodies step.view.batches i j b c u v old less found other (filter_from left_over b.marked u first).0 (filter_from left_over c.marked v later).0)

  -- who is held afterwards is another body, which was held
  still-held : (i : ℕ) → HasBody (scene_in New) i (λ q. q.phase ≡ Held) → i ≢ asked.m.index
  still-held i has same =
      let here : record_at (scene_in New) asked.m.index ≡ Some (in_phase Out body.0) =
      record_here unmark core step a.at a.pass a.laws.bodies asked.m.index asked.names (Unmark asked.m.index) Out (λ scene. refl) body.0 body.1
      in
      let out : Out ≡ Held = subst (λ (o : Option Record). IsSomeAnd o (λ q. q.phase ≡ Held)) here (subst (λ (k : ℕ). HasBody (scene_in New) k (λ q. q.phase ≡ Held)) same has) in
      absurd cc

  stays-held : (b : Batch) (u : Marked) → u.index ≢ asked.m.index → IsHeldFor (sight body_scope core) b u → IsHeldFor New b u
  stays-held b u apart was = held-other unmark core step a.at a.pass a.laws.bodies asked.m.index asked.names (Unmark asked.m.index) Out (λ scene. refl) body.0 body.1 b u apart was

  apart-elsewhere : (seat number : ℕ) (view : View) (b : Batch) (u : Marked) → seat ≢ step.seat → IsViewAt core seat view → IsPass view number → Contains view.batches b → Contains b.marked u → u.index ≢ asked.m.index
  apart-elsewhere seat number view b u apart found is among marked same =
      marks-apart core a.laws.bodies step.seat step.number step.view a.at a.pass seat number view asked.batch b asked.m u apart found is asked.has.among asked.has.marked among marked (sym same)

  batches : BatchPart New
  batches =
      mapped-part unmark core step a.at a.pass past a.laws.bodies f changes (λ x. (refl, refl)) stems once
      (λ l t. other_word unmark core step a.at a.pass a.laws.bodies asked.m.index asked.names (Unmark asked.m.index) Out (λ scene. refl) body.0 body.1 (Slot l t) refl)
      (λ b u among marked.
      let t = filter_from left_over b.marked u marked in
      let was = stays-held b u (left-apart u t.1) (a.laws.bodies.marked b u (held-by core step.seat step.number step.view b a.at a.pass among) t.0) in
      record { held = was.held; phase = was.phase; bounds = was.bounds })
      (λ seat number view b u apart found is among marked. stays-held b u (apart-elsewhere seat number view b u apart found is among marked) (a.laws.bodies.marked b u (held-by core seat number view b found is among) marked))
      (λ i has.
      let apart = still-held i has in
      let t = a.laws.bodies.held i (held-was unmark core step a.at a.pass a.laws.bodies asked.m.index asked.names (Unmark asked.m.index) Out (λ scene. refl) body.0 body.1 i apart has) in
      elim (batch-kept unmark core step a.at a.pass past a.laws.bodies f changes (λ x. (refl, refl)) t.0 t.2) [
        | own_batch among all ↦ (f t.0, t.1, all, contains_filter left_over t.0.marked t.1 t.3 (apart-left t.1 (λ same. apart (sym t.4 ∙ same))), t.4)
        | other_batch seat number view other found is among all ↦ (t.0, t.1, all, t.3, t.4)
      ])

  pub BodiesAgree-unmark : BodiesAgree (after_step unmark core step)
  BodiesAgree-unmark =
      phase-agree unmark core step a.at a.pass a.laws.bodies asked.m.index asked.names (Unmark asked.m.index) Out (λ scene. refl) body.0 body.1 refl (same_call call) locks
      (ap (λ (n : ℕ). phase_by n (word_of core (Slot body.0.layer (n - 2)))) asked.out) (subst (λ (n : ℕ). n < 2 + core.config.slots) (sym asked.out) (omega arith))
      refl (ap unmark_of asked.names) (held, tt) batches

  pub LocksAgree-unmark : LocksAgree (after_step unmark core step)
  LocksAgree-unmark = LocksAgree-other core step (lawful a) unmark (ap (λ (n : Name). lock_scope.names n) asked.names) locks

  -- ---- the laws of trees and of places

  planned : IsPlannedIn (sight location_scope core) asked.batch asked.m × (word_of core (LocB asked.m.index) ≡ 0)
  planned = mark-planned core a.formed a.laws step.seat step.number step.view a.at a.pass asked.batch asked.has.among asked.m asked.has.marked

  -- its location was taken back
  taken-back : word_of core (LocA asked.m.index) ≡ 0
  taken-back =
      elim (planned.0) [
        | inl none ↦ none.1
        | inr placed ↦ absurd (false≢true (sym asked.unplaced ∙ placed.0))
      ]

  after-here : record_at (scene_of (After unmark core step)) asked.m.index ≡ Some (in_phase Out body.0)
  after-here =
      record-made unmark core step (Unmark asked.m.index) refl (ap unmark_of asked.names) asked.m.index
      ∙ record_here unmark core step a.at a.pass a.laws.bodies asked.m.index asked.names (Unmark asked.m.index) Out (λ scene. refl) body.0 body.1

  after-other : (i : ℕ) → i ≢ asked.m.index → record_at (scene_of (After unmark core step)) i ≡ record_at (scene_of core) i
  after-other i apart =
      record-made unmark core step (Unmark asked.m.index) refl (ap unmark_of asked.names) i
      ∙ record_other unmark core step a.at a.pass a.laws.bodies asked.m.index asked.names (Unmark asked.m.index) Out (λ scene. refl) body.0 body.1 i apart

  unstored : is_location_store step.name ≡ false
  unstored = ap is_location_store asked.names

  stored : word_of (After unmark core step) (Phase asked.m.index) ≡ 0
  stored =
      phase_here unmark core step a.at a.pass a.laws.bodies asked.m.index asked.names (Unmark asked.m.index) Out (λ scene. refl) body.0 body.1 refl ∙ asked.out

  bare : IsBare unmark core step asked.m.index
  bare = record {
    unseen = held_or_in (record_at (scene_of core) asked.m.index) held;
    unseen_after = λ inside. out_in (subst (λ (o : Option Record). IsSomeAnd o (λ r. r.phase ≡ In)) after-here inside);
    alone = held-alone core asked.m.index a.laws held;
    alone_after = λ handled. subst (λ (t : Task). IsHandled t asked.m.index) asked.idle (subst (λ (c : Call). IsHandled c.task asked.m.index) call handled);
    places = (taken-back, planned.1);
    unjoined = λ l t root has joins. let none = stored in absurd (omega arith);
  }
    where
      out_in : Out ≡ In → ⊥
      out_in e = absurd cc

  abbrev IsSettled : Batch → Marked → Type 0
  IsSettled b u = IsPlannedIn (sight location_scope (After unmark core step)) b u × (word_of (After unmark core step) (LocB u.index) ≡ 0)

  settled : (b : Batch) (u : Marked) → Contains (all_batches (sight location_scope (After unmark core step))) b → Contains b.marked u → IsSettled b u
  settled =
      marks-after unmark core step a.at a.pass past a.laws.bodies f changes (λ x. (refl, refl)) IsSettled
      (λ old u inside marked.
      let t = filter_from left_over old.marked u marked in
      planned-still unmark core step unstored old (f old) u refl (mark-planned core a.formed a.laws step.seat step.number step.view a.at a.pass old inside u t.0))
      (λ seat number view b u apart found is inside marked. planned-still unmark core step unstored b b u refl (mark-planned core a.formed a.laws seat number view found is b inside u marked))

  pub touches-unmark : Touches unmark core step a.laws.nodes a.laws.nodes
  touches-unmark =
      touches-body unmark core step a asked.m.index
      (record {
        of_body = ap body_of asked.names;
        others = after-other;
        itself = inr (bare-apart unmark core step a.laws.nodes asked.m.index unstored bare);
        call = inl call;
        walk = rebatches-unmark.walk;
        rebuild = rebatches-unmark.rebuild;
        written = rebatches-unmark.written;
        held = settled;
      })
