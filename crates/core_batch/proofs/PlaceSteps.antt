-- Storing the first location of a body of a batch, and taking it back: bodies agree, and the body is in no tree before and
-- afterwards.
use Rattle.std.proofs.Common.{◌≡◌, ◌≢◌, ℕ, ◌<◌, Bool, true, false, cond, eqb, Option, None, IsNone, refl, ap, sym, ◌∙◌, subst, inl, inr, arith}
use Rattle.std.specs.Prelude.{Contains, IsSomeAnd, map}
use Rattle.std.proofs.lemmas.Bool.{false≢true, eqb-true, eq-eqb}
use Rattle.std.proofs.lemmas.List.Folds.{flat_map-map}
use Rattle.scene_model.specs.declared.body_view.Phase.TheVariants.{Out, Held, In}
use Rattle.scene_model.specs.Scene.{Record, record_at}
use Rattle.scene_model.specs.Step.{HasBody}
use Rattle.word_map.specs.declared.name.Name.{Name}
use Rattle.word_map.specs.declared.name.Name.TheVariants.{Phase, LocA, LocB}
use Rattle.core_state.specs.declared.view.Call.{Call}
use Rattle.core_state.specs.declared.view.Marked.{Marked}
use Rattle.core_state.specs.declared.view.Batch.{Batch}
use Rattle.core_state.specs.declared.view.View.{View}
use Rattle.core_state.specs.Log.{history}
use Rattle.core_state.specs.Core.{Core, word_of, scene_of}
use Rattle.core_state.specs.Kind.{Kind, Step, learned, found_by, view_after, after_step}
use Rattle.core_state.specs.Batches.{HasMarked, with_bodies, changed_at, change_marked, MayPlace, place_body, with_place, MayTakeBack, take_back, without_place}
use Rattle.core_state.specs.Encoding.{place}
use Rattle.core_state.specs.Nodes.{IsInTree}
use Rattle.core_state.specs.Scope.{sight}
use Rattle.core_state.specs.Bodies.{all_batches}
use Rattle.core_state.specs.LocksAgree.{LocksAgree, lock_scope}
use Rattle.core_state.specs.BodiesAgree.{BodiesAgree}
use Rattle.core_state.specs.LocationsHold.{IsPlannedIn, location_scope}
use Rattle.core_state.proofs.Steps.{word-step, word-step-other}
use Rattle.core_guard.proofs.LockSteps.{LocksAgree-other}
use Rattle.core_guard.proofs.Leaving.{Acts, lawful, IsHandled, IsApart, After, Touches, scene-plain, body_of}
use Rattle.core_guard.proofs.BodyTouch.{touches-body}
use Rattle.core_guard.proofs.Scenes.{none_here}
use Rattle.core_batch.proofs.Lists.{map_from}
use Rattle.core_batch.proofs.Mapped.{marks-apart, marked-once, marks-after}
use Rattle.core_batch.proofs.PlacedAgree.{placed-agree}
use Rattle.core_batch.proofs.HeldFacts.{out_or_held, held_or_in, planned-kept, held-alone, Rebatches, rebatches, off-node, mark-off, mark-unjoined, marked-held, mark-planned}

-- the index of a first location
abbrev pub location_index : Name → ℕ
location_index (LocA i) = i
location_index _ = 0

abbrev is_first_location : Name → Bool
is_first_location (LocA i) = true
is_first_location _ = false

-- a change of a mark at an index leaves what it leaves there
changed-mark : (index : ℕ) (c : Marked → Marked) → ((x : Marked) → ((c x).index ≡ x.index) × ((c x).bounds ≡ x.bounds)) → (x : Marked) → ((changed_at index c x).index ≡ x.index) × ((changed_at index c x).bounds ≡ x.bounds)
changed-mark index c keeps x = go (eqb x.index index)
  where
    go : (test : Bool) → ((cond test (c x) x).index ≡ x.index) × ((cond test (c x) x).bounds ≡ x.bounds)
    go true = keeps x
    go false = (refl, refl)

changed-here : (index : ℕ) (c : Marked → Marked) (x : Marked) → x.index ≡ index → changed_at index c x ≡ c x
changed-here index c x same = rw (eq-eqb x.index index same) refl

changed-other : (index : ℕ) (c : Marked → Marked) (x : Marked) → eqb x.index index ≡ false → changed_at index c x ≡ x
changed-other index c x apart = rw apart refl

-- a step that stores the first location of a body that the pass has marked, and changes the mark in its place alone
record Relocates (kind : Kind) (core : Core) (step : Step) : Type 0 where
  batch : Batch
  m : Marked
  has : HasMarked step.view batch m
  names : step.name ≡ LocA m.index
  plain : (value : ℕ) → kind.entry step.view step.name value ≡ None
  change : Marked → Marked
  keeps : (x : Marked) → ((change x).index ≡ x.index) × ((change x).bounds ≡ x.bounds)
  leaves : kind.leaves (learned core step) step.name (found_by core step) step.first step.second ≡ record (learned core step) { batches = change_marked m.index change step.view.batches }

module _ (kind : Kind) (core : Core) (step : Step) (a : Acts core step) (l : Relocates kind core step) where
  abbrev g : Marked → Marked
  g = changed_at l.m.index l.change

  abbrev f : Batch → Batch
  f = with_bodies (map g)

  changes : (view_after kind core step).batches ≡ map f step.view.batches
  changes = ap (λ (v : View). v.batches) l.leaves

  relocates : Rebatches step.view (view_after kind core step)
  relocates = rebatches kind core step (change_marked l.m.index l.change step.view.batches) l.leaves (flat_map-map (λ (b : Batch). b.nodes) f step.view.batches)

  bodies : BodiesAgree (after_step kind core step)
  bodies = placed-agree kind core step a.at a.pass a.laws.bodies l.m.index l.names l.plain relocates.call relocates.locks g (changed-mark l.m.index l.change l.keeps) changes

  locks : LocksAgree (after_step kind core step)
  locks = LocksAgree-other core step (lawful a) kind (ap (λ (n : Name). lock_scope.names n) l.names) relocates.locks

  -- other words than the location stand
  stands : (name : Name) → is_first_location name ≡ false → word_of (After kind core step) name ≡ word_of core name
  stands name none = word-step-other kind core step name (λ same. false≢true (sym none ∙ ap is_first_location (same ∙ l.names)))

  stands-other : (j : ℕ) → j ≢ l.m.index → word_of (After kind core step) (LocA j) ≡ word_of core (LocA j)
  stands-other j apart = word-step-other kind core step (LocA j) (λ same. apart (ap location_index (same ∙ l.names)))

  -- ---- the body

  held : HasBody (scene_of core) l.m.index (λ r. r.phase ≡ Held)
  held = marked-held core a.formed a.laws step.seat step.number step.view a.at a.pass l.batch l.has.among l.m l.has.marked

  here-after : record_at (scene_of (After kind core step)) l.m.index ≡ record_at (scene_of core) l.m.index
  here-after = scene-plain kind core step l.plain l.m.index

  abbrev body-back : (P : Record → Type 0) → HasBody (scene_of (After kind core step)) l.m.index P → HasBody (scene_of core) l.m.index P
  body-back P h = subst (λ (o : Option Record). IsSomeAnd o P) here-after h

  -- where its location leads afterwards, and what the mark says of it
  record Relocated : Type 0 where
    off : (n k : ℕ) → k < 4 → word_of (After kind core step) (LocA l.m.index) ≡ place n k → ¬ IsInTree (a.laws.nodes.home n)
    planned : (x : Marked) → x.index ≡ l.m.index → IsPlannedIn (sight location_scope (After kind core step)) l.batch (l.change x)

  module _ (t : Relocated) where
    apart : IsApart kind core step a.laws.nodes l.m.index
    apart =
        let second = (mark-planned core a.formed a.laws step.seat step.number step.view a.at a.pass l.batch l.has.among l.m l.has.marked).1 in
        let alone = held-alone core l.m.index a.laws held in
        record {
          unseen = held_or_in (record_at (scene_of core) l.m.index) held;
          unseen_after = λ inside. held_or_in (record_at (scene_of core) l.m.index) held (body-back (λ r. r.phase ≡ In) inside);
          alone = alone;
          alone_after = λ handled. alone step.seat step.number step.view a.at a.pass (subst (λ (c : Call). IsHandled c.task l.m.index) relocates.call handled);
          second = second;
          second_after = stands (LocB l.m.index) refl ∙ second;
          off = mark-off core a.formed a.laws step.seat step.number step.view a.at a.pass l.batch l.has.among l.m l.has.marked;
          off_after = t.off;
          dead = λ none. absurd (none_here (record_at (scene_of core) l.m.index) (λ r. r.phase ≡ Held) (subst IsNone here-after none) held);
          out = λ out. absurd (out_or_held (record_at (scene_of core) l.m.index) (body-back (λ r. r.phase ≡ Out) out) held);
          unjoined = λ layer slot root has joins.
              mark-unjoined core a.formed a.laws step.seat step.number step.view a.at a.pass l.batch l.has.among l.m l.has.marked layer slot root
              (body-back (λ r. r.layer ≡ layer) has) (sym (stands (Phase l.m.index) refl) ∙ joins);
        }

    -- ---- marks

    abbrev IsSettled : Batch → Marked → Type 0
    IsSettled b u = IsPlannedIn (sight location_scope (After kind core step)) b u × (word_of (After kind core step) (LocB u.index) ≡ 0)

    -- those of other bodies are where they were
    settled-other : (b d : Batch) (u : Marked) → d.nodes ≡ b.nodes → u.index ≢ l.m.index → IsPlannedIn (sight location_scope core) b u × (word_of core (LocB u.index) ≡ 0) → IsSettled d u
    settled-other b d u nodes other was =
        (planned-kept (sight location_scope core) (sight location_scope (After kind core step)) b d u nodes (stands-other u.index other) was.0, stands (LocB u.index) refl ∙ was.1)

    settled : (b : Batch) (u : Marked) → Contains (all_batches (sight location_scope (After kind core step))) b → Contains b.marked u → IsSettled b u
    settled =
        marks-after kind core step a.at a.pass (history core.log) a.laws.bodies f changes (λ x. (refl, refl)) IsSettled
        (λ old u inside marked. let x = map_from g old.marked u marked in subst (IsSettled (f old)) x.2 (of_own old x.0 inside x.1 (eqb x.0.index l.m.index) refl))
        (λ seat number view b u other found is inside marked.
        let apart = marks-apart core a.laws.bodies step.seat step.number step.view a.at a.pass seat number view l.batch b l.m u other found is l.has.among l.has.marked inside marked in
        settled-other b b u refl (λ same. apart (sym same)) (mark-planned core a.formed a.laws seat number view found is b inside u marked))
      where
        of_own : (old : Batch) (x : Marked) → Contains step.view.batches old → Contains old.marked x → (test : Bool) → eqb x.index l.m.index ≡ test → IsSettled (f old) (g x)
        of_own old x inside was true e =
            let same = eqb-true x.index l.m.index e in
            let one : old ≡ l.batch = marked-once core a.laws.bodies step.seat step.number step.view a.at a.pass old l.batch x l.m inside was l.has.among l.has.marked same in
            let second = (mark-planned core a.formed a.laws step.seat step.number step.view a.at a.pass l.batch l.has.among l.m l.has.marked).1 in
            subst (IsSettled (f old)) (sym (changed-here l.m.index l.change x same)) (
              subst (λ (d : Batch). IsPlannedIn (sight location_scope (After kind core step)) d (l.change x)) (sym one) (t.planned x same),
              ap (λ (j : ℕ). word_of (After kind core step) (LocB j)) ((l.keeps x).0 ∙ same) ∙ (stands (LocB l.m.index) refl ∙ second),
            )
        of_own old x inside was false e =
            subst (IsSettled (f old)) (sym (changed-other l.m.index l.change x e))
            (settled-other old (f old) x refl (λ same. false≢true (sym e ∙ eq-eqb x.index l.m.index same))
            (mark-planned core a.formed a.laws step.seat step.number step.view a.at a.pass old inside x was))

    touches : Touches kind core step a.laws.nodes a.laws.nodes
    touches =
        touches-body kind core step a l.m.index
        (record {
          of_body = ap body_of l.names;
          others = λ j other. scene-plain kind core step l.plain j;
          itself = inr apart;
          call = inl relocates.call;
          walk = relocates.walk;
          rebuild = relocates.rebuild;
          written = relocates.written;
          held = settled;
        })

-- ---- storing a location

module _ (core : Core) (step : Step) (a : Acts core step) where
  module _ (asked : MayPlace step.view step.name step.first step.second) where
    abbrev placing : Relocates place_body core step
    placing = record {
      batch = asked.batch;
      m = asked.m;
      has = asked.has;
      names = asked.names;
      plain = λ value. refl;
      change = λ x. record x { place = step.first; is_placed = true };
      keeps = λ x. (refl, refl);
      leaves = ap (λ (n : Name). with_place (learned core step) n step.first) asked.names;
    }

    stored : word_of (After place_body core step) (LocA asked.m.index) ≡ step.first
    stored = ap (λ (n : Name). word_of (After place_body core step) n) (sym asked.names) ∙ word-step place_body core step

    pub BodiesAgree-place_body : BodiesAgree (after_step place_body core step)
    BodiesAgree-place_body = bodies place_body core step a placing

    pub LocksAgree-place_body : LocksAgree (after_step place_body core step)
    LocksAgree-place_body = locks place_body core step a placing

    pub rebatches-place_body : Rebatches step.view (view_after place_body core step)
    rebatches-place_body = relocates place_body core step a placing

    pub touches-place_body : Touches place_body core step a.laws.nodes a.laws.nodes
    touches-place_body =
        touches place_body core step a placing
        (record {
          off = λ n k below e.
              off-node core a.formed a.laws step.seat step.number step.view a.at a.pass asked.batch asked.has.among asked.node asked.child n k asked.below asked.in_batch below
              (sym (stored ∙ asked.at) ∙ e);
          planned = λ x same.
              inr (refl, ap (λ (j : ℕ). word_of (After place_body core step) (LocA j)) same ∙ stored, (asked.node, asked.child, asked.below, asked.at, asked.in_batch));
        })

  -- ---- taking it back

  module _ (asked : MayTakeBack step.view step.name step.first step.second) where
    abbrev taking : Relocates take_back core step
    taking = record {
      batch = asked.batch;
      m = asked.m;
      has = asked.has;
      names = asked.names;
      plain = λ value. refl;
      change = λ x. record x { is_placed = false };
      keeps = λ x. (refl, refl);
      leaves = ap (λ (n : Name). without_place (learned core step) n) asked.names;
    }

    cleared : word_of (After take_back core step) (LocA asked.m.index) ≡ 0
    cleared = ap (λ (n : Name). word_of (After take_back core step) n) (sym asked.names) ∙ (word-step take_back core step ∙ asked.none)

    pub BodiesAgree-take_back : BodiesAgree (after_step take_back core step)
    BodiesAgree-take_back = bodies take_back core step a taking

    pub LocksAgree-take_back : LocksAgree (after_step take_back core step)
    LocksAgree-take_back = locks take_back core step a taking

    pub rebatches-take_back : Rebatches step.view (view_after take_back core step)
    rebatches-take_back = relocates take_back core step a taking

    pub touches-take_back : Touches take_back core step a.laws.nodes a.laws.nodes
    touches-take_back =
        touches take_back core step a taking
        (record {
          off = λ n k below e. let none = cleared in absurd (omega arith);
          planned = λ x same. inl (refl, ap (λ (j : ℕ). word_of (After take_back core step) (LocA j)) same ∙ cleared);
        })
