-- All laws hold after an update has placed a body: that of cover counts it as placed, and the others see its second location
-- or what the pass is at.
use Rattle.std.proofs.Common.{◌≡◌, ◌≢◌, ℕ, ◌<◌, [], ◌∷◌, ◌++◌, Option, Some, None, refl, ap, sym, ◌∙◌, subst, inl, inr, arith}
use Rattle.std.specs.Prelude.{IfSome, IsSome, IsSomeAnd, option_map}
use Rattle.std.proofs.lemmas.Bool.{cases_eq, false≢true}
use Rattle.std.proofs.lemmas.Option.{same_Some}
use Rattle.std.proofs.lemmas.List.Elements.{Contains-append_left, Contains-append_cases}
use Rattle.scene_model.specs.declared.body_view.Phase.TheVariants.{Held}
use Rattle.scene_model.specs.Scene.{Record}
use Rattle.scene_model.specs.Step.{HasBody}
use Rattle.word_map.specs.declared.name.Name.{Name}
use Rattle.word_map.specs.declared.name.Name.TheVariants.{State, Phase, Layer, LocA, LocB, Bound, Reader}
use Rattle.word_map.specs.Names.{stripe_of}
use Rattle.core_state.specs.declared.view.Call.{Call}
use Rattle.core_state.specs.declared.view.Noted.{Noted}
use Rattle.core_state.specs.declared.view.Rebuild.{Rebuild}
use Rattle.core_state.specs.declared.view.Task.{Task}
use Rattle.core_state.specs.declared.view.View.{View}
use Rattle.core_state.specs.declared.view.Mode.TheVariants.{Write}
use Rattle.core_state.specs.View.{Holds}
use Rattle.core_state.specs.Core.{Core, word_of, scene_of}
use Rattle.core_state.specs.Bodies.{MovesBody}
use Rattle.core_state.specs.Encoding.{phase_join}
use Rattle.core_state.specs.Kind.{Kind, Step, after_step, log_after}
use Rattle.core_state.specs.Nodes.{Nodes}
use Rattle.core_state.specs.Parts.{call_at, task_on_pool, task_on_cover, task_at_place, update_on_nodes, update_on_trees, update_on_cover, update_on_readers}
use Rattle.core_state.specs.Placing.{IsToPlace, MayPlaceNoted, place_noted}
use Rattle.core_state.specs.Scope.{Scope, Sight, sight, EachPass, bare_view}
use Rattle.core_state.specs.Space.{IsTarget}
use Rattle.core_state.specs.Updates.{IsPlacing, IsDone}
use Rattle.core_state.specs.BodiesAgree.{body_scope, BodiesAgreeIn}
use Rattle.core_state.specs.NodesInOnePlace.{node_scope, NodesInOnePlaceIn}
use Rattle.core_state.specs.TreesSound.{tree_scope, TreesSoundIn}
use Rattle.core_state.specs.LocationsHold.{Removes, IsRemoved}
use Rattle.core_state.specs.BodiesCovered.{BodiesCovered, cover_scope, IsAsNoted, IsInOldTree}
use Rattle.core_state.specs.WalksLead.{walk_scope, WalksLeadIn}
use Rattle.core_state.specs.ReadersCounted.{ReadersCounted, ReadersCountedIn, reader_scope, ClimbsInTrees}
use Rattle.core_state.specs.Invariants.{Invariants}
use Rattle.core_state.proofs.Opening.{only}
use Rattle.core_guard.proofs.BodyAnew.{turn-leaves}
use Rattle.core_guard.proofs.CallsAgree.{BodiesAgree-beside}
use Rattle.core_guard.proofs.CoverLeft.{BodyAfter, IsNotedRight, BodyIsCovered, as_it_was, anew, BodiesCovered-leaves}
use Rattle.core_guard.proofs.Holders.{IsGuarded, guarded}
use Rattle.core_guard.proofs.Leaving.{Acts, After, Last, IsHandled, Stays, Leaves, stays-by, body_of, lawful}
use Rattle.core_guard.proofs.LivesGuarded.{IsStripeWord, stripe-guarded}
use Rattle.core_guard.proofs.LockSteps.{LocksAgree-other}
use Rattle.core_guard.proofs.OnBody.{OnBody, IsOn, nobody-does, others-else, removes-else, places-else, NodesInOnePlace-on, body-unread}
use Rattle.core_guard.proofs.PlacesStay.{removes-handles}
use Rattle.core_guard.proofs.ReadersLeft.{Counts, KeepsTargets, ReadersCounted-leaves, layers-kept, gives-kept, some-all}
use Rattle.core_guard.proofs.Recalled.{law-unseen}
use Rattle.core_guard.proofs.Seats.{each-step, has-seat, seen_of}
use Rattle.core_guard.proofs.Touched.{IsKept, kept}
use Rattle.core_update.proofs.OwnNotes.{unheld, undone, unexchanged-all, sole-update}
use Rattle.core_update.proofs.PlacedNotes.{next_task, task-joins, task-or, word-same, second-now, second-none, last, same-call, new-rebuild, u, record-same, of_body}
use Rattle.core_update.proofs.PlacedLocations.{LocationsHold-placed, location-on}
use Rattle.core_update.proofs.Swapped.{law-swap}
use Rattle.core_update.proofs.SwappedCover.{UpdateIsRight, all-right, FirstCover, SecondCover, BodiesCovered-swap, right-more, removed-again, removes-from_cover}

module _ (core : Core) (step : Step) (a : Acts core step) (asked : MayPlaceNoted step.view step.name step.first step.second) where
  abbrev nodes : Nodes
  nodes = a.laws.nodes

  abbrev i : ℕ
  i = asked.index

  abbrev p : IsToPlace step.view asked.index
  p = asked.to_place

  abbrev none : ℕ → Type 0
  none n = ⊥

  -- the step as one of which the pass does not note that the body is placed
  abbrev next : Call
  next = record { task = next_task core step a asked; loads = []; stores = [] }

  abbrev recalling : View → Name → ℕ → ℕ → ℕ → View
  recalling view name found first second = record view { call = record { task = next_task core step a asked; loads = []; stores = [] } }

  abbrev quiet : Kind
  quiet = record place_noted { leaves = recalling }

  o : OnBody quiet core step i next
  o = record {
    stripe = subst (λ (j : ℕ). Holds step.view (stripe_of step.view.config j) Write) p.of_body p.as_noted.settled.stripe;
    before = subst (λ (t : Task). IsOn asked.index t) (sym asked.task) refl;
    after = task-or core step a asked (IsOn asked.index) tt refl;
    recalls = refl;
  }

  m : Leaves quiet core step nodes nodes none
  m = turn-leaves quiet core step nodes i (of_body core step a asked) refl

  unnamed : (name : Name) → LocB i ≢ name → word_of (After place_noted core step) name ≡ word_of core name
  unnamed name other = word-same core step a asked name (λ e. other (sym e))

  stays : (j : ℕ) → j ≢ i → Stays quiet core step j
  stays j apart =
      stays-by quiet core step j (record-same core step a asked j) (λ name of. word-same core step a asked name (λ e. apart (same_Some j i (sym of ∙ ap body_of e)))) (removes-else quiet core step i next a o j apart) (places-else quiet core step i next a o j apart)

  -- ---- cover

  abbrev Past : Sight
  Past = sight cover_scope core

  abbrev Now : Sight
  Now = FirstCover place_noted recalling core step a nodes

  -- nobody takes the body out
  unremoved : ¬ IsRemoved Past i
  unremoved h =
      let from = has-seat cover_scope (λ k v. refl) core h.0 (λ v. Removes v.call.task i) h.1 in
      nobody-does quiet core step i next a o (λ t. Removes t i) (λ t. removes-handles t i) (λ own. subst (λ (t : Task). Removes t i) asked.task own) from.seat h.0 from.view from.at from.pass (removes-from_cover from.view.call.task i from.holds)

  -- the body is as it was noted, still
  as_noted-now : (n : Noted) → n.index ≡ i → IsAsNoted Past n → IsAsNoted Now n
  as_noted-now n same h = record {
    looks = record { state = unnamed (State n.index) (λ e. absurd cc) ∙ h.looks.state; location = unnamed (LocA n.index) (λ e. absurd cc) ∙ h.looks.location };
    phase = λ left. unnamed (Phase n.index) (λ e. absurd cc) ∙ h.phase (λ removed. unremoved (subst (IsRemoved Past) same removed));
    layer = unnamed (Layer n.index) (λ e. absurd cc) ∙ h.layer;
    same = subst (λ (x : Option Record). IsSomeAnd x (λ r. (r.generation ≡ n.generation) × (r.layer ≡ n.layer))) (sym (record-same core step a asked n.index)) h.same;
  }

  not-done : (view : View) → ¬ IsDone view (update_on_cover p.r) i
  not-done view done = undone core step a asked.index asked.to_place view (update_on_cover p.r) refl refl (subst (IsDone view (update_on_cover p.r)) (sym p.of_body) done)

  own-right : (v w : View) → UpdateIsRight nodes Past v (update_on_cover p.r) → IsNotedRight nodes Now w (update_on_cover p.r) i
  own-right v w h =
      let notes = h.notes in
      let back : IsInOldTree nodes Now (update_on_cover p.r) i → IsInOldTree nodes Past (update_on_cover p.r) i = λ t. (t.0, t.1, t.2, sym (unnamed (LocA i) (λ e. absurd cc)) ∙ t.3, t.4) in
      let forth : IsInOldTree nodes Past (update_on_cover p.r) i → IsInOldTree nodes Now (update_on_cover p.r) i = λ t. (t.0, t.1, t.2, unnamed (LocA i) (λ e. absurd cc) ∙ t.3, t.4) in
      record {
        to_place = λ l t root passed merged body joins.
            let n = h.to_place i l t root passed merged (subst (λ (x : Option Record). IsSomeAnd x (λ r. r.layer ≡ l)) (record-same core step a asked i) body) (sym (unnamed (Phase i) (λ e. absurd cc)) ∙ joins) in
            (n.0, n.1, n.2, not-done w);
        all_noted = λ opened tree. let n = notes.all_noted i (opened.0, not-done v) (back tree) in (n.0, n.1, n.2, as_noted-now n.0 n.2 n.3);
        still_there = λ n among same opened looks.
            let t = notes.still_there n among (subst (λ (j : ℕ). j < p.r.passed) (sym same) opened.0, λ done. not-done v (subst (IsDone v (update_on_cover p.r)) same done))
            (record { state = sym (unnamed (State n.index) (λ e. absurd cc)) ∙ looks.state; location = sym (unnamed (LocA n.index) (λ e. absurd cc)) ∙ looks.location }) in
            (forth (subst (IsInOldTree nodes Past (update_on_cover p.r)) same t.0), as_noted-now n same t.1);
        in_old = λ n among same left. notes.in_old n among (λ done. not-done v (subst (IsDone v (update_on_cover p.r)) same done));
        placed = λ among tree. absurd (p.unplaced among);
        given_up = λ among tree. absurd (p.kept among);
        exchanged = λ begun n among same. let none_yet = unexchanged-all core step a asked.index asked.to_place 0 in absurd (omega arith);
      }

  body-covered : BodyIsCovered nodes Now i
  body-covered = record {
    covered = λ r e inside.
        let t = a.laws.cover.covered i r (sym (record-same core step a asked i) ∙ e) inside in
        (t.0, t.1, location-on core step a asked i t.0 t.1 t.2, t.3, t.4);
    replaced = λ n k number name below location home gone.
        a.laws.cover.replaced i n k number name below (sym (unnamed (LocA i) (λ e. absurd cc)) ∙ location) home (second-none core step a asked);
  }

  has-update : IsSome step.view.rebuild
  has-update = subst IsSome (sym p.update) refl

  abbrev RightHere : Sight → View → Type 0
  RightHere s v = IfSome v.rebuild (λ r. UpdateIsRight nodes s v r)

  noted-right : EachPass Now (λ number v. IfSome v.rebuild (λ r. IsNotedRight nodes Now v r i))
  noted-right =
      each-step cover_scope (λ k v. refl) quiet core step a.at a.pass (λ number v. RightHere Past v) (λ number v. IfSome v.rebuild (λ r. IsNotedRight nodes Now v r i)) (all-right nodes core a.laws.cover)
      (λ seat number view apart found is old. none-there (λ r. IsNotedRight nodes Now (seen_of cover_scope number view) r i) view.rebuild (sole-update core step a has-update seat number view apart found is))
      (λ old.
      subst (λ (x : Option Rebuild). IfSome (option_map update_on_cover x) (λ r. IsNotedRight nodes Now (seen_of cover_scope step.number (Last quiet core step)) r i)) (sym p.update)
      (own-right (seen_of cover_scope step.number step.view) (seen_of cover_scope step.number (Last quiet core step))
      (subst (λ (x : Option Rebuild). IfSome (option_map update_on_cover x) (λ r. UpdateIsRight nodes Past (seen_of cover_scope step.number step.view) r)) p.update old)))
    where
      none-there : (P : Rebuild → Type 0) (x : Option Rebuild) → ¬ IsSome x → IfSome (option_map update_on_cover x) P
      none-there P None h = tt
      none-there P (Some r) h = absurd (h refl)

  BodiesCovered-quiet : BodiesCovered nodes (after_step quiet core step)
  BodiesCovered-quiet =
      BodiesCovered-leaves quiet core step a nodes nodes none m a.laws.cover (record { unreplaced = λ number view among pass. some-all view.rebuild _ (λ r n new. absurd new); seen = λ n number name new. absurd new })
      (λ j.
      elim (cases_eq j i) [
        | inl same ↦ subst (λ (x : ℕ). BodyAfter quiet core step nodes nodes x) (sym same) (anew (record { covered = body-covered; noted = noted-right }))
        | inr apart ↦ as_it_was (stays j apart)
      ])

  -- and as the pass notes that the body is placed

  abbrev Then : Sight
  Then = SecondCover place_noted recalling core step a nodes

  abbrev Behind : View
  Behind = seen_of cover_scope step.number (Last place_noted core step)

  abbrev Between : View
  Between = seen_of cover_scope step.number (Last quiet core step)

  same-placing : (j : ℕ) → IsPlacing Behind.call.task j → IsPlacing Between.call.task j
  same-placing j places = subst (λ (c : Call). IsPlacing (task_on_cover c.task) j) (same-call core step a asked) places

  placing-same : (j : ℕ) → IsPlacing Between.call.task j → IsPlacing Behind.call.task j
  placing-same j places = subst (λ (c : Call). IsPlacing (task_on_cover c.task) j) (sym (same-call core step a asked)) places

  -- with a phase that names a slot the pass has not done with the body
  joins-on : (j t : ℕ) → i ≡ j → word_of (After place_noted core step) (Phase j) ≡ phase_join t → IsPlacing Behind.call.task j
  joins-on j t same joins =
      let phase = ap (λ (x : ℕ). word_of (After place_noted core step) (Phase x)) same ∙ joins in
      let task = task-joins core step a asked t (sym (unnamed (Phase i) (λ e. absurd cc)) ∙ phase) in
      placing-same j (subst (λ (x : Task). IsPlacing (task_on_cover x) j) (sym task) same)

  BodiesCovered-placed : BodiesCovered nodes (after_step place_noted core step)
  BodiesCovered-placed =
      BodiesCovered-swap place_noted recalling core step a nodes BodiesCovered-quiet keeps-removing
      (λ right.
      subst (λ (x : Option Rebuild). IfSome (option_map update_on_cover x) (λ r. UpdateIsRight nodes Then Behind r)) (sym (new-rebuild core step a asked))
      (right-more nodes Now Then.passes (removed-again place_noted recalling core step a nodes keeps-removing) Between Behind (update_on_cover p.r) (p.r.placed ++ asked.index ∷ []) p.r.given_up
      (λ j done. elim done [ inl t ↦ inl (Contains-append_left p.r.placed (asked.index ∷ []) j t.0, λ places. t.1 (same-placing j places)) | inr t ↦ inr t ])
      (λ j l t root merged body joins done.
      elim done [
        | inl d ↦
            elim (Contains-append_cases p.r.placed (asked.index ∷ []) j d.0) [
              | inl old ↦ inl (old, λ places. d.1 (placing-same j places))
              | inr new ↦ absurd (d.1 (joins-on j t (only i j new) joins))
            ]
        | inr d ↦ inr d
      ])
      (λ j among.
      elim (Contains-append_cases p.r.placed (asked.index ∷ []) j among) [
        | inl old ↦ inl old
        | inr new ↦
            let same : i ≡ j = only i j new in
            inr (p.noted, p.among, p.of_body ∙ same, ap (λ (x : ℕ). word_of (After place_noted core step) (LocB x)) (sym same) ∙ second-now core step a asked)
      ])
      (λ j among. inl among) (subst (λ (x : Option Rebuild). IfSome (option_map update_on_cover x) (λ r. UpdateIsRight nodes Now Between r)) p.update right)))
    where
      keeps-removing : (j : ℕ) → Removes (next_task core step a asked) j → Removes (Last place_noted core step).call.task j
      keeps-removing j removes = subst (λ (c : Call). Removes c.task j) (sym (same-call core step a asked)) removes

  -- ---- readers

  abbrev Count : Sight
  Count = sight reader_scope (After quiet core step)

  bound-same : (n k q : ℕ) → word_of (After quiet core step) (Bound n k q) ≡ word_of core (Bound n k q)
  bound-same n k q = unnamed (Bound n k q) (λ e. absurd cc)

  targets : KeepsTargets quiet core step a nodes none m
  targets = record {
    targets = λ j q side target. absurd (subst (λ (t : Task). IsTarget t j q side) asked.task target);
    bodies = λ seat number view found is j handled g l body. subst (λ (x : Option Record). IsSomeAnd x (λ r. (r.generation ≡ g) × (r.layer ≡ l))) (sym (record-same core step a asked j)) body;
  }

  counts : Counts quiet core step a nodes none m
  counts = record {
    places = λ seat number view apart found is j handled.
        let s = stays j (λ same. others-else quiet core step i next a o seat number view apart found is (subst (IsHandled view.call.task) same handled)) in
        (s.loc_a, s.loc_b);
    climbs = task-or core step a asked (λ t. ClimbsInTrees nodes Count t) tt tt;
    layers = layers-kept quiet core step a nodes none m targets;
    gives = gives-kept quiet core step a nodes none m targets;
    live = λ n k q l live layer. inl (bound-same n k q);
    fresh = λ number view among pass. some-all view.rebuild _ (λ r n k q l home. inl (bound-same n k q));
    new = λ n k l none. absurd none;
    unmade = λ n number l none. absurd none;
  }

  ReadersCounted-quiet : ReadersCounted nodes (after_step quiet core step)
  ReadersCounted-quiet = ReadersCounted-leaves quiet core step a nodes none m counts (record { reader = λ q. unnamed (Reader q) (λ e. absurd cc); walk = refl })

  -- ---- all of them

  -- a part of the update that counts no placed bodies
  same-part : (part : Rebuild → Rebuild) → part p.r ≡ part (u core step a asked) → option_map part step.view.rebuild ≡ option_map part (option_map (λ (r : Rebuild). record r { placed = r.placed ++ asked.index ∷ [] }) step.view.rebuild)
  same-part part same = ap (option_map part) p.update ∙ (ap Some same ∙ sym (ap (λ (x : Option Rebuild). option_map part (option_map (λ (r : Rebuild). record r { placed = r.placed ++ asked.index ∷ [] }) x)) p.update))

  seen-last : (scope : Scope) → scope.part (bare_view step.number) (record step.view {
    call = next;
    rebuild = option_map (λ (r : Rebuild). record r { placed = r.placed ++ asked.index ∷ [] }) step.view.rebuild;
    known = log_after place_noted core step;
    joined = None;
  }) ≡ scope.part (bare_view step.number) (Last place_noted core step)
  seen-last scope = sym (ap (λ (v : View). scope.part (bare_view step.number) v) (last core step a asked))

  pub Invariants-placed : Invariants (after_step place_noted core step)
  Invariants-placed =
      let unread = body-unread step.name i (of_body core step a asked) in
      record {
        nodes = nodes;
        locks = LocksAgree-other core step (lawful a) place_noted unread.locks (ap (λ (v : View). v.locks) (last core step a asked));
        bodies = law-swap body_scope (λ k v. refl) place_noted recalling core step a.at a.pass BodiesAgreeIn (seen-last body_scope)
            (BodiesAgree-beside quiet core step a i next o (λ between. absurd (subst (λ (t : Task). MovesBody t i) asked.task between.0)) (ap body_scope.names asked.names) (λ value. refl));
        places = law-swap node_scope (λ k v. refl) place_noted recalling core step a.at a.pass (NodesInOnePlaceIn nodes)
            (ap
            (λ (x : Option Rebuild). record (bare_view step.number) { locks = step.view.locks; call = call_at (task_on_pool (next_task core step a asked)); batches = step.view.batches; loose = step.view.loose; rebuild = x })
            (same-part update_on_nodes refl) ∙ seen-last node_scope) (NodesInOnePlace-on quiet core step i next a o unread.nodes);
        trees = law-swap tree_scope (λ k v. refl) place_noted recalling core step a.at a.pass (TreesSoundIn nodes)
            (ap (λ (x : Option Rebuild). record (bare_view step.number) { written = step.view.written; rebuild = x }) (same-part update_on_trees refl) ∙ seen-last tree_scope)
            (law-unseen quiet core step next o.recalls a tree_scope (TreesSoundIn nodes) unread.trees (λ reads. absurd (false≢true reads)) refl a.laws.trees);
        locations = LocationsHold-placed core step a asked;
        cover = BodiesCovered-placed;
        walks = law-swap walk_scope (λ k v. refl) place_noted recalling core step a.at a.pass WalksLeadIn (seen-last walk_scope)
            (law-unseen quiet core step next o.recalls a walk_scope WalksLeadIn (ap walk_scope.names asked.names) (λ reads value. refl) refl a.laws.walks);
        readers = law-swap reader_scope (λ k v. refl) place_noted recalling core step a.at a.pass (ReadersCountedIn nodes)
            (ap (λ (x : Option Rebuild). record (bare_view step.number) { walk = step.view.walk; call = call_at (task_at_place (next_task core step a asked)); rebuild = x }) (same-part update_on_readers refl) ∙ seen-last reader_scope)
            ReadersCounted-quiet;
      }

-- ---- kind 44

pub Invariants-place_noted : IsKept MayPlaceNoted place_noted
Invariants-place_noted = kept MayPlaceNoted place_noted (λ core step a asked. Invariants-placed core step a asked)

pub GuardsHold-place_noted : IsGuarded MayPlaceNoted place_noted
GuardsHold-place_noted =
    guarded MayPlaceNoted place_noted
    (λ core step a asked. stripe-guarded place_noted core step a asked.index
    (subst (λ (j : ℕ). Holds step.view (stripe_of step.view.config j) Write) asked.to_place.of_body asked.to_place.as_noted.settled.stripe)
    (subst (λ (j : ℕ). HasBody (scene_of core) j (λ r. r.phase ≢ Held)) asked.to_place.of_body (unheld core step a asked.index asked.to_place)) (subst (IsStripeWord asked.index) (sym asked.names) refl))
