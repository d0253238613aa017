-- Storing the phase of a body that is placed keeps all laws, where the trees are planned and the update has not given the
-- body up: it is in a tree that is
-- replaced, still, and from then on it is in the broad phase by its second location.
use Rattle.std.proofs.Common.{◌≡◌, ◌≢◌, ℕ, ◌+◌, ◌<◌, ◌≤◌, [], true, length, Contains, Option, Some, None, refl, ap, sym, ◌∙◌, subst, inl, inr, arith}
use Rattle.std.specs.Prelude.{IfSome, IsSome, IsSomeAnd, option_map, ◌-◌}
use Rattle.std.proofs.lemmas.Bool.{cases_eq, false≢true}
use Rattle.std.proofs.lemmas.Option.{same_Some}
use Rattle.fixed_box.specs.FixBox.{words_of}
use Rattle.scene_model.specs.declared.body_view.Phase.TheVariants.{Out, Held, In}
use Rattle.scene_model.specs.Scene.{Record, record_at}
use Rattle.scene_model.specs.Step.{HasBody}
use Rattle.word_map.specs.declared.name.Name.{Name}
use Rattle.word_map.specs.declared.name.Name.TheVariants.{State, Phase, Layer, User, BoxWord, LocA, LocB, Child, Slot}
use Rattle.word_map.specs.Names.{stripe_of}
use Rattle.core_state.specs.declared.view.Mode.TheVariants.{Write}
use Rattle.core_state.specs.declared.view.Call.{Call}
use Rattle.core_state.specs.declared.view.Noted.{Noted}
use Rattle.core_state.specs.declared.view.Rebuild.{Rebuild}
use Rattle.core_state.specs.declared.view.Task.{Task}
use Rattle.core_state.specs.declared.view.Task.TheVariants.{Nothing, Placing}
use Rattle.core_state.specs.declared.view.View.{View}
use Rattle.core_state.specs.Log.{history}
use Rattle.core_state.specs.View.{Holds, known_word, no_call}
use Rattle.core_state.specs.Core.{Core, word_of, scene_of}
use Rattle.core_state.specs.Encoding.{place, phase_in, phase_join, Sides, sides_of}
use Rattle.core_state.specs.Guards.{scene_at, KeepsGuards}
use Rattle.core_state.specs.Kind.{Kind, Step, after_step}
use Rattle.core_state.specs.Lists.{with_task}
use Rattle.core_state.specs.Nodes.{Nodes, under, Stands}
use Rattle.core_state.specs.Bodies.{phase_by, MovesBody}
use Rattle.core_state.specs.Parts.{call_at, task_on_cover, task_at_place, update_on_places, update_on_cover, update_on_readers}
use Rattle.core_state.specs.Placing.{MayPlacePhase, place_phase}
use Rattle.core_state.specs.Scope.{Sight, sight, EachPass, bare_view, scene_in}
use Rattle.core_state.specs.Updates.{IsDone, IsPlacing, IsNoted, IsOldTree, IsStillMerged, HasUpdate}
use Rattle.core_state.specs.BodiesAgree.{BodiesAgree}
use Rattle.core_state.specs.TreesSound.{tree_scope, TreesSoundIn}
use Rattle.core_state.specs.LocationsHold.{LocationsHold, location_scope, IsLocation, IsAt, Encloses, box_in, IsWhere, in_slot, in_main, in_old, in_merged, IsPlannedAt, is_location_store}
use Rattle.core_state.specs.BodiesCovered.{BodiesCovered, cover_scope, LooksAsNoted, IsInOldTree}
use Rattle.core_state.specs.WalksLead.{walk_scope, WalksLeadIn}
use Rattle.core_state.specs.ReadersCounted.{reader_scope, ReadersCountedIn}
use Rattle.core_state.specs.Invariants.{Invariants}
use Rattle.core_state.proofs.Beginning.{body_record, record_body}
use Rattle.core_state.proofs.Frames.{step-history}
use Rattle.core_state.proofs.Steps.{word-step, word-step-other, view-step}
use Rattle.core_guard.proofs.AgreeOn.{BodiesAgree-on}
use Rattle.core_guard.proofs.BodiesStep.{whole-back}
use Rattle.core_guard.proofs.BodyAnew.{turn-leaves}
use Rattle.core_guard.proofs.BodyTouch.{held-kept}
use Rattle.core_guard.proofs.Changed.{changes-none}
use Rattle.core_guard.proofs.CoverLeft.{BodyAfter, IsNotedRight, BodyIsCovered, as_it_was, anew, BodiesCovered-leaves}
use Rattle.core_guard.proofs.InPlace.{alike-of}
use Rattle.core_guard.proofs.Leaving.{Acts, After, Last, Stays, Leaves, scene-plain, stays-by, body_of, held-once, in_held, out_in}
use Rattle.core_guard.proofs.LivesGuarded.{IsStripeWord, stripe-guarded}
use Rattle.core_guard.proofs.OnBody.{OnBody, IsOn, others-else, removes-else, places-else, LocksAgree-on, NodesInOnePlace-on, body-unread}
use Rattle.core_guard.proofs.PlacesLeft.{SeenUpdate, BodyLeft, body_stays, body_anew, pass_anew, LocationsHold-leaves}
use Rattle.core_guard.proofs.PlacesStay.{BodyIsPlaced, begun-placed, encloses-forth, second-forth}
use Rattle.core_guard.proofs.ReadersLeft.{some-all}
use Rattle.core_guard.proofs.Recalled.{law-unseen}
use Rattle.core_guard.proofs.Scenes.{none_here}
use Rattle.core_guard.proofs.Seats.{each-seat, each-step, seat-has, seen_of}
use Rattle.core_guard.proofs.Settled.{StandsStill, settled-still}
use Rattle.core_update.proofs.OwnNotes.{Covering, Locating, own-notes, own-planned, unexchanged, note-once, sole-update}
use Rattle.core_guard.proofs.Holders.{IsGuarded, guarded}
use Rattle.core_guard.proofs.Touched.{IsKept}
use Rattle.core_guard.proofs.Touched as touched
use Rattle.core_update.proofs.SwappedPlaces.{First, Second, SwapsPlaces, LocationsHold-swap}

module _ (core : Core) (step : Step) (a : Acts core step) (asked : MayPlacePhase step.view step.name step.first step.second) (planned : asked.r.is_planned ≡ true) (kept : ¬ Contains asked.r.given_up asked.index) where
  abbrev nodes : Nodes
  nodes = a.laws.nodes

  abbrev i : ℕ
  i = asked.index

  abbrev Was : Sight
  Was = sight location_scope core

  abbrev none : ℕ → Type 0
  none n = ⊥

  -- ---- the body

  known : StandsStill core step.view i
  known = subst (StandsStill core step.view) asked.of_body (settled-still core step a asked.noted.index asked.as_noted.settled)

  body : (b : Record) × (record_at (scene_of core) i ≡ Some b) × (b.phase ≡ In)
  body =
      body_record (record_at (scene_of core) i) (λ b. b.phase ≡ In)
      (subst (λ (o : Option Record). IsSomeAnd o (λ b. b.phase ≡ In)) (sym known.body) (subst (λ (j : ℕ). HasBody (scene_at step.view.config step.view.known) j (λ b. b.phase ≡ In)) asked.of_body asked.as_noted.inside))

  unheld : HasBody (scene_of core) i (λ b. b.phase ≢ Held)
  unheld = record_body (record_at (scene_of core) i) (λ b. b.phase ≢ Held) body.0 body.1 (λ held. in_held (sym body.2 ∙ held))

  joins : word_of core (Phase i) ≡ phase_join asked.slot
  joins = known.phase ∙ asked.joined

  not-done : ¬ IsDone (Covering core step a asked.r asked.update) (update_on_cover asked.r) asked.noted.index
  not-done done =
      elim done [
        | inl t ↦ t.1 (subst (λ (x : Task). IsPlacing (task_on_cover x) asked.noted.index) (sym asked.task) (sym asked.of_body))
        | inr given ↦ kept (subst (λ (j : ℕ). Contains asked.r.given_up j) asked.of_body given)
      ]

  looks : LooksAsNoted (sight cover_scope core) asked.noted
  looks = record {
    state = ap (λ (j : ℕ). word_of core (State j)) asked.of_body ∙ (known.words (State i) refl ∙ (ap (λ (j : ℕ). known_word step.view (State j)) (sym asked.of_body) ∙ asked.as_noted.state));
    location = ap (λ (j : ℕ). word_of core (LocA j)) asked.of_body ∙ (known.loc_a ∙ (ap (λ (j : ℕ). known_word step.view (LocA j)) (sym asked.of_body) ∙ asked.as_noted.location));
  }

  tree : IsInOldTree nodes (sight cover_scope core) (update_on_cover asked.r) i
  tree =
      let notes = own-notes core step a asked.r asked.update in
      subst (IsInOldTree nodes (sight cover_scope core) (update_on_cover asked.r)) asked.of_body (notes.still_there asked.noted asked.among (notes.passed asked.noted asked.among, not-done) looks).0

  -- with its second location where it was planned
  second-at : word_of core (LocB i) ≡ asked.noted.place
  second-at =
      let notes = own-notes core step a asked.r asked.update in
      let n = notes.placed i asked.placed tree in
      n.3 ∙ ap (λ (x : Noted). x.place) (note-once asked.r.noted n.0 asked.noted notes.once n.1 asked.among (n.2 ∙ sym asked.of_body))

  planned-here : IsPlannedAt nodes Was step.number (Locating core step a asked.r asked.update) (update_on_places asked.r) asked.noted
  planned-here = own-planned core step a asked.r asked.update asked.noted asked.among planned (unexchanged core step a asked.r asked.update asked.noted asked.among not-done asked.noted.layer)

  second-some : word_of core (LocB i) ≢ 0
  second-some gone = let at = planned-here.at in let second = second-at in absurd (omega arith)

  -- the tree of the slot that its phase names is still to be merged
  merged-at : (n k : ℕ) → k < 4 → word_of core (LocA i) ≡ place n k → (layer : ℕ) (t : ℕ) → nodes.home n ≡ under (Slot layer t) → (root : ℕ) × IsStillMerged asked.r layer t root
  merged-at n k low e layer t at =
      let same : tree.0 ≡ n = let first = tree.3 in let less = tree.2 in omega arith in
      subst (IsOldTree (update_on_cover asked.r)) (ap nodes.home same ∙ at) tree.4

  -- ---- the step as one of which the pass notes just that it goes on

  abbrev going_on : Call
  going_on = record { task = Placing asked.index; loads = []; stores = [] }

  abbrev placing_on : View → Name → ℕ → ℕ → ℕ → View
  placing_on view name found first second = with_task view (Placing asked.index)

  abbrev quiet : Kind
  quiet = record place_phase { leaves = placing_on }

  stripe : Holds step.view (stripe_of step.view.config i) Write
  stripe = subst (λ (j : ℕ). Holds step.view (stripe_of step.view.config j) Write) asked.of_body asked.as_noted.settled.stripe

  busy : IsOn i step.view.call.task
  busy = subst (λ (t : Task). IsOn asked.index t) (sym asked.task) refl

  p : OnBody quiet core step i going_on
  p = record { stripe = stripe; before = busy; after = refl; recalls = refl }

  o : OnBody place_phase core step i no_call
  o = record { stripe = stripe; before = busy; after = tt; recalls = refl }

  of_body : body_of step.name ≡ Some i
  of_body = ap body_of asked.names

  m : Leaves quiet core step nodes nodes none
  m = turn-leaves quiet core step nodes i of_body refl

  l : Leaves place_phase core step nodes nodes none
  l = turn-leaves place_phase core step nodes i of_body refl

  same : (name : Name) → Phase i ≢ name → word_of (After place_phase core step) name ≡ word_of core name
  same name other = word-step-other place_phase core step name (λ e. other (sym (e ∙ asked.names)))

  phase-now : word_of (After place_phase core step) (Phase i) ≡ phase_in
  phase-now = ap (word_of (After place_phase core step)) (sym asked.names) ∙ (word-step place_phase core step ∙ asked.goes_in)

  record-same : (j : ℕ) → record_at (scene_of (After place_phase core step)) j ≡ record_at (scene_of core) j
  record-same j = scene-plain place_phase core step (λ value. refl) j

  off : (j : ℕ) → j ≢ i → (name : Name) → body_of name ≡ Some j → word_of (After place_phase core step) name ≡ word_of core name
  off j apart name of = same name (λ e. apart (same_Some j i (sym of ∙ ap body_of (sym e))))

  -- ---- locations

  abbrev Mid : Sight
  Mid = First place_phase placing_on core step a nodes

  abbrev Is : Sight
  Is = Second place_phase placing_on core step a nodes

  location-back : (n k : ℕ) → IsLocation Mid i n k → IsLocation Was i n k
  location-back n k h = (h.0, elim (h.1) [ inl e ↦ inl (sym (same (LocA i) (λ e. absurd cc)) ∙ e) | inr e ↦ inr (sym (same (LocB i) (λ e. absurd cc)) ∙ e) ])

  location-on : (n k : ℕ) → IsLocation Was i n k → IsLocation Mid i n k
  location-on n k h = (h.0, elim (h.1) [ inl e ↦ inl (same (LocA i) (λ e. absurd cc) ∙ e) | inr e ↦ inr (same (LocB i) (λ e. absurd cc) ∙ e) ])

  is-b : (r : Record) → record_at (scene_in Mid) i ≡ Some r → body.0 ≡ r
  is-b r e = same_Some body.0 r (sym body.1 ∙ (sym (record-same i) ∙ e))

  at-now : (n k : ℕ) → IsLocation Mid i n k → IsAt nodes Mid i body.0 n k
  at-now n k location =
      let old = a.laws.locations.at i body.0 n k body.1 body.2 (location-back n k location) in
      record {
        stands = old.stands;
        entry = same (Child n k) (λ e. absurd cc) ∙ old.entry;
        bounds = encloses-forth quiet core step a nodes none m n k (sides_of (words_of body.0.bounds)) old.stands old.bounds;
        box_words = subst (λ (box : Sides). Encloses Mid n k box) (λ j q. sym (same (BoxWord i q) (λ e. absurd cc)) j) (encloses-forth quiet core step a nodes none m n k (box_in Was i) old.stands old.box_words);
      }

  where-now : (layer n k : ℕ) → k < 4 → word_of core (LocA i) ≡ place n k → IsWhere nodes Was i layer n → IsWhere nodes Mid i layer n
  where-now layer n k low e (in_slot t phase at second) =
      let root = merged-at n k low e layer t at in
      in_merged step.number t root.0 phase-now (λ gone. second-some (sym (same (LocB i) (λ e. absurd cc)) ∙ gone)) at
      (seat-has location_scope (λ j v. refl) (After quiet core step) step.number (λ v. HasUpdate v (λ r. IsStillMerged r layer t root.0)) (record {
        seat = step.seat;
        view = Last quiet core step;
        at = view-step quiet core step a.at;
        pass = a.pass;
        holds = subst (λ (x : Option Rebuild). IsSomeAnd (option_map update_on_places x) (λ r. IsStillMerged r layer t root.0)) (sym asked.update) root.1;
      }))
  where-now layer n k low e (in_main phase at second) = let names = joins in absurd (omega arith)
  where-now layer n k low e (in_old number name phase some at of_layer) = let names = joins in absurd (omega arith)
  where-now layer n k low e (in_merged number t root phase some at has) = let names = joins in absurd (omega arith)

  body-now : BodyIsPlaced nodes Mid i
  body-now = record {
    at = λ r n k e inside location. subst (λ (x : Record). IsAt nodes Mid i x n k) (is-b r e) (at-now n k location);
    first = λ r n k e inside low location.
        let was = sym (same (LocA i) (λ e. absurd cc)) ∙ location in
        subst (λ (x : Record). IsWhere nodes Mid i x.layer n) (is-b r e) (where-now body.0.layer n k low was (a.laws.locations.first i body.0 n k body.1 body.2 low was));
    located = λ r e inside none. a.laws.locations.located i body.0 body.1 body.2 (sym (same (LocA i) (λ e. absurd cc)) ∙ none);
    second = λ some.
        second-forth quiet core step a nodes none m i (same (LocB i) (λ e. absurd cc)) (alike-of (record_at (scene_of core) i) (record_at (scene_in Mid) i) body.0 body.0 body.1 (record-same i ∙ body.1) refl refl)
        (a.laws.locations.second i second-some);
    dead = λ gone. absurd (none_here (record_at (scene_in Mid) i) (λ r. Unit {0}) gone (record_body (record_at (scene_in Mid) i) (λ r. Unit {0}) body.0 (record-same i ∙ body.1) tt));
    out = λ out left. absurd (out_in (sym (subst (λ (x : Option Record). IsSomeAnd x (λ r. r.phase ≡ Out)) (record-same i ∙ body.1) out) ∙ body.2));
  }

  stays-quiet : (j : ℕ) → j ≢ i → Stays quiet core step j
  stays-quiet j apart = stays-by quiet core step j (record-same j) (off j apart) (removes-else quiet core step i going_on a p j apart) (places-else quiet core step i going_on a p j apart)

  note-place : (n k : ℕ) → IsNoted asked.r i (λ noted. noted.place ≡ place n k) → asked.noted.place ≡ place n k
  note-place n k t =
      ap (λ (x : Noted). x.place) (sym (note-once asked.r.noted t.0 asked.noted (own-notes core step a asked.r asked.update).once t.1 asked.among (t.2 ∙ sym asked.of_body))) ∙ t.3

  climbs-stand : (n k : ℕ) → k < 4 → asked.noted.place ≡ place n k → Stands (nodes.home n)
  climbs-stand n k low e =
      let one : planned-here.node ≡ n = let at = planned-here.at in let less = planned-here.below in omega arith in
      subst (λ (x : ℕ). Stands (nodes.home x)) one (subst Stands (sym planned-here.made_for) tt)

  LocationsHold-quiet : LocationsHold nodes (after_step quiet core step)
  LocationsHold-quiet =
      LocationsHold-leaves quiet core step a nodes none m
      (record {
        bodies = λ j.
            elim (cases_eq j i) [
              | inl one ↦
                  subst (BodyLeft quiet core step nodes nodes) (sym one)
                  (body_anew (record {
                    placed = body-now;
                    alone = others-else quiet core step i going_on a p;
                    entry = λ n k published low entry location. location-on n k location;
                    second = λ n k stands low entry e. same (LocB i) (λ e. absurd cc) ∙ e;
                    places = (λ h. refl, λ h. subst (λ (t : Task). IsPlacing t asked.index) (sym asked.task) refl);
                  }))
              | inr apart ↦ body_stays (stays-quiet j apart)
            ];
        own = pass_anew
            (begun-placed nodes Mid (SeenUpdate quiet core step) (Placing i) (λ j removes. absurd removes) (subst (λ (x : Option Record). IsSomeAnd x (λ r. r.phase ≢ Held)) (sym (record-same i)) unheld)
            (λ n k climbs. climbs-stand n k climbs.0 (note-place n k (subst (λ (x : Option Rebuild). IsSomeAnd (option_map update_on_places x) (λ r. IsNoted r i (λ noted. noted.place ≡ place n k))) asked.update climbs.1))));
        entries = λ j n k new. absurd new;
        made_entries = λ j n k number layer new. absurd new;
        held = held-kept quiet core step a refl (ap is_location_store asked.names);
      })

  abbrev v : View
  v = seen_of location_scope step.number (Last quiet core step)

  abbrev w : View
  w = seen_of location_scope step.number (Last place_phase core step)

  planned-own : (noted : Noted) → Contains asked.r.noted noted → IsPlannedAt nodes Mid step.number v (update_on_places asked.r) noted → IsPlannedAt nodes Is step.number w (update_on_places asked.r) noted
  planned-own noted among h = record {
    node = h.node;
    child = h.child;
    below = h.below;
    at = h.at;
    made_for = h.made_for;
    entry = h.entry;
    undone = λ undone. h.undone (λ done. undone (elim done [ inl t ↦ inl (t.0, λ no. no) | inr given ↦ inr given ]));
    of_done = λ done e.
        elim (cases_eq noted.index i) [
          | inl one ↦
              let note : noted ≡ asked.noted = note-once asked.r.noted noted asked.noted (own-notes core step a asked.r asked.update).once among asked.among (one ∙ sym asked.of_body) in
              ap (λ (j : ℕ). word_of (After place_phase core step) (LocB j)) one ∙ (same (LocB i) (λ e. absurd cc) ∙ (second-at ∙ ap (λ (x : Noted). x.place) (sym note)))
          | inr apart ↦ h.of_done (elim done [ inl t ↦ inl (t.0, λ places. apart (sym places)) | inr given ↦ inr given ]) e
        ];
  }

  abbrev Planned : Sight → View → Rebuild → Type 0
  Planned s x r = (noted : Noted) → Contains r.noted noted → r.is_planned ≡ true → length r.swapped ≤ noted.layer → IsPlannedAt nodes s step.number x r noted

  swaps : SwapsPlaces place_phase placing_on core step a nodes
  swaps = record {
    batches = refl;
    bodies = λ j. record {
      second = λ h. h;
      placed = λ t e places.
          let phase = ap (λ (x : ℕ). word_of (After place_phase core step) (Phase x)) places ∙ e in
          let now = phase-now in
          absurd (omega arith);
      unexchanged = λ layer h. h;
      merged = λ layer t root h. h;
      removed = λ removes. absurd removes;
    };
    noted = λ j n k layer at h. h;
    planned =
        let old = each-seat location_scope (λ j x. refl) (after_step quiet core step) _ LocationsHold-quiet.planned step.seat step.number (Last quiet core step) (view-step quiet core step a.at) a.pass in
        subst (λ (x : Option Rebuild). IfSome (option_map update_on_places x) (Planned Is w)) (sym asked.update)
        (λ noted among is from. planned-own noted among ((subst (λ (x : Option Rebuild). IfSome (option_map update_on_places x) (Planned Mid v)) asked.update old) noted among is from));
    published = each-seat location_scope (λ j x. refl) core _ a.laws.locations.published step.seat step.number step.view a.at a.pass;
    own = begun-placed nodes Is (SeenUpdate place_phase core step) Nothing (λ j removes. absurd removes) tt (λ n k climbs. absurd climbs);
  }

  -- ---- cover

  abbrev Then : Sight
  Then = sight cover_scope (After place_phase core step)

  body-covered : BodyIsCovered nodes Then i
  body-covered = record {
    covered = λ r e inside.
        let t = a.laws.cover.covered i r (sym (record-same i) ∙ e) inside in
        (t.0, t.1, location-on t.0 t.1 t.2, t.3, t.4);
    replaced = λ n k number name low location at gone. second-some (sym (same (LocB i) (λ e. absurd cc)) ∙ gone);
  }

  -- the update has done with the body then
  own-right : (x : View) → x.call.task ≡ Nothing → IsNotedRight nodes Then x (update_on_cover asked.r) i
  own-right x idle =
      let done : IsDone x (update_on_cover asked.r) i = inl (asked.placed, λ places. subst (λ (t : Task). IsPlacing t i) idle places) in
      record {
        to_place = λ layer t root passed merged at names. let now = phase-now in absurd (omega arith);
        all_noted = λ opened at. absurd (opened.1 done);
        still_there = λ n among is opened looks. absurd (opened.1 done);
        in_old = λ n among is undone. absurd (undone done);
        placed = λ among at. (asked.noted, asked.among, asked.of_body, same (LocB i) (λ e. absurd cc) ∙ second-at);
        given_up = λ among at. kept among;
        exchanged = λ begun n among is. done;
      }

  noted-right : EachPass Then (λ number x. IfSome x.rebuild (λ r. IsNotedRight nodes Then x r i))
  noted-right =
      each-step cover_scope (λ j x. refl) place_phase core step a.at a.pass (λ number x. Unit {0}) (λ number x. IfSome x.rebuild (λ r. IsNotedRight nodes Then x r i)) (λ number x among pass. tt)
      (λ seat number view apart found is old. none-there (λ r. IsNotedRight nodes Then (seen_of cover_scope number view) r i) view.rebuild (sole-update core step a (subst IsSome (sym asked.update) refl) seat number view apart found is))
      (λ old. subst (λ (x : Option Rebuild). IfSome (option_map update_on_cover x) (λ r. IsNotedRight nodes Then (seen_of cover_scope step.number (Last place_phase core step)) r i)) (sym asked.update) (own-right (seen_of cover_scope step.number (Last place_phase core step)) refl))
    where
      none-there : (P : Rebuild → Type 0) (x : Option Rebuild) → ¬ IsSome x → IfSome (option_map update_on_cover x) P
      none-there P None h = tt
      none-there P (Some r) h = absurd (h refl)

  stays : (j : ℕ) → j ≢ i → Stays place_phase core step j
  stays j apart = stays-by place_phase core step j (record-same j) (off j apart) (removes-else place_phase core step i no_call a o j apart) (places-else place_phase core step i no_call a o j apart)

  BodiesCovered-phase : BodiesCovered nodes (after_step place_phase core step)
  BodiesCovered-phase =
      BodiesCovered-leaves place_phase core step a nodes nodes none l a.laws.cover (record { unreplaced = λ number view among pass. some-all view.rebuild _ (λ r n new. absurd new); seen = λ n number name new. absurd new })
      (λ j.
      elim (cases_eq j i) [
        | inl one ↦ subst (BodyAfter place_phase core step nodes nodes) (sym one) (anew (record { covered = body-covered; noted = noted-right }))
        | inr apart ↦ as_it_was (stays j apart)
      ])

  -- ---- bodies

  BodiesAgree-phase : BodiesAgree (after_step place_phase core step)
  BodiesAgree-phase =
      let was = a.laws.bodies.live i body.0 body.1 in
      BodiesAgree-on place_phase core step a i no_call o of_body (history core.log) body.0
      (record {
        changes = changes-none core i a.laws.bodies body.0 body.1;
        unheld = held-once (record_at (scene_of core) i) unheld;
        unheld_now = λ held. in_held (sym body.2 ∙ held);
        state = same (State i) (λ e. absurd cc);
        words = record {
          layer = same (Layer i) (λ e. absurd cc) ∙ was.layer;
          user = same (User i) (λ e. absurd cc) ∙ was.user;
          user_fits = was.user_fits;
          bounds = λ whole k low.
              same (BoxWord i k) (λ e. absurd cc)
              ∙ was.bounds (whole-back place_phase core step a.at a.pass (history core.log) i (λ between. absurd (subst (λ (t : Task). MovesBody t i) asked.task between.0)) whole) k low;
          phase = ap (λ (n : ℕ). phase_by n (word_of (After place_phase core step) (Slot body.0.layer (n - 2)))) phase-now ∙ ap Some (sym body.2);
          slot = subst (λ (n : ℕ). n < 2 + core.config.slots) (sym phase-now) (omega arith);
        };
      }) (step-history place_phase core step (λ value. refl))

  -- ---- all of them

  pub Invariants-phase : Invariants (after_step place_phase core step)
  Invariants-phase =
      let unread = body-unread step.name i of_body in
      record {
        nodes = nodes;
        locks = LocksAgree-on place_phase core step i no_call a o unread.locks;
        bodies = BodiesAgree-phase;
        places = NodesInOnePlace-on place_phase core step i no_call a o unread.nodes;
        trees = law-unseen place_phase core step no_call refl a tree_scope (TreesSoundIn nodes) unread.trees (λ reads. absurd (false≢true reads)) refl a.laws.trees;
        locations = LocationsHold-swap place_phase placing_on core step a nodes LocationsHold-quiet swaps;
        cover = BodiesCovered-phase;
        walks = law-unseen place_phase core step no_call refl a walk_scope WalksLeadIn (ap walk_scope.names asked.names) (λ reads value. refl) refl a.laws.walks;
        readers = law-unseen place_phase core step no_call refl a reader_scope (ReadersCountedIn nodes) (ap reader_scope.names asked.names) (λ reads value. refl)
            (ap (λ (t : Task). record (bare_view step.number) { walk = step.view.walk; call = call_at (task_at_place t); rebuild = option_map update_on_readers step.view.rebuild }) (sym asked.task))
            a.laws.readers;
      }

  pub guarded-phase : KeepsGuards place_phase core step
  guarded-phase = stripe-guarded place_phase core step a i stripe unheld (subst (IsStripeWord asked.index) (sym asked.names) refl)

-- ---- kind 45

pub Invariants-place_phase : IsKept MayPlacePhase place_phase
Invariants-place_phase = touched.kept MayPlacePhase place_phase (λ core step a asked. Invariants-phase core step a asked asked.planned asked.kept)

pub GuardsHold-place_phase : IsGuarded MayPlacePhase place_phase
GuardsHold-place_phase = guarded MayPlacePhase place_phase (λ core step a asked. guarded-phase core step a asked asked.planned asked.kept)
