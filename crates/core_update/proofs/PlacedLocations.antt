-- The law of locations holds after an update has placed a body.
use Rattle.std.proofs.Common.{◌≡◌, ◌≢◌, ℕ, ◌≤◌, List, [], ◌∷◌, true, length, Contains, Option, Some, refl, ap, sym, ◌∙◌, subst, inl, inr, arith}
use Rattle.std.specs.Prelude.{IfSome, IsSomeAnd, option_map}
use Rattle.std.proofs.lemmas.Bool.{cases_eq}
use Rattle.std.proofs.lemmas.Option.{same_Some}
use Rattle.std.proofs.lemmas.List.Elements.{Contains-append_left, Contains-append_right, Contains-append_cases}
use Rattle.fixed_box.specs.FixBox.{words_of}
use Rattle.scene_model.specs.declared.body_view.Phase.TheVariants.{Out, Held}
use Rattle.scene_model.specs.Scene.{Record, record_at}
use Rattle.scene_model.specs.Step.{HasBody}
use Rattle.word_map.specs.declared.name.Name.{Name}
use Rattle.word_map.specs.declared.name.Name.TheVariants.{Phase, BoxWord, LocA, LocB, Child}
use Rattle.core_state.specs.declared.view.Batch.{Batch}
use Rattle.core_state.specs.declared.view.Call.{Call}
use Rattle.core_state.specs.declared.view.Marked.{Marked}
use Rattle.core_state.specs.declared.view.Noted.{Noted}
use Rattle.core_state.specs.declared.view.Rebuild.{Rebuild}
use Rattle.core_state.specs.declared.view.Task.{Task}
use Rattle.core_state.specs.declared.view.Task.TheVariants.{Nothing, Placing}
use Rattle.core_state.specs.declared.view.View.{View}
use Rattle.core_state.specs.Core.{Core, word_of, scene_of}
use Rattle.core_state.specs.Encoding.{place, Sides, sides_of}
use Rattle.core_state.specs.Kind.{Step, after_step}
use Rattle.core_state.specs.Nodes.{Nodes, Stands}
use Rattle.core_state.specs.Parts.{call_on_places, update_on_places}
use Rattle.core_state.specs.Placing.{MayPlaceNoted, place_noted}
use Rattle.core_state.specs.Scope.{Sight, sight, HasPass, scene_in}
use Rattle.core_state.specs.Bodies.{all_batches}
use Rattle.core_state.specs.Updates.{HasUpdate, IsStillMerged, IsNoted, IsPlacing, IsDone}
use Rattle.core_state.specs.LocationsHold.{LocationsHold, location_scope, IsLocation, IsAt, Encloses, box_in, IsWhere, in_slot, in_main, in_old, in_merged, IsSecondFor, IsPlannedAt, IsPublishedAt, IsPlannedIn}
use Rattle.core_state.proofs.Beginning.{record_body}
use Rattle.core_state.proofs.Opening.{only}
use Rattle.core_state.proofs.Steps.{view-step}
use Rattle.core_guard.proofs.Leaving.{Acts, After, Last, IsHandled, out_in, held-once, if_some_map, some_and_map, idle-unhandled}
use Rattle.core_guard.proofs.InPlace.{stays-in_place}
use Rattle.core_guard.proofs.NodesLeft.{flat_from}
use Rattle.core_guard.proofs.OnBody.{others-else}
use Rattle.core_guard.proofs.PlacesStay.{BodyIsPlaced, PassIsPlaced, EachPlaced, acting, body-placed, pass-placed, placed-forth, stays-enclosed, encloses-forth, pass-forth, planned-forth, begun-placed, handled-seen, taken-out, seen-task, places-handles}
use Rattle.core_guard.proofs.Scenes.{none_here}
use Rattle.core_guard.proofs.Seats.{each-step, has-step, seat-has, seen_of, seen_at, flat-step}
use Rattle.core_guard.proofs.Alone.{marked-held}
use Rattle.core_update.proofs.OwnNotes.{unheld, there, planned-at, one-note, unexchanged-all}
use Rattle.core_update.proofs.PlacedBody.{places_it, planned-home}
use Rattle.core_update.proofs.PlacedNotes.{u, quiet, placing_on, going_on, o, last, same-call, new-rebuild, task-joins, task-or, word-same, second-now, second-none, b, b-is, b-in, record-same, m, stays, home, entry, encloses, box-same, word-box}
use Rattle.core_update.proofs.SwappedPlaces.{First, OneUpdate, TwoUpdate, OwnGoesOn, goes-on, pass-again, planned-again, body-again}

module _ (core : Core) (step : Step) (a : Acts core step) (asked : MayPlaceNoted step.view step.name step.first step.second) where
  abbrev Was : Sight
  Was = sight location_scope core

  abbrev Is : Sight
  Is = sight location_scope (After place_noted core step)

  abbrev Mid : Sight
  Mid = First place_noted (placing_on core step a asked) core step a a.laws.nodes

  abbrev nodes : Nodes
  nodes = a.laws.nodes

  abbrev none : ℕ → Type 0
  none n = ⊥

  abbrev i : ℕ
  i = asked.index

  abbrev Two : Option Rebuild
  Two = TwoUpdate place_noted (placing_on core step a asked) core step a a.laws.nodes

  two : Two ≡ Some (update_on_places (u core step a asked))
  two = ap (option_map update_on_places) (new-rebuild core step a asked)

  unnamed : (name : Name) → LocB i ≢ name → word_of (After place_noted core step) name ≡ word_of core name
  unnamed name other = word-same core step a asked name (λ e. other (sym e))

  -- ---- the body

  encloses-on : (n k : ℕ) (box : Sides) → Stands (nodes.home n) → Encloses Was n k box → Encloses Is n k box
  encloses-on n k box stands h = encloses-forth (quiet core step a asked) core step a nodes none (m core step a asked) n k box stands h

  at-now : (n k : ℕ) → IsLocation Is i n k → IsAt nodes Is i (b core step a asked) n k
  at-now n k location =
      elim (location.1) [
        | inl e ↦
            let old = a.laws.locations.at i (b core step a asked) n k (b-is core step a asked) (b-in core step a asked) (location.0, inl (sym (unnamed (LocA i) (λ e. absurd cc)) ∙ e)) in
            record {
              stands = old.stands;
              entry = unnamed (Child n k) (λ e. absurd cc) ∙ old.entry;
              bounds = encloses-on n k (sides_of (words_of (b core step a asked).bounds)) old.stands old.bounds;
              box_words = subst (λ (box : Sides). Encloses Is n k box) (λ j q. sym (unnamed (BoxWord i q) (λ e. absurd cc)) j) (encloses-on n k (box_in Was i) old.stands old.box_words);
            }
        | inr e ↦
            let same : place asked.node asked.child ≡ place n k = sym asked.planned ∙ (sym (second-now core step a asked) ∙ e) in
            let one : asked.node ≡ n = let x = asked.below in let y = location.0 in omega arith in
            let other : asked.child ≡ k = let x = asked.below in let y = location.0 in omega arith in
            subst (λ (x : ℕ). IsAt nodes Is i (b core step a asked) x k) one (subst (λ (y : ℕ). IsAt nodes Is i (b core step a asked) asked.node y) other (record {
              stands = subst Stands (sym (home core step a asked)) tt;
              entry = unnamed (Child asked.node asked.child) (λ e. absurd cc) ∙ entry core step a asked;
              bounds = encloses core step a asked (sides_of (words_of (b core step a asked).bounds)) (box-same core step a asked);
              box_words = encloses core step a asked (box_in Is i) (word-box core step a asked);
            }))
      ]

  own-has : (P : View → Type 0) → P (seen_of location_scope step.number (Last place_noted core step)) → HasPass Is step.number P
  own-has P holds = seat-has location_scope (λ k v. refl) (After place_noted core step) step.number P (record { seat = step.seat; view = Last place_noted core step; at = view-step place_noted core step a.at; pass = a.pass; holds = holds })

  where-now : (layer n : ℕ) → IsWhere nodes Was i layer n → IsWhere nodes Is i layer n
  where-now layer n (in_slot t e home second) =
      in_slot t (unnamed (Phase i) (λ e. absurd cc) ∙ e) home
      (inr (step.number, own-has (λ v. IsPlacing v.call.task i) (subst (λ (c : Call). IsPlacing (call_on_places c).task i) (sym (same-call core step a asked)) (subst (λ (t : Task). IsPlacing (call_on_places (record { task = t; loads = []; stores = [] })).task i) (sym (task-joins core step a asked t e)) refl))))
  where-now layer n (in_main e home second) =
      in_main (unnamed (Phase i) (λ e. absurd cc) ∙ e) home
      (inr (inr (step.number, own-has (λ v. HasUpdate v (λ r. length r.swapped ≤ layer)) (subst (λ (o : Option Rebuild). IsSomeAnd o (λ r. length r.swapped ≤ layer)) (sym two) (unexchanged-all core step a asked.index asked.to_place layer)))))
  where-now layer n (in_old number name e some home of_layer) = absurd (some (second-none core step a asked))
  where-now layer n (in_merged number t root e some home has) = absurd (some (second-none core step a asked))

  second-here : IsSomeAnd Two (IsSecondFor Is i)
  second-here =
      subst (λ (o : Option Rebuild). IsSomeAnd o (IsSecondFor Is i)) (sym two) (
        asked.to_place.planned,
        Contains-append_right asked.to_place.r.placed (asked.index ∷ []) i (0, omega arith, refl),
        asked.to_place.unpromoted,
        (
          asked.to_place.noted,
          asked.to_place.among,
          asked.to_place.of_body,
          (second-now core step a asked, subst (λ (o : Option Record). IsSomeAnd o (λ r. (r.generation ≡ asked.to_place.noted.generation) × (r.layer ≡ asked.to_place.noted.layer))) (sym (record-same core step a asked asked.to_place.noted.index)) (there core step a asked.index asked.to_place).1.same),
        ),
      )

  is-b : (r : Record) → record_at (scene_in Is) i ≡ Some r → b core step a asked ≡ r
  is-b r e = same_Some (b core step a asked) r (sym (b-is core step a asked) ∙ (sym (record-same core step a asked i) ∙ e))

  body-now : BodyIsPlaced nodes Is i
  body-now = record {
    at = λ r n k e inside location. subst (λ (x : Record). IsAt nodes Is i x n k) (is-b r e) (at-now n k location);
    first = λ r n k e inside below location.
        subst (λ (x : Record). IsWhere nodes Is i x.layer n) (is-b r e)
        (where-now (b core step a asked).layer n (a.laws.locations.first i (b core step a asked) n k (b-is core step a asked) (b-in core step a asked) below (sym (unnamed (LocA i) (λ e. absurd cc)) ∙ location)));
    located = λ r e inside none. a.laws.locations.located i (b core step a asked) (b-is core step a asked) (b-in core step a asked) (sym (unnamed (LocA i) (λ e. absurd cc)) ∙ none);
    second = λ some. (step.number, own-has (λ v. HasUpdate v (IsSecondFor Is i)) second-here);
    dead = λ gone. absurd (none_here (record_at (scene_in Is) i) (λ r. Unit {0}) gone (record_body (record_at (scene_in Is) i) (λ r. Unit {0}) (b core step a asked) (record-same core step a asked i ∙ b-is core step a asked) tt));
    out = λ out left.
        absurd
        (out_in
        (sym (subst (λ (o : Option Record). IsSomeAnd o (λ r. r.phase ≡ Out)) (record-same core step a asked i ∙ b-is core step a asked) out) ∙ b-in core step a asked));
  }

  -- ---- other bodies

  other-goes : (j : ℕ) → j ≢ i → OwnGoesOn place_noted (placing_on core step a asked) core step a nodes j
  other-goes j apart =
      let one : OneUpdate place_noted (placing_on core step a asked) core step a nodes ≡ Some (update_on_places asked.to_place.r) = ap (option_map update_on_places) asked.to_place.update in
      let forth : (P : Rebuild → Type 0) → (P (update_on_places asked.to_place.r) → P (update_on_places (u core step a asked))) → IsSomeAnd (OneUpdate place_noted (placing_on core step a asked) core step a nodes) P → IsSomeAnd Two P =
      λ P more t. subst (λ (o : Option Rebuild). IsSomeAnd o P) (sym two) (more (subst (λ (o : Option Rebuild). IsSomeAnd o P) one t))
      in
      record {
        second = forth (IsSecondFor Mid j) (λ t. (t.0, Contains-append_left asked.to_place.r.placed (asked.index ∷ []) j t.1, t.2, t.3));
        placed = λ t e places. absurd (apart (sym places));
        unexchanged = λ l. forth (λ r. length r.swapped ≤ l) (λ t. t);
        merged = λ l t root. forth (λ r. IsStillMerged r l t root) (λ t. t);
        removed = λ removes. absurd removes;
      }

  other-now : (j : ℕ) → j ≢ i → BodyIsPlaced nodes Is j
  other-now j apart =
      let s = stays core step a asked j apart in
      let old = body-placed nodes Was a.laws.locations j in
      body-again nodes Mid Is.passes j (goes-on place_noted (placing_on core step a asked) core step a nodes j (other-goes j apart))
      (placed-forth (quiet core step a asked) core step a nodes none (m core step a asked) j (stays-in_place (quiet core step a asked) core step j s) old (stays-enclosed (quiet core step a asked) core step a nodes none (m core step a asked) j s old))

  all-now : (j : ℕ) → BodyIsPlaced nodes Is j
  all-now j = elim (cases_eq j i) [ inl same ↦ subst (BodyIsPlaced nodes Is) (sym same) body-now | inr apart ↦ other-now j apart ]

  -- ---- passes

  note-place : (n k : ℕ) → IsNoted asked.to_place.r i (λ noted. noted.place ≡ place n k) → asked.to_place.noted.place ≡ place n k
  note-place n k t = ap (λ (x : Noted). x.place) (sym (one-note core step a asked.index asked.to_place t.0 t.1 t.2)) ∙ t.3

  own-now : PassIsPlaced nodes Is (call_on_places (Last place_noted core step).call) Two
  own-now =
      subst (λ (c : Call). PassIsPlaced nodes Is (call_on_places c) Two) (sym (same-call core step a asked))
      (task-or core step a asked (λ t. PassIsPlaced nodes Is (call_on_places (record { task = t; loads = []; stores = [] })) Two)
      (begun-placed nodes Is Two Nothing (λ j removes. absurd removes) tt (λ n k climbs. absurd climbs))
      (begun-placed nodes Is Two (Placing i) (λ j removes. absurd removes)
      (subst (λ (o : Option Record). IsSomeAnd o (λ r. r.phase ≢ Held)) (sym (record-same core step a asked i)) (subst (λ (j : ℕ). HasBody (scene_of core) j (λ r. r.phase ≢ Held)) asked.to_place.of_body (unheld core step a asked.index asked.to_place)))
      (λ n k climbs.
      let noted = subst (λ (o : Option Rebuild). IsSomeAnd o (λ r. IsNoted r i (λ noted. noted.place ≡ place n k))) two climbs.1 in
      subst Stands (sym (planned-home core step a asked.index asked.to_place (places_it asked.task) n k climbs.0 (note-place n k noted))) tt)))

  passes : EachPlaced nodes Is
  passes =
      each-step location_scope (λ k v. refl) place_noted core step a.at a.pass (λ number v. PassIsPlaced nodes Was v.call v.rebuild) (λ number v. PassIsPlaced nodes Is v.call v.rebuild) (pass-placed nodes Was a.laws.locations)
      (λ seat number view apart found is old.
      pass-again nodes Mid Is.passes (call_on_places view.call) (option_map update_on_places view.rebuild)
      (pass-forth (quiet core step a asked) core step a nodes none (m core step a asked) (option_map update_on_places view.rebuild) (call_on_places view.call)
      (λ j handled.
      let does = handled-seen view.call j handled in
      stays-in_place (quiet core step a asked) core step j
      (stays core step a asked j (λ same. others-else (quiet core step a asked) core step i (going_on core step a asked) a (o core step a asked) seat number view apart found is (subst (IsHandled view.call.task) same does)))) old))
      (λ old. own-now)

  -- ---- entries and plans

  -- a second location was that of another body
  second-on : (j n k : ℕ) → word_of core (LocB j) ≡ place n k → word_of (After place_noted core step) (LocB j) ≡ place n k
  second-on j n k e =
      let apart : j ≢ i = λ same. let none_was = second-none core step a asked in let here = ap (λ (x : ℕ). word_of core (LocB x)) same in absurd (omega arith) in
      unnamed (LocB j) (λ same. apart (sym (index-of same))) ∙ e
    where
      index_in : Name → ℕ
      index_in (LocB x) = x
      index_in _ = 0

      index-of : LocB i ≡ LocB j → i ≡ j
      index-of same = ap index_in same

  pub location-on : (j n k : ℕ) → IsLocation Was j n k → IsLocation Is j n k
  location-on j n k location = (
    location.0,
    elim (location.1) [
      | inl e ↦ inl (unnamed (LocA j) (λ same. absurd cc) ∙ e)
      | inr e ↦ inr (second-on j n k e)
    ],
  )

  abbrev NotedAt : ℕ → ℕ → ℕ → ℕ → Rebuild → Type 0
  NotedAt j n k l r = IsNoted r j (λ noted. (noted.place ≡ place n k) × (noted.layer ≡ l))

  entries-now : (j n k number l : ℕ) → HasPass Was number (λ v. HasUpdate v (NotedAt j n k l)) → HasPass Is number (λ v. HasUpdate v (NotedAt j n k l))
  entries-now j n k number l h =
      has-step location_scope (λ k v. refl) place_noted core step a.at a.pass number (λ v. HasUpdate v (NotedAt j n k l)) (λ v. HasUpdate v (NotedAt j n k l)) h (λ seat view apart found is has. has)
      (λ same has. subst (λ (x : Option Rebuild). IsSomeAnd x (NotedAt j n k l)) (sym two) (subst (λ (x : Option Rebuild). IsSomeAnd (option_map update_on_places x) (NotedAt j n k l)) asked.to_place.update has))

  abbrev Before : View
  Before = seen_of location_scope step.number step.view

  abbrev Behind : View
  Behind = seen_of location_scope step.number (Last place_noted core step)

  places-now : (j : ℕ) → IsPlacing Behind.call.task j → i ≡ j
  places-now j places =
      task-or core step a asked (λ t. IsPlacing (call_on_places (record { task = t; loads = []; stores = [] })).task j → i ≡ j) (λ no. absurd no) (λ is. is)
      (subst (λ (c : Call). IsPlacing (call_on_places c).task j) (same-call core step a asked) places)

  places-before : (j : ℕ) → IsPlacing Before.call.task j → i ≡ j
  places-before j places =
      let task = seen-task (λ t. IsPlacing t j) (λ t calm h. idle-unhandled t j calm (places-handles t j h)) step.view.call places in
      subst (λ (t : Task). IsPlacing t j → i ≡ j) (sym asked.task) (λ is. is) task

  done-forth : (j : ℕ) → IsDone Before (update_on_places asked.to_place.r) j → IsDone Behind (update_on_places (u core step a asked)) j
  done-forth j (inl t) =
      inl (Contains-append_left asked.to_place.r.placed (asked.index ∷ []) j t.0, λ places. asked.to_place.unplaced (subst (λ (x : ℕ). Contains asked.to_place.r.placed x) (sym (places-now j places)) t.0))
  done-forth j (inr given) = inr given

  done-back : (j : ℕ) → j ≢ i → IsDone Behind (update_on_places (u core step a asked)) j → IsDone Before (update_on_places asked.to_place.r) j
  done-back j apart (inl t) =
      elim (Contains-append_cases asked.to_place.r.placed (asked.index ∷ []) j t.0) [
        | inl old ↦ inl (old, λ places. apart (sym (places-before j places)))
        | inr new ↦ absurd (apart (sym (only i j new)))
      ]
  done-back j apart (inr given) = inr given

  planned-own : (noted : Noted) → Contains asked.to_place.r.noted noted → IsPlannedAt nodes Is step.number Behind (update_on_places (u core step a asked)) noted
  planned-own noted among =
      let old = planned-at core step a asked.index asked.to_place noted among in
      let child = unnamed (Child old.node old.child) (λ e. absurd cc) in
      record {
        node = old.node;
        child = old.child;
        below = old.below;
        at = old.at;
        made_for = old.made_for;
        entry = elim (old.entry) [ inl e ↦ inl (child ∙ e) | inr e ↦ inr (child ∙ e) ];
        undone = λ undone. child ∙ old.undone (λ done. undone (done-forth noted.index done));
        of_done = λ done e.
            elim (cases_eq noted.index i) [
              | inl same ↦ ap (λ (j : ℕ). word_of (After place_noted core step) (LocB j)) same ∙ (second-now core step a asked ∙ ap (λ (x : Noted). x.place) (sym (one-note core step a asked.index asked.to_place noted among same)))
              | inr apart ↦
                  let was = old.of_done (done-back noted.index apart done) (sym child ∙ e) in
                  second-on noted.index old.node old.child (was ∙ old.at) ∙ sym old.at
            ];
      }

  abbrev Planned : Sight → ℕ → View → Rebuild → Type 0
  Planned s number view r = (noted : Noted) → Contains r.noted noted → r.is_planned ≡ true → length r.swapped ≤ noted.layer → IsPlannedAt nodes s number view r noted

  abbrev Published : Rebuild → Type 0
  Published r = (noted : Noted) → Contains r.noted noted → IsPublishedAt nodes r noted

  -- batches hold other bodies
  held-now : (batch : Batch) (marked : Marked) → Contains (all_batches Is) batch → Contains batch.marked marked → IsPlannedIn Is batch marked × (word_of (After place_noted core step) (LocB marked.index) ≡ 0)
  held-now batch marked among inside =
      let same = ap (λ (v : View). v.batches) (last core step a asked) in
      let was = subst (λ (l : List Batch). Contains l batch) (flat-step location_scope (λ k v. refl) place_noted core step a.at a.pass (λ v. v.batches) same) among in
      let from_list = flat_from (λ (v : View). v.batches) Was.passes batch was in
      let from = seen_at location_scope core from_list.0 from_list.1 in
      let held = marked-held core a.laws.bodies from.seat from.number from.view from.at from.pass batch marked (subst (λ (v : View). Contains v.batches batch) (sym from.is) from_list.2) inside in
      let here = some_and_map (record_at (scene_of core) marked.index) _ _ (λ r both. both.0) held in
      let apart : marked.index ≢ i = λ one.
      held-once (record_at (scene_of core) i) (subst (λ (j : ℕ). HasBody (scene_of core) j (λ r. r.phase ≢ Held)) asked.to_place.of_body (unheld core step a asked.index asked.to_place))
      (subst (λ (j : ℕ). HasBody (scene_of core) j (λ r. r.phase ≡ Held)) one here)
      in
      let s = stays core step a asked marked.index apart in
      let old = a.laws.locations.held batch marked was inside in
      (elim (old.0) [ inl t ↦ inl (t.0, s.loc_a ∙ t.1) | inr t ↦ inr (t.0, s.loc_a ∙ t.1, t.2) ], s.loc_b ∙ old.1)

  -- ---- the law

  pub LocationsHold-placed : LocationsHold nodes (after_step place_noted core step)
  LocationsHold-placed =
      let h = a.laws.locations in
      record {
        at = λ j. (all-now j).at;
        entries = λ j n k is below entry. location-on j n k (h.entries j n k is below (sym (unnamed (Child n k) (λ e. absurd cc)) ∙ entry));
        made_entries = λ j n k number l home below entry. entries-now j n k number l (h.made_entries j n k number l home below (sym (unnamed (Child n k) (λ e. absurd cc)) ∙ entry));
        planned =
            each-step location_scope (λ k v. refl) place_noted core step a.at a.pass (λ number v. IfSome v.rebuild (λ r. Planned Was number v r)) (λ number v. IfSome v.rebuild (λ r. Planned Is number v r)) h.planned
            (λ seat number view apart found is old.
            let v = seen_of location_scope number view in
            if_some_map (option_map update_on_places view.rebuild) (λ r. Planned Was number v r) (λ r. Planned Is number v r)
            (λ r planned noted among is_planned from.
            planned-again nodes Mid Is.passes number v v r r noted (λ done. done) (λ done. done)
            (planned-forth (quiet core step a asked) core step a nodes none (m core step a asked) number v v r noted (λ t. t, λ t. t) (λ n k stands below entry e. second-on noted.index n k e)
            (λ n k c one at home. let none = c.none in let was = c.was in let same = unnamed (Child n k) (λ e. absurd cc) in absurd (omega arith)) (planned noted among is_planned from))) old)
            (λ old. subst (λ (x : Option Rebuild). IfSome x (λ r. Planned Is step.number Behind r)) (sym two) (λ noted among is_planned from. planned-own noted among));
        published =
            each-step location_scope (λ k v. refl) place_noted core step a.at a.pass (λ number v. IfSome v.rebuild Published) (λ number v. IfSome v.rebuild Published) h.published (λ seat number view apart found is old. old)
            (λ old. subst (λ (x : Option Rebuild). IfSome x Published) (sym two) (subst (λ (x : Option Rebuild). IfSome (option_map update_on_places x) Published) asked.to_place.update old));
        first = λ j. (all-now j).first;
        located = λ j. (all-now j).located;
        second = λ j. (all-now j).second;
        dead = λ j. (all-now j).dead;
        out = λ j. (all-now j).out;
        removed = λ number v among pass j removes. taken-out nodes Is (acting v.call v.rebuild) v j refl ((passes number v among pass).removed j removes);
        held = held-now;
        unheld = λ number v among pass. (passes number v among pass).unheld;
        widened = λ number v among pass. (passes number v among pass).widened;
        still_wide = λ number v among pass. (passes number v among pass).still_wide;
        climbs_from = λ number v among pass. (passes number v among pass).climbs_from;
        on_its_way = λ number v among pass. (passes number v among pass).on_its_way;
        widened_on_way = λ number v among pass. (passes number v among pass).widened_on_way;
      }
