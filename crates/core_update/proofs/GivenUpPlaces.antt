-- The law of locations holds after an update has given a body up: its entry, at the place that was planned for it in a new tree,
-- is cleared, and is a location of no body.
use Rattle.std.proofs.Common.{◌≡◌, ◌≢◌, ℕ, ◌≤◌, List, [], ◌∷◌, ◌++◌, true, length, Contains, Option, Some, refl, ap, sym, ◌∙◌, subst, inl, inr, arith}
use Rattle.std.specs.Prelude.{IfSome, IsSomeAnd, option_map}
use Rattle.std.proofs.lemmas.Bool.{cases_eq}
use Rattle.std.proofs.lemmas.List.Elements.{Contains-append_left, Contains-append_right, Contains-append_cases}
use Rattle.scene_model.specs.declared.body_view.Phase.TheVariants.{In}
use Rattle.scene_model.specs.Scene.{Record, record_at}
use Rattle.word_map.specs.declared.name.Name.{Name}
use Rattle.word_map.specs.declared.name.Name.TheVariants.{Child, LocB}
use Rattle.core_state.specs.declared.view.Batch.{Batch}
use Rattle.core_state.specs.declared.view.Call.{Call}
use Rattle.core_state.specs.declared.view.Noted.{Noted}
use Rattle.core_state.specs.declared.view.Rebuild.{Rebuild}
use Rattle.core_state.specs.declared.view.Task.{Task}
use Rattle.core_state.specs.declared.view.Task.TheVariants.{Nothing, Moving, Placing}
use Rattle.core_state.specs.declared.view.View.{View}
use Rattle.core_state.specs.View.{no_call}
use Rattle.core_state.specs.Core.{Core, word_of, scene_of}
use Rattle.core_state.specs.Encoding.{body_child, place, Sides}
use Rattle.core_state.specs.Kind.{Step, after_step}
use Rattle.core_state.specs.Nodes.{Nodes, made, IsLive, Stands}
use Rattle.core_state.specs.Parts.{call_by_task, call_on_places, update_on_places}
use Rattle.core_state.specs.Placing.{MayGiveUp, give_up}
use Rattle.core_state.specs.Scope.{Sight, sight, HasPass}
use Rattle.core_state.specs.Updates.{HasUpdate, IsNoted, IsPlacing, IsDone, IsStillMerged}
use Rattle.core_state.specs.LocationsHold.{LocationsHold, LocationsHoldIn, location_scope, IsLocation, IsAt, Encloses, IsWhere, in_slot, in_main, in_old, in_merged, IsSecondFor, IsPlannedAt, IsPublishedAt, IsTakenOut, IsUnheld, IsRemoved, IsPlacedNow, Removes, ClimbsFrom}
use Rattle.core_state.proofs.Opening.{only}
use Rattle.core_state.proofs.Steps.{word-step}
use Rattle.core_guard.proofs.Cleared.{IsGone, ClearsEntries, above-same, none-kept, some-back, cleared_in, child-sight, child-clears, child-where}
use Rattle.core_guard.proofs.Leaving.{Acts, After, Last, if_some_map, other-number}
use Rattle.core_guard.proofs.PlacesStay.{where-live, PassIsPlaced, EachPlaced, acting, pass-placed, taken-out, begun-placed}
use Rattle.core_guard.proofs.Seats.{each-step, has-step, seen_of, flat-step}
use Rattle.core_update.proofs.OwnNotes.{Covering, Locating, own-notes, own-planned, unexchanged, note-once}
use Rattle.core_update.proofs.PlacingWidens.{made-once}
use Rattle.core_update.proofs.OldTrees.{second-none, undone-yet}

module _ (core : Core) (step : Step) (a : Acts core step) (index : ℕ) (asked : MayGiveUp index step.view step.name step.first step.second) where
  abbrev nodes : Nodes
  nodes = a.laws.nodes

  abbrev i : ℕ
  i = asked.noted.index

  abbrev Was : Sight
  Was = sight location_scope core

  -- ---- the entry

  pub planned-here : IsPlannedAt nodes Was step.number (Locating core step a asked.r asked.update) (update_on_places asked.r) asked.noted
  planned-here =
      own-planned core step a asked.r asked.update asked.noted asked.among asked.planned
      (unexchanged core step a asked.r asked.update asked.noted asked.among (undone-yet core step a index asked (Covering core step a asked.r asked.update)) asked.noted.layer)

  same-node : planned-here.node ≡ asked.node
  same-node = let e = planned-here.at in let f = asked.at in let x = planned-here.below in let y = asked.below in omega arith

  same-child : planned-here.child ≡ asked.child
  same-child = let e = planned-here.at in let f = asked.at in let x = planned-here.below in let y = asked.below in omega arith

  pub home : nodes.home asked.node ≡ made step.number asked.noted.layer
  home = subst (λ (n : ℕ). nodes.home n ≡ made step.number asked.noted.layer) same-node planned-here.made_for

  entry : word_of core (Child asked.node asked.child) ≡ body_child i
  entry = (λ j. word_of core (Child (sym same-node j) (sym same-child j))) ∙ planned-here.undone undone-here
    where
      undone-here : ¬ IsDone (Locating core step a asked.r asked.update) (update_on_places asked.r) i
      undone-here done = undone-yet core step a index asked (Locating core step a asked.r asked.update) done

  pub cleared : word_of (After (give_up index) core step) (Child asked.node asked.child) ≡ 0
  cleared = ap (λ (n : Name). word_of (After (give_up index) core step) n) (sym asked.names) ∙ (word-step (give_up index) core step ∙ asked.none)

  abbrev pub c : ℕ → ℕ → ℕ
  c n k = word_of (After (give_up index) core step) (Child n k)

  pub clears : ClearsEntries nodes (word_of core) c i
  clears = child-clears (give_up index) core step asked.node asked.child asked.names (λ value. refl) nodes i cleared (inr (entry, subst Stands (sym home) tt))

  -- it is the one that is gone
  gone-here : (n k : ℕ) → IsGone nodes (λ n k. word_of core (Child n k)) c i n k → (n ≡ asked.node) × (k ≡ asked.child)
  gone-here n k gone =
      elim (child-where (give_up index) core step asked.node asked.child asked.names (λ value. refl) n k) [
        | inl here ↦ here
        | inr same ↦ let none = gone.none in let was = gone.was in absurd (omega arith)
      ]

  -- in a tree that others may reach none is
  pub live-same : (n k : ℕ) → IsLive (nodes.home n) → c n k ≡ word_of core (Child n k)
  live-same n k live = elim (clears n k) [ inl same ↦ same | inr gone ↦ absurd (subst IsLive (ap nodes.home (gone-here n k gone).0 ∙ home) live) ]

  abbrev Later : Sight
  Later = record (cleared_in Was c) { passes = (sight location_scope (After (give_up index) core step)).passes }

  -- ---- bodies

  encloses-forth : (n k : ℕ) (box : Sides) → Encloses Was n k box → Encloses Later n k box
  encloses-forth n k box h x y up = h x y (above-same Later.word Was.word (λ m. refl) n k x y up)

  -- no body in the broad phase is at it
  at-none : (j n k : ℕ) (r : Record) → record_at (scene_of core) j ≡ Some r → r.phase ≡ In → IsLocation Was j n k → Was.word (Child n k) ≡ body_child j → ¬ IsGone nodes (λ n k. word_of core (Child n k)) c i n k
  at-none j n k r e inside location stands gone =
      let one : j ≡ i = let was = gone.was in omega arith in
      elim (location.1) [
        | inl first ↦
            let live = where-live nodes Was j r.layer n (a.laws.locations.first j r n k e inside location.0 first) in
            subst IsLive (ap nodes.home (gone-here n k gone).0 ∙ home) live
        | inr second ↦ let none = second-none core step a index asked in let here = ap (λ (x : ℕ). word_of core (LocB x)) one in absurd (omega arith)
      ]

  at-forth : (j n k : ℕ) (r : Record) → record_at (scene_of core) j ≡ Some r → r.phase ≡ In → IsLocation Was j n k → IsAt nodes Was j r n k → IsAt nodes Later j r n k
  at-forth j n k r e inside location h = record {
    stands = h.stands;
    entry = elim (clears n k) [ inl same ↦ same ∙ h.entry | inr gone ↦ absurd (at-none j n k r e inside location h.entry gone) ];
    bounds = encloses-forth n k _ h.bounds;
    box_words = encloses-forth n k _ h.box_words;
  }

  entry-back : (n k j : ℕ) → c n k ≡ body_child j → Was.word (Child n k) ≡ body_child j
  entry-back n k j e = some-back nodes Was c i clears n k (body_child j) (omega arith) e

  -- ---- updates and passes

  abbrev v : View
  v = seen_of location_scope step.number step.view

  abbrev w : View
  w = seen_of location_scope step.number (Last (give_up index) core step)

  abbrev u : Rebuild
  u = record asked.r { given_up = asked.r.given_up ++ index ∷ [] }

  two : option_map update_on_places (option_map (λ (r : Rebuild). record r { given_up = r.given_up ++ index ∷ [] }) step.view.rebuild) ≡ Some (update_on_places u)
  two = ap (λ (o : Option Rebuild). option_map update_on_places (option_map (λ (r : Rebuild). record r { given_up = r.given_up ++ index ∷ [] }) o)) asked.update

  -- what reads nothing of who was given up
  has-forth : (number : ℕ) (P : Rebuild → Type 0) → (P (update_on_places asked.r) → P (update_on_places u)) → HasPass Was number (λ x. HasUpdate x P) → HasPass Later number (λ x. HasUpdate x P)
  has-forth number P more h =
      has-step location_scope (λ k x. refl) (give_up index) core step a.at a.pass number (λ x. HasUpdate x P) (λ x. HasUpdate x P) h (λ seat view apart found own has. has)
      (λ same has. subst (λ (o : Option Rebuild). IsSomeAnd o P) (sym two) (more (subst (λ (o : Option Rebuild). IsSomeAnd (option_map update_on_places o) P) asked.update has)))

  removed-forth : (j : ℕ) → IsRemoved Was j → IsRemoved Later j
  removed-forth j h = (
    h.0,
    has-step location_scope (λ k x. refl) (give_up index) core step a.at a.pass h.0 (λ x. Removes x.call.task j) (λ x. Removes x.call.task j) h.1 (λ seat view apart found own removes. removes) (λ same removes. removes),
  )

  placed_now-forth : (j : ℕ) → IsPlacedNow Was j → IsPlacedNow Later j
  placed_now-forth j h = (
    h.0,
    has-step location_scope (λ k x. refl) (give_up index) core step a.at a.pass h.0 (λ x. IsPlacing x.call.task j) (λ x. IsPlacing x.call.task j) h.1 (λ seat view apart found own places. places) (λ same places. places),
  )

  where-forth : (j layer n : ℕ) → IsWhere nodes Was j layer n → IsWhere nodes Later j layer n
  where-forth j layer n (in_slot t e at second) = in_slot t e at (elim second [ inl none ↦ inl none | inr placed ↦ inr (placed_now-forth j placed) ])
  where-forth j layer n (in_main e at second) =
      in_main e at
      (elim second [
        | inl none ↦ inl none
        | inr t ↦ inr (elim t [ inl same ↦ inl same | inr old ↦ inr (old.0, has-forth old.0 (λ r. length r.swapped ≤ layer) (λ few. few) old.1) ])
      ])
  where-forth j layer n (in_old number name e some at of_layer) = in_old number name e some at of_layer
  where-forth j layer n (in_merged number t root e some at has) = in_merged number t root e some at (has-forth number (λ r. IsStillMerged r layer t root) (λ merged. merged) has)

  taken-forth : (x : View) (j : ℕ) → IsTakenOut nodes Was x j → IsTakenOut nodes Later x j
  taken-forth x j h = record {
    out = h.out;
    cleared = λ n k location.
        let was = h.cleared n k location in
        (was.0, elim (was.1) [ inl e ↦ inl (none-kept nodes Was c i clears n k e) | inr e ↦ elim (clears n k) [ inl same ↦ inr (same ∙ e.0, e.1, e.2) | inr gone ↦ inl gone.none ] ]);
    live = h.live;
  }

  unheld-forth : (task : Task) → IsUnheld Was task → IsUnheld Later task
  unheld-forth (Moving x target) h = h
  unheld-forth (Placing x) h = h
  unheld-forth _ h = tt

  climbs-back : (x : View) (task : Task) (n k : ℕ) → ClimbsFrom Later x task n k → ClimbsFrom Was x task n k
  climbs-back x (Moving y target) n k h = h
  climbs-back x (Placing y) n k h = h
  climbs-back x _ n k h = absurd h

  climbs-forth : (x : View) (task : Task) (n k : ℕ) → ClimbsFrom Was x task n k → ClimbsFrom Later x task n k
  climbs-forth x (Moving y target) n k h = h
  climbs-forth x (Placing y) n k h = h
  climbs-forth x _ n k h = absurd h

  pass-forth : (call : Call) (rebuild : Option Rebuild) → PassIsPlaced nodes Was call rebuild → PassIsPlaced nodes Later call rebuild
  pass-forth call rebuild p = record {
    removed = λ j removes. taken-forth (acting call rebuild) j (p.removed j removes);
    unheld = unheld-forth call.task p.unheld;
    widened = λ j n k box gives stored location. let t = p.widened j n k box gives stored location in (t.0, encloses-forth n k box t.1);
    still_wide = p.still_wide;
    climbs_from = λ n k climbs. p.climbs_from n k (climbs-back (acting call rebuild) call.task n k climbs);
    on_its_way = λ m value read.
        let t = p.on_its_way m value read in
        (t.0, (t.1.0, t.1.1, t.1.2, climbs-forth (acting call rebuild) call.task t.1.0 t.1.1 t.1.3, above-same Was.word Later.word (λ n. refl) t.1.0 t.1.1 m t.1.2 t.1.4));
    widened_on_way = λ x y q value stored.
        let t = p.widened_on_way x y q value stored in
        (t.0, t.1, climbs-forth (acting call rebuild) call.task t.0 t.1 t.2, above-same Was.word Later.word (λ n. refl) t.0 t.1 x y t.3);
  }

  calm : call_on_places step.view.call ≡ no_call
  calm = ap (λ (t : Task). call_by_task t step.view.call) asked.idle

  passes : EachPlaced nodes Later
  passes =
      each-step location_scope (λ k x. refl) (give_up index) core step a.at a.pass (λ number x. PassIsPlaced nodes Was x.call x.rebuild) (λ number x. PassIsPlaced nodes Later x.call x.rebuild) (pass-placed nodes Was a.laws.locations)
      (λ seat number view apart found own p. pass-forth (call_on_places view.call) (option_map update_on_places view.rebuild) p)
      (λ p.
      subst (λ (d : Call). PassIsPlaced nodes Later d (option_map update_on_places (option_map (λ (r : Rebuild). record r { given_up = r.given_up ++ index ∷ [] }) step.view.rebuild))) (sym calm)
      (begun-placed nodes Later (option_map update_on_places (option_map (λ (r : Rebuild). record r { given_up = r.given_up ++ index ∷ [] }) step.view.rebuild)) Nothing (λ j removes. absurd removes) tt (λ n k climbs. absurd climbs)))

  -- ---- what the update plans

  done-forth : (j : ℕ) → IsDone v (update_on_places asked.r) j → IsDone w (update_on_places u) j
  done-forth j (inl t) = inl t
  done-forth j (inr given) = inr (Contains-append_left asked.r.given_up (index ∷ []) j given)

  done-back : (j : ℕ) → j ≢ index → IsDone w (update_on_places u) j → IsDone v (update_on_places asked.r) j
  done-back j apart (inl t) = inl t
  done-back j apart (inr given) = elim (Contains-append_cases asked.r.given_up (index ∷ []) j given) [ inl old ↦ inr old | inr new ↦ absurd (apart (sym (only index j new))) ]

  planned-own : (noted : Noted) → Contains asked.r.noted noted → IsPlannedAt nodes Was step.number v (update_on_places asked.r) noted → IsPlannedAt nodes Later step.number w (update_on_places u) noted
  planned-own noted among h = record {
    node = h.node;
    child = h.child;
    below = h.below;
    at = h.at;
    made_for = h.made_for;
    entry = elim (h.entry) [ inl e ↦ elim (clears h.node h.child) [ inl same ↦ inl (same ∙ e) | inr gone ↦ inr gone.none ] | inr e ↦ inr (none-kept nodes Was c i clears h.node h.child e) ];
    undone = λ undone.
        let e = h.undone (λ done. undone (done-forth noted.index done)) in
        elim (clears h.node h.child) [
          | inl same ↦ same ∙ e
          | inr gone ↦
              let one : noted.index ≡ index = (let was = gone.was in let body : noted.index ≡ i = omega arith in body ∙ asked.of_body) in
              absurd (undone (inr (Contains-append_right asked.r.given_up (index ∷ []) noted.index (0, omega arith, sym one))))
        ];
    of_done = λ done e.
        elim (cases_eq noted.index index) [
          | inl one ↦
              let same : noted ≡ asked.noted = note-once asked.r.noted noted asked.noted (own-notes core step a asked.r asked.update).once among asked.among (one ∙ sym asked.of_body) in
              let at : place h.node h.child ≡ place asked.node asked.child = sym h.at ∙ (ap (λ (x : Noted). x.place) same ∙ asked.at) in
              let n : h.node ≡ asked.node = let x = h.below in let y = asked.below in omega arith in
              let k : h.child ≡ asked.child = let x = h.below in let y = asked.below in omega arith in
              let none : c h.node h.child ≡ 0 = (λ j. c (n j) (k j)) ∙ cleared in
              absurd (omega arith)
          | inr apart ↦ h.of_done (done-back noted.index apart done) (entry-back h.node h.child noted.index e)
        ];
  }

  planned-other : (number : ℕ) (x : View) (r : Rebuild) (noted : Noted) → number ≢ step.number → IsPlannedAt nodes Was number x r noted → IsPlannedAt nodes Later number x r noted
  planned-other number x r noted apart h =
      let same : c h.node h.child ≡ word_of core (Child h.node h.child) =
      elim (clears h.node h.child) [
        | inl same ↦ same
        | inr gone ↦ absurd (apart (made-once number step.number noted.layer asked.noted.layer (sym h.made_for ∙ (ap nodes.home (gone-here h.node h.child gone).0 ∙ home))))
      ]
      in
      record {
        node = h.node;
        child = h.child;
        below = h.below;
        at = h.at;
        made_for = h.made_for;
        entry = elim (h.entry) [ inl e ↦ inl (same ∙ e) | inr e ↦ inr (same ∙ e) ];
        undone = λ undone. same ∙ h.undone undone;
        of_done = λ done e. h.of_done done (sym same ∙ e);
      }

  abbrev Planned : Sight → ℕ → View → Rebuild → Type 0
  Planned s number x r = (noted : Noted) → Contains r.noted noted → r.is_planned ≡ true → length r.swapped ≤ noted.layer → IsPlannedAt nodes s number x r noted

  abbrev Published : Rebuild → Type 0
  Published r = (noted : Noted) → Contains r.noted noted → IsPublishedAt nodes r noted

  -- ---- the law

  LocationsHold-later : LocationsHoldIn nodes Later
  LocationsHold-later =
      let h = a.laws.locations in
      record {
        at = λ j r n k e inside location. at-forth j n k r e inside location (h.at j r n k e inside location);
        entries = λ j n k is below stands. h.entries j n k is below (entry-back n k j stands);
        made_entries = λ j n k number l at below stands.
            has-forth number (λ r. IsNoted r j (λ noted. (noted.place ≡ place n k) × (noted.layer ≡ l))) (λ t. t) (h.made_entries j n k number l at below (entry-back n k j stands));
        planned =
            each-step location_scope (λ k x. refl) (give_up index) core step a.at a.pass (λ number x. IfSome x.rebuild (λ r. Planned Was number x r)) (λ number x. IfSome x.rebuild (λ r. Planned Later number x r)) h.planned
            (λ seat number view apart found own old.
            let x = seen_of location_scope number view in
            if_some_map (option_map update_on_places view.rebuild) (λ r. Planned Was number x r) (λ r. Planned Later number x r)
            (λ r planned noted among is_planned from. planned-other number x r noted (other-number core step a seat number view apart found own) (planned noted among is_planned from)) old)
            (λ old.
            subst (λ (o : Option Rebuild). IfSome o (λ r. Planned Later step.number w r)) (sym two)
            (λ noted among is_planned from.
            planned-own noted among ((subst (λ (o : Option Rebuild). IfSome (option_map update_on_places o) (λ r. Planned Was step.number v r)) asked.update old) noted among is_planned from)));
        published =
            each-step location_scope (λ k x. refl) (give_up index) core step a.at a.pass (λ number x. IfSome x.rebuild Published) (λ number x. IfSome x.rebuild Published) h.published (λ seat number view apart found own old. old)
            (λ old. subst (λ (o : Option Rebuild). IfSome o Published) (sym two) (subst (λ (o : Option Rebuild). IfSome (option_map update_on_places o) Published) asked.update old));
        first = λ j r n k e inside below location. where-forth j r.layer n (h.first j r n k e inside below location);
        located = h.located;
        second = λ j some. let t = h.second j some in (t.0, has-forth t.0 (IsSecondFor Was j) (λ x. x) t.1);
        dead = h.dead;
        out = λ j out left. h.out j out (λ removed. left (removed-forth j removed));
        removed = λ number x among pass j removes. taken-out nodes Later (acting x.call x.rebuild) x j refl ((passes number x among pass).removed j removes);
        held = λ batch m among inside.
            h.held batch m (subst (λ (l : List Batch). Contains l batch) (flat-step location_scope (λ k x. refl) (give_up index) core step a.at a.pass (λ x. x.batches) refl) among) inside;
        unheld = λ number x among pass. (passes number x among pass).unheld;
        widened = λ number x among pass. (passes number x among pass).widened;
        still_wide = λ number x among pass. (passes number x among pass).still_wide;
        climbs_from = λ number x among pass. (passes number x among pass).climbs_from;
        on_its_way = λ number x among pass. (passes number x among pass).on_its_way;
        widened_on_way = λ number x among pass. (passes number x among pass).widened_on_way;
      }

  pub LocationsHold-given_up : LocationsHold nodes (after_step (give_up index) core step)
  LocationsHold-given_up = subst (LocationsHoldIn nodes) (sym (child-sight (give_up index) core step asked.node asked.child asked.names (λ value. refl) location_scope)) LocationsHold-later
