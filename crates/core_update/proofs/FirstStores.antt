-- Storing the second location of a body as its first one: no published tree loses an entry by it, since the tree in which the
-- first location was is superseded, or the two are the same.
use Rattle.std.proofs.Common.{◌≡◌, ◌≢◌, ℕ, ◌-◌, ◌/◌, ◌%◌, ◌<◌, ◌≤◌, length, Option, Some, IsSomeAnd, refl, ap, sym, ◌∙◌, subst, inl, inr, arith}
use Rattle.std.specs.Prelude.{IsNone}
use Rattle.std.proofs.lemmas.Option.{same_Some}
use Rattle.scene_model.specs.declared.body_view.Phase.TheVariants.{Out, In}
use Rattle.scene_model.specs.Scene.{Record, record_at}
use Rattle.scene_model.specs.Step.{HasBody}
use Rattle.word_map.specs.declared.name.Name.{Name}
use Rattle.word_map.specs.declared.name.Name.TheVariants.{Phase, BoxWord, LocA, LocB, Child, Main}
use Rattle.core_state.specs.declared.view.Call.{Call}
use Rattle.core_state.specs.declared.view.Rebuild.{Rebuild}
use Rattle.core_state.specs.declared.view.Task.{Task}
use Rattle.core_state.specs.declared.view.Task.TheVariants.{Nothing}
use Rattle.core_state.specs.View.{known_word}
use Rattle.core_state.specs.Core.{Core, word_of, scene_of}
use Rattle.core_state.specs.Kind.{Step, after_step}
use Rattle.core_state.specs.Encoding.{place, phase_in, Sides}
use Rattle.core_state.specs.Nodes.{Nodes, under, IsPublished, IsOfLayer}
use Rattle.core_state.specs.Parts.{update_on_places, update_on_cover, task_on_cover}
use Rattle.core_state.specs.Retiring.{MayPromote, promote}
use Rattle.core_state.specs.Scope.{Sight, sight}
use Rattle.core_state.specs.Updates.{IsPlacing, IsOldTree, IsStillMerged, IsDone}
use Rattle.core_state.specs.Bodies.{MovesBody}
use Rattle.core_state.specs.BodiesAgree.{body_scope}
use Rattle.core_state.specs.LocationsHold.{location_scope, IsLocation, Encloses, IsAt, IsWhere, in_slot, in_main, in_old, in_merged, IsPlacedNow}
use Rattle.core_state.specs.BodiesCovered.{cover_scope, IsInOldTree}
use Rattle.core_state.specs.Invariants.{Invariants}
use Rattle.core_state.proofs.Beginning.{record_body, body_record}
use Rattle.core_state.proofs.Steps.{word-step, word-step-other}
use Rattle.core_guard.proofs.BodyAnew.{No_new, turn-leaves, TurnsBody, Invariants-turned}
use Rattle.core_guard.proofs.CallsAgree.{BodiesAgree-beside}
use Rattle.core_guard.proofs.CoverLeft.{IsNotedRight, anew}
use Rattle.core_guard.proofs.Holders.{IsGuarded, guarded}
use Rattle.core_guard.proofs.InPlace.{alike-of}
use Rattle.core_guard.proofs.Leaving.{Acts, After, Last, Leaves, IsIdle, body_of, scene-plain, idle-places, idle-unhandled, out_in}
use Rattle.core_guard.proofs.LivesGuarded.{IsStripeWord, stripe-guarded}
use Rattle.core_guard.proofs.OnBody.{OnBody, IsOn, nobody-does}
use Rattle.core_guard.proofs.PlacesLeft.{SeenUpdate, IsAnew, body_anew}
use Rattle.core_guard.proofs.PlacesStay.{PassIsPlaced, BodyIsPlaced, begun-placed, encloses-forth, second-forth, places-handles, seen-task}
use Rattle.core_guard.proofs.Scenes.{none_here}
use Rattle.core_guard.proofs.Touched.{IsKept, kept}
use Rattle.core_guard.proofs.Seats.{has-seat, seen_of}
use Rattle.core_update.proofs.OwnUpdate.{has-own, own-each}
use Rattle.core_update.proofs.Promoting.{IsPromoted, promoted, known, unheld, alone, inside}
use Rattle.core_update.proofs.Promotions.{one-place, main_old}

-- a location is a place
place-of : (word : ℕ) → word ≢ 0 → (n : ℕ) × (k : ℕ) × (k < 4) × (word ≡ place n k)
place-of word some = ((word - 1) / 4, (word - 1) % 4, omega arith, omega arith)

module _ (core : Core) (step : Step) (a : Acts core step) (asked : MayPromote step.view step.name step.first step.second) where
  abbrev i : ℕ
  i = asked.index

  abbrev nodes : Nodes
  nodes = a.laws.nodes

  abbrev r : Rebuild
  r = asked.to_promote.r

  abbrev Was : Sight
  Was = sight location_scope core

  abbrev Is : Sight
  Is = sight location_scope (After promote core step)

  second-known : word_of core (LocB i) ≡ known_word step.view (LocB i)
  second-known = (known promote core step a i asked.to_promote asked.settled).loc_b

  some : word_of core (LocB i) ≢ 0
  some none = asked.has_second (sym second-known ∙ none)

  one : IsPromoted promote core step a i asked.to_promote
  one = promoted promote core step a i asked.to_promote some

  body : (b : Record) × (record_at (scene_of core) i ≡ Some b) × (b.layer ≡ one.noted.layer) × (b.phase ≡ In)
  unfolding one some
  body = inside promote core step a i asked.to_promote asked.settled some

  on : OnBody promote core step i step.view.call
  on = record { stripe = asked.settled.stripe; before = subst (IsOn i) (sym asked.to_promote.idle) tt; after = subst (IsOn i) (sym asked.to_promote.idle) tt; recalls = refl }

  of_body : body_of step.name ≡ Some i
  of_body = ap body_of asked.names

  leaves : Leaves promote core step nodes nodes (No_new promote core step)
  leaves = turn-leaves promote core step nodes i of_body refl

  unplaces : ¬ IsPlacing step.view.call.task i
  unplaces h = subst (λ (t : Task). IsPlacing t i) asked.to_promote.idle h

  unplaced : ¬ IsPlacedNow Was i
  unplaced h =
      let from = has-seat location_scope (λ k v. refl) core h.0 (λ v. IsPlacing v.call.task i) h.1 in
      nobody-does promote core step i step.view.call a on (λ t. IsPlacing t i) (λ t. places-handles t i) unplaces from.seat h.0 from.view from.at from.pass
      (seen-task (λ t. IsPlacing t i) (λ t calm places. idle-unhandled t i calm (places-handles t i places)) from.view.call from.holds)

  -- its phase says that it is in the main tree: it has a first location, and a second one that nobody is about to give it
  phase : word_of core (Phase i) ≡ phase_in
  phase =
      let t = place-of (word_of core (LocA i)) (a.laws.locations.located i body.0 body.1 body.3) in
      go t.0 (a.laws.locations.first i body.0 t.0 t.1 body.1 body.3 t.2 t.3)
    where
      go : (n : ℕ) → IsWhere nodes Was i body.0.layer n → word_of core (Phase i) ≡ phase_in
      go n (in_slot t e home second) = elim second [ inl none ↦ absurd (some none) | inr now ↦ absurd (unplaced now) ]
      go n (in_main e home second) = e
      go n (in_old number name e other home of_layer) = e
      go n (in_merged number t root e other home has) = e

  -- ---- words

  word-same : (name : Name) → ((j : ℕ) → LocA j ≢ name) → word_of (After promote core step) name ≡ word_of core name
  word-same name apart = word-step-other promote core step name (λ e. apart i (sym (e ∙ asked.names)))

  second-same : word_of (After promote core step) (LocB i) ≡ word_of core (LocB i)
  second-same = word-same (LocB i) (λ j e. absurd cc)

  first-now : word_of (After promote core step) (LocA i) ≡ word_of core (LocB i)
  first-now = ap (word_of (After promote core step)) (sym asked.names) ∙ (word-step promote core step ∙ (asked.as_second ∙ sym second-known))

  record-same : (j : ℕ) → record_at (scene_of (After promote core step)) j ≡ record_at (scene_of core) j
  record-same j = scene-plain promote core step (λ value. refl) j

  -- ---- where it is then

  location-back : (n k : ℕ) → IsLocation Is i n k → IsLocation Was i n k
  location-back n k h = (h.0, inr (elim (h.1) [ inl e ↦ sym first-now ∙ e | inr e ↦ sym second-same ∙ e ]))

  -- its first location is in the main tree
  in-tree : (n k : ℕ) → k < 4 → word_of (After promote core step) (LocA i) ≡ place n k → nodes.home n ≡ under (Main one.noted.layer)
  in-tree n k below e = ap nodes.home (one-place n k one.node one.child below one.below (sym e ∙ (first-now ∙ one.at))) ∙ one.home

  live : (q : Record) → record_at (scene_of (After promote core step)) i ≡ Some q → record_at (scene_of core) i ≡ Some q
  live q e = sym (record-same i) ∙ e

  at-now : (q : Record) (n k : ℕ) → record_at (scene_of (After promote core step)) i ≡ Some q → q.phase ≡ In → IsLocation Is i n k → IsAt nodes Is i q n k
  at-now q n k e is_in location =
      let was = a.laws.locations.at i q n k (live q e) is_in (location-back n k location) in
      record {
        stands = was.stands;
        entry = word-same (Child n k) (λ j c. absurd cc) ∙ was.entry;
        bounds = encloses-forth promote core step a nodes (No_new promote core step) leaves n k _ was.stands was.bounds;
        box_words = subst (λ (box : Sides). Encloses Is n k box) (λ j p. sym (word-same (BoxWord i p) (λ x c. absurd cc)) j)
            (encloses-forth promote core step a nodes (No_new promote core step) leaves n k _ was.stands was.box_words);
      }

  -- its phase says that it is in the main tree, and so it is
  placed : BodyIsPlaced nodes Is i
  placed = record {
    at = at-now;
    first = λ q n k e is_in below location.
        let same : q ≡ body.0 = same_Some q body.0 (sym (live q e) ∙ body.1) in
        in_main (word-same (Phase i) (λ j c. absurd cc) ∙ phase) (in-tree n k below location ∙ ap (λ (l : ℕ). under (Main l)) (sym (ap (λ (x : Record). x.layer) same ∙ body.2))) (inr (inl (second-same ∙ sym first-now)));
    located = λ q e is_in none. some (sym first-now ∙ none);
    second = λ other.
        second-forth promote core step a nodes (No_new promote core step) leaves i second-same
        (alike-of (record_at (scene_of core) i) (record_at (scene_of (After promote core step)) i) body.0 body.0 body.1 (record-same i ∙ body.1) refl refl)
        (a.laws.locations.second i some);
    dead = λ none. absurd (none_here (record_at (scene_of core) i) (λ q. q.phase ≡ In) (subst IsNone (record-same i) none) (record_body (record_at (scene_of core) i) (λ q. q.phase ≡ In) body.0 body.1 body.3));
    out = λ out kept. absurd (not-out (subst (λ (o : Option Record). IsSomeAnd o (λ q. q.phase ≡ Out)) (record-same i) out));
  }
    where
      not-out : ¬ HasBody (scene_of core) i (λ q. q.phase ≡ Out)
      not-out h = let t = body_record (record_at (scene_of core) i) (λ q. q.phase ≡ Out) h in out_in (sym t.2 ∙ (ap (λ (x : Record). x.phase) (same_Some t.0 body.0 (sym t.1 ∙ body.1)) ∙ body.3))

  -- ---- where it was

  all-cleared : r.cleared ≡ length r.merged
  all-cleared = asked.to_promote.published.all_cleared

  -- an entry of it in a published tree is at its second location too
  entry-kept : (n k : ℕ) → IsPublished (nodes.home n) → k < 4 → word_of core (LocA i) ≡ place n k → word_of core (LocB i) ≡ place n k
  entry-kept n k published below at = go (a.laws.locations.first i body.0 n k body.1 body.3 below at)
    where
      go : IsWhere nodes Was i body.0.layer n → word_of core (LocB i) ≡ place n k
      go (in_slot t e home second) = elim second [ inl none ↦ absurd (some none) | inr now ↦ absurd (unplaced now) ]
      go (in_main e home second) =
          elim second [
            | inl none ↦ absurd (some none)
            | inr (inl same) ↦ same ∙ at
            | inr (inr old) ↦
                let few = (has-own promote core step a r asked.to_promote.update location_scope (λ k v. refl) update_on_places (λ bare v. refl) old.0 (λ x. length x.swapped ≤ body.0.layer) old.1).1 in
                let many = one.published in
                let layer = body.2 in
                absurd (omega arith)
          ]
      go (in_old number name e other home of_layer) = absurd (subst IsPublished home published)
      go (in_merged number t root e other home has) =
          let still = (has-own promote core step a r asked.to_promote.update location_scope (λ k v. refl) update_on_places (λ bare v. refl) number (λ x. IsStillMerged x body.0.layer t root) has).1 in
          let all = all-cleared in
          absurd (omega (arith, still.1, still.2))

  body-new : IsAnew promote core step nodes nodes i
  body-new = record {
    placed = placed;
    alone = alone promote core step a i asked.to_promote asked.settled;
    entry = λ n k published below entry location. (below, inr (second-same ∙ elim (location.1) [ inl e ↦ entry-kept n k published below e | inr e ↦ e ]));
    second = λ n k stands below entry e. second-same ∙ e;
    places = (λ h. h, λ h. h);
  }

  -- ---- cover

  abbrev Now : Sight
  Now = sight cover_scope (After promote core step)

  -- it is in no tree that the update is to replace
  treeless : ¬ IsInOldTree nodes Now (update_on_cover r) i
  treeless t =
      let old = subst (IsOldTree (update_on_cover r)) (in-tree t.0 t.1 t.2 t.3) t.4 in
      let new = one.published in
      absurd (omega arith)

  noted-right : IsNotedRight nodes Now (seen_of cover_scope step.number (Last promote core step)) (update_on_cover r) i
  noted-right =
      let done : IsDone (seen_of cover_scope step.number (Last promote core step)) (update_on_cover r) i =
      inl (asked.to_promote.placed, λ h. subst (λ (t : Task). IsPlacing (task_on_cover t) i) asked.to_promote.idle h)
      in
      record {
        to_place = λ l t root passed still has joins. let all = all-cleared in absurd (omega (arith, still.1, still.2));
        all_noted = λ opened tree. absurd (treeless tree);
        still_there = λ n among same opened looks. absurd (opened.1 done);
        in_old = λ n among same undone. absurd (undone done);
        placed = λ among tree. absurd (treeless tree);
        given_up = λ among tree. treeless tree;
        exchanged = λ begun n among same. done;
      }

  turns : TurnsBody promote core step nodes i step.view.call
  turns = record {
    on = on;
    of_body = of_body;
    others = λ j apart. record-same j;
    layer = λ g l h. subst (λ (o : Option Record). IsSomeAnd o (λ q. (q.generation ≡ g) × (q.layer ≡ l))) (sym (record-same i)) h;
    targets = λ j q side target. inl target;
    unheld = unheld promote core step a i asked.to_promote asked.settled;
    placed = body_anew body-new;
    stand = λ n k location. (a.laws.locations.at i body.0 n k body.1 body.3 (location-back n k location)).stands;
    covered = anew (record {
      covered = record {
        covered = λ q e is_in.
            let same : q ≡ body.0 = same_Some q body.0 (sym (live q e) ∙ body.1) in
            (one.node, one.child, (one.below, inr (second-same ∙ one.at)), subst IsPublished (sym one.home) tt, subst (IsOfLayer q.layer) (sym one.home) (ap Some (sym (ap (λ (x : Record). x.layer) same ∙ body.2))));
        replaced = λ n k number name below at home none. main_old one.noted.layer number name (sym (in-tree n k below at) ∙ home);
      };
      noted = own-each promote core step a r asked.to_promote.update cover_scope (λ k v. refl) update_on_cover (λ bare v. refl) r asked.to_promote.update (λ number v x. IsNotedRight nodes Now v x i) noted-right;
    });
    own =
        let calm : IsIdle step.view.call.task = subst IsIdle (sym asked.to_promote.idle) tt in
        subst (λ (c : Call). PassIsPlaced nodes Is c (SeenUpdate promote core step)) (sym (idle-places step.view.call calm))
        (begun-placed nodes Is (SeenUpdate promote core step) Nothing (λ j removes. absurd removes) tt (λ n k climbs. absurd climbs));
  }

  pub Invariants-promoted : Invariants (after_step promote core step)
  Invariants-promoted =
      Invariants-turned promote core step a i step.view.call turns
      (BodiesAgree-beside promote core step a i step.view.call on (λ between. absurd (subst (λ (t : Task). MovesBody t i) asked.to_promote.idle between.0)) (ap body_scope.names asked.names) (λ value. refl))

-- ---- kind 49

pub Invariants-promote : IsKept MayPromote promote
Invariants-promote = kept MayPromote promote (λ core step a asked. Invariants-promoted core step a asked)

pub GuardsHold-promote : IsGuarded MayPromote promote
GuardsHold-promote =
    guarded MayPromote promote
    (λ core step a asked. stripe-guarded promote core step a asked.index asked.settled.stripe (unheld promote core step a asked.index asked.to_promote asked.settled) (subst (IsStripeWord asked.index) (sym asked.names) refl))
