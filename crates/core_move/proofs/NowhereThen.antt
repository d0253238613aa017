-- A body without a location has no entry in a tree that a word names, and so it is with each body that is out and that nobody
-- takes out.
use Rattle.std.proofs.Common.{◌≡◌, ◌≢◌, ℕ, ◌<◌, ◌≤◌, Option, Some, None, true, length, refl, ap, sym, ◌∙◌, subst, inl, inr, arith}
use Rattle.std.specs.Prelude.{Contains, IfSome, IsSomeAnd, option_map}
use Rattle.scene_model.specs.declared.body_view.Phase.TheVariants.{Out}
use Rattle.scene_model.specs.Step.{HasBody}
use Rattle.word_map.specs.declared.name.Name.{Name}
use Rattle.word_map.specs.declared.name.Name.TheVariants.{Main, Slot, LocA, LocB, Child}
use Rattle.core_state.specs.declared.view.Noted.{Noted}
use Rattle.core_state.specs.declared.view.Rebuild.{Rebuild}
use Rattle.core_state.specs.declared.view.View.{View}
use Rattle.core_state.specs.View.{known_word}
use Rattle.core_state.specs.Core.{Core, word_of, scene_of}
use Rattle.core_state.specs.Kind.{Step, Steps, after_step}
use Rattle.core_state.specs.Removing.{HasClearedEntries, MayClearLocation, the_first, the_second, clear_location}
use Rattle.core_state.specs.Parts.{update_on_nodes, update_on_places}
use Rattle.core_state.specs.NodesInOnePlace.{node_scope}
use Rattle.core_state.specs.Encoding.{NamesRoot, body_child, place}
use Rattle.core_state.specs.Nodes.{Nodes, Below, itself, lower, under, made, IsPublished, Stands}
use Rattle.core_state.specs.Formed.{IsFormed}
use Rattle.core_state.specs.Guards.{GuardsHold}
use Rattle.core_state.specs.Scope.{Sight, sight}
use Rattle.core_state.specs.TreesSound.{tree_scope}
use Rattle.core_state.specs.Updates.{HasUpdate, IsNoted, IsMadeIn, IsPlacing, IsDone}
use Rattle.core_state.specs.LocationsHold.{location_scope, IsRemoved, Removes, IsPlannedAt}
use Rattle.core_state.specs.Invariants.{Invariants}
use Rattle.core_guard.proofs.Leaving.{Acts, After, LeadsWithin, sound-leads, idle-unhandled, acts-of}
use Rattle.core_guard.proofs.PlacesStay.{seen-task, removes-handles, places-handles}
use Rattle.core_guard.proofs.Seats.{seen_of, has-seat, each-seat}
use Rattle.core_guard.proofs.Owners.{same-view}
use Rattle.core_move.proofs.LocationStores.{Invariants-clear_location, clears, stored, left}
use Rattle.core_guard.proofs.OutBody.{out-after}
use Rattle.core_move.specs.Nowhere.{HasEntry, HasNoLocation, IsNowhere, IsLeaving, IsToBeGivenUp}

module _ (core : Core) (index : ℕ) (h : Invariants core) where
  abbrev nodes : Nodes
  nodes = h.nodes

  leads : LeadsWithin nodes (sight tree_scope core).word
  leads = sound-leads nodes (sight tree_scope core) h.trees

  -- a tree is of one home
  below-home : (name : Name) (n m : ℕ) → nodes.home n ≡ under name → Below (word_of core) n m → nodes.home m ≡ under name
  below-home name n m home (itself x) = home
  below-home name n m home (lower x k y z low e rest) = below-home name y m (leads.down n k y (subst Stands (sym home) tt) low e ∙ home) rest

  root-home : (name : Name) (root : ℕ) → NamesRoot name (word_of core name) root → nodes.home root ≡ under name
  root-home (Main l) root names = (h.trees.roots (Main l) root names).0
  root-home (Slot l t) root names = (h.trees.roots (Slot l t) root names).0
  root-home _ root names = absurd names

  no-location : (value n k : ℕ) → value ≡ 0 → value ≢ place n k
  no-location value n k none e = absurd (omega arith)

  pub no-entry : HasNoLocation core index → ¬ HasEntry core index
  no-entry none e =
      let home = below-home e.name e.root e.node (root-home e.name e.root e.names) e.inside in
      let location = h.locations.entries index e.node e.child (subst IsPublished (sym home) tt) e.low e.entry in
      elim (location.1) [
        | inl first ↦ no-location (word_of core (LocA index)) e.node e.child none.0 first
        | inr second ↦ no-location (word_of core (LocB index)) e.node e.child none.1 second
      ]

  -- who takes it out has a seat
  leaving : IsRemoved (sight location_scope core) index → IsLeaving core index
  leaving removed =
      let from = has-seat location_scope (λ k v. refl) core removed.0 (λ v. Removes v.call.task index) removed.1 in
      (from.seat, removed.0, from.view, from.at, from.pass, seen-task (λ task. Removes task index) (λ task calm removes. idle-unhandled task index calm (removes-handles task index removes)) from.view.call from.holds)

  pub nowhere-out : HasBody (scene_of core) index (λ r. r.phase ≡ Out) → ¬ IsLeaving core index → IsNowhere core index
  nowhere-out out left =
      let none = h.locations.out index out (λ removed. left (leaving removed)) in
      record { unplaced = none; unentered = no-entry none }

  -- ---- an entry in a tree that an update makes

  abbrev Was : Sight
  Was = sight location_scope core

  abbrev NotedAt : ℕ → ℕ → ℕ → Rebuild → Type 0
  NotedAt node child layer r = IsNoted r index (λ noted. (noted.place ≡ place node child) × (noted.layer ≡ layer))

  abbrev Planned : ℕ → View → Rebuild → Type 0
  Planned number view r = (noted : Noted) → Contains r.noted noted → r.is_planned ≡ true → length r.swapped ≤ noted.layer → IsPlannedAt nodes Was number view r noted

  undone : (number node child layer : ℕ) (view : View) (o : Option Rebuild) → word_of core (LocB index) ≡ 0 → child < 4 → word_of core (Child node child) ≡ body_child index
      → IsSomeAnd (option_map update_on_places o) (NotedAt node child layer) → IfSome (option_map update_on_places o) (Planned number (seen_of location_scope number view))
      → IsSomeAnd (option_map update_on_nodes o) (λ r. IsMadeIn core.config r layer node) → IsSomeAnd o (λ r. ¬ IsDone view r index)
  undone number node child layer view None none low entry noted planned is = absurd noted
  undone number node child layer view (Some r) none low entry noted planned is = λ done.
      let at = planned noted.0 noted.1 is.0 (subst (λ (l : ℕ). length r.swapped ≤ l) (sym noted.3.1) is.1) in
      let here = at.at in
      let below = at.below in
      let place_here = noted.3.0 in
      let n : at.node ≡ node = omega arith in
      let k : at.child ≡ child = omega arith in
      let there : word_of core (Child at.node at.child) ≡ body_child noted.0.index = ap (λ (x : ℕ). word_of core (Child x at.child)) n ∙ (ap (λ (x : ℕ). word_of core (Child node x)) k ∙ (entry ∙ ap body_child (sym noted.2))) in
      let seen : IsDone (seen_of location_scope number view) (update_on_places r) noted.0.index =
      subst (λ (j : ℕ). IsDone (seen_of location_scope number view) (update_on_places r) j) (sym noted.2)
      (elim done [
        | inl t ↦ inl (t.0, λ places. t.1 (seen-task (λ task. IsPlacing task index) (λ task calm h. idle-unhandled task index calm (places-handles task index h)) view.call places))
        | inr given ↦ inr given
      ])
      in
      let second : word_of core (LocB index) ≡ place at.node at.child = ap (λ (j : ℕ). word_of core (LocB j)) (sym noted.2) ∙ (at.of_done seen there ∙ at.at) in
      no-location (word_of core (LocB index)) at.node at.child none second

  pub to_be_given_up : IsFormed core → HasNoLocation core index → (node child number layer : ℕ) → nodes.home node ≡ made number layer → child < 4 → word_of core (Child node child) ≡ body_child index → IsToBeGivenUp core number index
  to_be_given_up formed none node child number layer home low entry =
      let from = has-seat location_scope (λ k v. refl) core number (λ v. HasUpdate v (NotedAt node child layer)) (h.locations.made_entries index node child number layer home low entry) in
      let makes = has-seat node_scope (λ k v. refl) core number (λ v. HasUpdate v (λ r. IsMadeIn core.config r layer node)) ((h.places.made_by node number layer).0 home) in
      let one : makes.view ≡ from.view = same-view core formed makes.seat from.seat number makes.view from.view makes.at from.at makes.pass from.pass in
      let planned = each-seat location_scope (λ k v. refl) core (λ k v. IfSome v.rebuild (Planned k v)) h.locations.planned from.seat number from.view from.at from.pass in (
        from.seat,
        from.view,
        from.at,
        from.pass,
        undone number node child layer from.view from.view.rebuild none.1 low entry from.holds planned
            (subst (λ (v : View). IsSomeAnd (option_map update_on_nodes v.rebuild) (λ r. IsMadeIn core.config r layer node)) one makes.holds),
      )

-- ---- the end of a removal

-- with the second location the body is nowhere
ends-nowhere : (core : Core) (step : Step) (a : Acts core step) (i : ℕ) → step.name ≡ LocB i → HasClearedEntries step.view i → known_word step.view (LocA i) ≡ 0 → step.first ≡ 0
    → (word_of (After clear_location core step) (LocA i) ≡ 0) × (word_of (After clear_location core step) (LocB i) ≡ 0) × HasBody (scene_of (After clear_location core step)) i (λ r. r.phase ≡ Out)
unfolding clears
ends-nowhere core step a i names entries first none =
    let c = clears core step a (the_second i names entries first none) in
    (c.first, stored core step (LocB i) none names, out-after clear_location core step a i c.call (left core step a c))

first_second : (i index : ℕ) → LocA i ≢ LocB index
first_second i index e = absurd cc

abbrev second_index : Name → ℕ
second_index (LocB i) = i
second_index _ = 0

pub left-whole : (before after : Core) (steps : Steps MayClearLocation clear_location before after) (index : ℕ) → steps.step.name ≡ LocB index → IsFormed before → GuardsHold before → Invariants before
    → HasBody (scene_of after) index (λ r. r.phase ≡ Out) × IsNowhere after index
left-whole before after steps index names formed guards h =
    let a = acts-of MayClearLocation clear_location before after steps formed guards h in
    let kept = Invariants-clear_location before after steps formed guards h in
    go a (subst Invariants steps.result kept) steps.allowed.asked
  where
    ended : Core
    ended = after_step clear_location before steps.step

    whole : Invariants ended → (word_of ended (LocA index) ≡ 0) × (word_of ended (LocB index) ≡ 0) × HasBody (scene_of ended) index (λ r. r.phase ≡ Out)
        → HasBody (scene_of after) index (λ r. r.phase ≡ Out) × IsNowhere after index
    whole laws t =
        subst (λ (c : Core). HasBody (scene_of c) index (λ r. r.phase ≡ Out) × IsNowhere c index) (sym steps.result)
        (t.2, record { unplaced = (t.0, t.1); unentered = no-entry ended index laws (t.0, t.1) })

    go : Acts before steps.step → Invariants ended → MayClearLocation steps.step.view steps.step.name steps.step.first steps.step.second → HasBody (scene_of after) index (λ r. r.phase ≡ Out) × IsNowhere after index
    go a laws (the_first i first_names entries none) = absurd (first_second i index (sym first_names ∙ names))
    go a laws (the_second i second_names entries first none) =
        let same : i ≡ index = ap second_index (sym second_names ∙ names) in
        whole laws (ends-nowhere before steps.step a index names (subst (HasClearedEntries steps.step.view) same entries) (subst (λ (j : ℕ). known_word steps.step.view (LocA j) ≡ 0) same first) none)
