-- Widening a side of a bound to place a body keeps all laws: the bound is in a new tree, above the place that is planned for
-- the body, and the side is one of its box.
use Rattle.std.proofs.Common.{◌≡◌, ◌≢◌, ◌⊎◌, ℕ, ◌<◌, ◌≤◌, List, [], ◌∷◌, ◌++◌, true, length, Contains, Option, Some, None, refl, ap, sym, ◌∙◌, subst, inl, inr, arith}
use Rattle.std.specs.Prelude.{IsSomeAnd, IfSome, option_map}
use Rattle.std.proofs.lemmas.Option.{same_Some, none-some}
use Rattle.std.proofs.lemmas.List.Elements.{Contains-append_cases}
use Rattle.fixed_box.specs.FixBox.{words_of}
use Rattle.scene_model.specs.declared.body_view.Phase.TheVariants.{Held}
use Rattle.scene_model.specs.Scene.{Record, record_at, Scene}
use Rattle.scene_model.specs.Step.{HasBody}
use Rattle.word_map.specs.declared.name.Name.{Name}
use Rattle.word_map.specs.declared.name.Name.TheVariants.{Bound, BoxWord, Reader}
use Rattle.word_map.specs.Names.{IsName, stripe_of}
use Rattle.core_state.specs.declared.item.Load.{Load}
use Rattle.core_state.specs.declared.item.Store.{Store}
use Rattle.core_state.specs.declared.view.Call.{Call}
use Rattle.core_state.specs.declared.view.Noted.{Noted}
use Rattle.core_state.specs.declared.view.Rebuild.{Rebuild}
use Rattle.core_state.specs.declared.view.Task.{Task}
use Rattle.core_state.specs.declared.view.Task.TheVariants.{Nothing, Placing}
use Rattle.core_state.specs.declared.view.View.{View}
use Rattle.core_state.specs.View.{IsPass, Holds, known_word}
use Rattle.core_state.specs.declared.view.Mode.TheVariants.{Write}
use Rattle.core_state.specs.Core.{Core, word_of, scene_of, IsViewAt}
use Rattle.core_state.specs.Encoding.{place, sides_of}
use Rattle.core_state.specs.Guards.{KeepsGuards}
use Rattle.core_state.specs.Bodies.{MovesBody}
use Rattle.core_state.specs.Kind.{Kind, Step, Steps, found_by, left_by, learned, after_step, log_after}
use Rattle.core_state.specs.Moving.{HasComeTo, at_start}
use Rattle.core_state.specs.Nodes.{Nodes, Home, made, IsLive, Stands, Above}
use Rattle.core_state.specs.Operation.{Operation, fetch_min, fetch_max}
use Rattle.core_state.specs.Parts.{call_at, call_by_task, call_on_places, task_at_place, update_on_cover, update_on_places, update_on_readers}
use Rattle.core_state.specs.Placing.{IsToPlace, IsPlannedPlace, MayWidenToPlace, begins_placing, goes_on_placing, widened_to_place, MayWidenLowToPlace, MayWidenHighToPlace, widen_low_placing, widen_high_placing}
use Rattle.core_state.specs.Scope.{Sight, sight, bare_view}
use Rattle.core_state.specs.Space.{HadAs, IsInLayer}
use Rattle.core_state.specs.Updates.{IsNoted, IsPlacing, IsStillMerged}
use Rattle.core_state.specs.LocksAgree.{lock_scope}
use Rattle.core_state.specs.BodiesAgree.{body_scope}
use Rattle.core_state.specs.NodesInOnePlace.{node_scope}
use Rattle.core_state.specs.TreesSound.{tree_scope, BoundsOnlyWiden}
use Rattle.core_state.specs.LocationsHold.{LocationsHold, location_scope, ClimbsFrom, IsPlannedAt, IsPublishedAt, IsSecondFor, Removes}
use Rattle.core_state.specs.BodiesCovered.{BodiesCovered, BodiesCoveredIn, cover_scope}
use Rattle.core_state.specs.ReadersCounted.{ReadersCounted, ReadersCountedIn, reader_scope}
use Rattle.core_state.specs.Invariants.{Invariants}
use Rattle.core_state.proofs.Beginning.{record_body, last_point}
use Rattle.core_state.proofs.Frames.{frame, step-same}
use Rattle.core_state.proofs.Opening.{only}
use Rattle.core_state.proofs.Steps.{word-step, word-step-other, view-step}
use Rattle.core_guard.proofs.Holders.{keeps, IsGuarded, guarded}
use Rattle.core_guard.proofs.Touched.{IsKept, kept}
use Rattle.core_guard.proofs.Leaving.{Acts, After, Last, Stays, Leaves, LeadsWithin, sound-leads, scene-plain, above-forth, stays-by, body_of, idle-unhandled}
use Rattle.core_guard.proofs.PlacesLeft.{SeenUpdate, LocationsHold-stays}
use Rattle.core_guard.proofs.PlacesStay.{PassIsPlaced, pass-placed, pass-forth, begun-placed, acting, seen-task, places-handles}
use Rattle.core_guard.proofs.ReadersLeft.{TightSide, climbs-own, ReadersCounted-leaves, counts-stay, had_as-forth}
use Rattle.core_guard.proofs.Seats.{each-seat, each-seats, seen_of}
use Rattle.core_guard.proofs.Owners.{same-view}
use Rattle.core_guard.proofs.Unowned.{stands-unowned}
use Rattle.core_guard.proofs.WidenedBound.{WidensBound, widened-leaves, TreesSound-widens, WalksLead-widens, side-or, side-widens}
use Rattle.core_guard.proofs.Recalled.{Recalls, recalled, call-is}
use Rattle.core_guard.proofs.OnBody.{OnBody, LocksAgree-on, IsOn, NodesInOnePlace-on}
use Rattle.core_guard.proofs.InPlace.{stays-in_place}
use Rattle.core_guard.proofs.Still.{come-up}
use Rattle.core_guard.proofs.CallsAgree.{BodiesAgree-beside}
use Rattle.core_move.proofs.MoveSteps.{above-home}
use Rattle.core_move.proofs.Widening.{IsWider, min-wider, max-wider}
use Rattle.core_update.proofs.OwnNotes.{known, body, unheld, there, own-notes, one-note}
use Rattle.core_update.proofs.PlacedBody.{PlacesOnly, nothing_yet, places_it, places-so, side-range, box-words, planned-home}
use Rattle.core_update.proofs.PlacingLoads.{planned-seen}
use Rattle.core_update.proofs.Swapped.{law-swap}
use Rattle.core_update.proofs.SwappedCover.{UpdateIsRight, FirstCover, SecondCover, BodiesCovered-swap, right-again, removed-again, places-from_cover}
use Rattle.core_update.proofs.SwappedPlaces.{TwoUpdate, First, Second, SwapsPlaces, LocationsHold-swap, pass-again, planned-again}

-- ---- both kinds

abbrev pub widening_to_place : Operation → ℕ → Kind
widening_to_place operation index = record {
  operation = operation;
  entry = λ view name value. None;
  leaves = λ view name found value second. widened_to_place view.call.task index view name value;
}

-- a step of which the pass takes no note
abbrev pub unnoticed : View → Name → ℕ → ℕ → ℕ → View
unnoticed view name found first second = view

-- a new tree is of one pass, and one layer
pub made-once : (p q k l : ℕ) → made p k ≡ made q l → p ≡ q
made-once p q k l e = ap pass_in e
  where
    pass_in : Home → ℕ
    pass_in (made x y) = x
    pass_in _ = 0

-- ---- a store more of a placing

module _ (nodes : Nodes) (s : Sight) (index : ℕ) (u : Option Rebuild) (loads : List Load) (stored : List Store) (new : Store) where
  pub placing-more : PassIsPlaced nodes s (record { task = Placing index; loads = loads; stores = stored }) u
      → ((n k q value : ℕ) → new ≡ record { name = Bound n k q; value = value } → (q < 3 → s.word (Bound n k q) ≤ value) × (3 ≤ q → value ≤ s.word (Bound n k q)))
      → ((x y q value : ℕ) → new ≡ record { name = Bound x y q; value = value } → (n : ℕ) × (k : ℕ) × ClimbsFrom s (acting (record { task = Placing index; loads = loads; stores = stored }) u) (Placing index) n k × Above s.word n k x y)
      → PassIsPlaced nodes s (record { task = Placing index; loads = loads; stores = stored ++ new ∷ [] }) u
  placing-more p wide way = record {
    removed = λ i removes. absurd removes;
    unheld = p.unheld;
    widened = λ i n k box gives. absurd gives;
    still_wide = λ n k q value among.
        elim (Contains-append_cases stored (new ∷ []) (record { name = Bound n k q; value = value }) among) [
          | inl old ↦ p.still_wide n k q value old
          | inr last ↦ wide n k q value (only new (record { name = Bound n k q; value = value }) last)
        ];
    climbs_from = p.climbs_from;
    on_its_way = p.on_its_way;
    widened_on_way = λ x y q value among.
        elim (Contains-append_cases stored (new ∷ []) (record { name = Bound x y q; value = value }) among) [
          | inl old ↦ p.widened_on_way x y q value old
          | inr last ↦ way x y q value (only new (record { name = Bound x y q; value = value }) last)
        ];
  }

module _ (operation : Operation) (index : ℕ) (core : Core) (step : Step) (a : Acts core step) (node child side : ℕ) (names : step.name ≡ Bound node child side) (may : MayWidenToPlace index step.view node child side step.first)
    (wider : IsWider operation side (found_by core step) step.first step.second) where
  abbrev widens : Kind
  widens = widening_to_place operation index

  abbrev quiet : Kind
  quiet = record widens { leaves = unnoticed }

  abbrev nodes : Nodes
  nodes = a.laws.nodes

  abbrev Was : Sight
  Was = sight location_scope core

  abbrev p : IsToPlace step.view index
  p = may.to_place

  abbrev i : ℕ
  i = p.noted.index

  abbrev Seen : Option Rebuild
  Seen = SeenUpdate widens core step

  abbrev new_store : Store
  new_store = record { name = step.name; value = step.first }

  below : side < 6
  below = (subst (IsName core.config) names a.named).2

  only-places : PlacesOnly step.view.call.task index
  only-places = elim (may.widens) [ begins_placing idle at ↦ nothing_yet idle | goes_on_placing task come ↦ places_it task ]

  -- ---- the planned place

  -- of the notes of the body there is one
  noted-place : (n k : ℕ) → IsNoted p.r index (λ noted. noted.place ≡ place n k) → p.noted.place ≡ place n k
  noted-place n k t = ap (λ (x : Noted). x.place) (sym (one-note core step a index p t.0 t.1 t.2)) ∙ t.3

  from-planned : (n k : ℕ) → IsPlannedPlace step.view index n k → p.noted.place ≡ place n k
  from-planned n k h = noted-place n k (subst (λ (o : Option Rebuild). IsSomeAnd o (λ r. IsNoted r index (λ noted. noted.place ≡ place n k))) p.update h.1)

  from-seen : (n k : ℕ) → IsSomeAnd Seen (λ r. IsNoted r index (λ noted. noted.place ≡ place n k)) → p.noted.place ≡ place n k
  from-seen n k h = noted-place n k (subst (λ (o : Option Rebuild). IsSomeAnd (option_map update_on_places o) (λ r. IsNoted r index (λ noted. noted.place ≡ place n k))) p.update h)

  home-at : (n k : ℕ) → k < 4 → p.noted.place ≡ place n k → nodes.home n ≡ made step.number p.noted.layer
  home-at n k low at = planned-home core step a index p only-places n k low at

  -- ---- the placing as it is, or as it begins

  abbrev Placed : List Load → List Store → Type 0
  Placed loads stored = PassIsPlaced nodes Was (record { task = Placing index; loads = loads; stores = stored }) Seen

  record Goes : Type 0 where
    loads : List Load
    stored : List Store
    base : Placed loads stored
    come : HasComeTo (record { task = Placing index; loads = loads; stores = stored }) (IsPlannedPlace step.view index) node child
    recalls : Recalls widens core step (record { task = Placing index; loads = loads; stores = stored ++ new_store ∷ [] })

  goes : Goes
  goes =
      elim (may.widens) [
        | begins_placing idle at ↦ record {
          loads = [];
          stored = [];
          base = begun-placed nodes Was Seen (Placing index) (λ j removes. absurd removes) (subst (λ (j : ℕ). HasBody (scene_of core) j (λ b. b.phase ≢ Held)) p.of_body (unheld core step a index p))
              (λ n k climbs. subst Stands (sym (home-at n k climbs.0 (from-seen n k climbs.1))) tt);
          come = at_start at;
          recalls = ap (λ (t : Task). widened_to_place t index (learned core step) step.name step.first) idle;
        }
        | goes_on_placing task come ↦
            let old = each-seat location_scope (λ k v. refl) core (λ number v. PassIsPlaced nodes Was v.call v.rebuild) (pass-placed nodes Was a.laws.locations) step.seat step.number step.view a.at a.pass in
            let seen : call_on_places step.view.call ≡ step.view.call = ap (λ (t : Task). call_by_task t step.view.call) task in
            let same : step.view.call ≡ record { task = Placing index; loads = step.view.call.loads; stores = step.view.call.stores } =
            λ j. record { task = task j; loads = step.view.call.loads; stores = step.view.call.stores } in
            record {
              loads = step.view.call.loads;
              stored = step.view.call.stores;
              base = subst (λ (c : Call). PassIsPlaced nodes Was c Seen) (seen ∙ same) old;
              come = subst (λ (c : Call). HasComeTo c (IsPlannedPlace step.view index) node child) same come;
              recalls = ap (λ (t : Task). widened_to_place t index (learned core step) step.name step.first) task
                  ∙ (λ j. record (learned core step) { call = record { task = task j; loads = step.view.call.loads; stores = step.view.call.stores ++ new_store ∷ [] } });
            }
      ]

  abbrev Two : Call
  Two = record { task = Placing index; loads = goes.loads; stores = goes.stored ++ new_store ∷ [] }

  -- the place is above the planned one
  record IsUp : Type 0 where
    n : ℕ
    k : ℕ
    low : k < 4
    at : p.noted.place ≡ place n k
    above : Above Was.word n k node child

  up : IsUp
  up =
      let t = come-up nodes Was Seen (record { task = Placing index; loads = goes.loads; stores = goes.stored }) goes.base (IsPlannedPlace step.view index)
      (λ n k h. (h.0, planned-seen step.view.rebuild index n k h.1)) node child goes.come in
      record { n = t.0; k = t.1; low = t.2.0; at = from-seen t.0 t.1 t.2.1; above = t.3 }

  leads : LeadsWithin nodes Was.word
  leads = let t = sound-leads nodes (sight tree_scope core) a.laws.trees in record { up = t.up; down = t.down }

  up-home : nodes.home up.n ≡ made step.number p.noted.layer
  up-home = home-at up.n up.k up.low up.at

  up-stands : Stands (nodes.home up.n)
  up-stands = subst Stands (sym up-home) tt

  home : nodes.home node ≡ made step.number p.noted.layer
  home = above-home nodes Was.word leads up.n up.k node child up-stands up.above ∙ up-home

  -- ---- the side

  value : step.first ≡ sides_of (words_of (body core step a index p).0.bounds) side
  value =
      may.side ∙ (ap (λ (j : ℕ). known_word step.view (BoxWord j side)) (sym p.of_body) ∙ (sym ((known core step a index p).words (BoxWord i side) refl)
      ∙ box-words core step a index p only-places widens side below))

  range : (1 ≤ step.first) × (step.first ≤ 16777216)
  range = subst (λ (v : ℕ). (1 ≤ v) × (v ≤ 16777216)) (sym value) (side-range (body core step a index p).0.bounds side below)

  -- ---- the step, unnoticed by the pass

  w : WidensBound quiet core step a node child side
  w = record { names = names; stands = subst Stands (sym home) tt; one = wider.one; wide = wider.word; low = range.0; high = range.1; rebuild = refl }

  abbrev none : ℕ → Type 0
  none n = ⊥

  m : Leaves quiet core step nodes nodes none
  m = widened-leaves quiet core step a node child side w

  stays : (j : ℕ) → Stays quiet core step j
  stays j =
      stays-by quiet core step j (scene-plain quiet core step (λ v. refl) j) (λ name of. word-step-other quiet core step name (λ e. none-some j (sym (ap body_of (e ∙ names)) ∙ of))) (λ h. h, λ h. h) (λ h. h, λ h. h)

  LocationsHold-quiet : LocationsHold nodes (after_step quiet core step)
  LocationsHold-quiet =
      LocationsHold-stays quiet core step a m stays refl
      (pass-forth quiet core step a nodes none m Seen (call_on_places step.view.call) (λ j handled. stays-in_place quiet core step j (stays j))
      (each-seat location_scope (λ k v. refl) core (λ number v. PassIsPlaced nodes Was v.call v.rebuild) (pass-placed nodes Was a.laws.locations) step.seat step.number step.view a.at a.pass))

  abbrev Now : Sight
  Now = sight reader_scope (After quiet core step)

  -- the side counts for the new tree
  had : HadAs Now p.r.from p.noted (sides_of (words_of (body core step a index p).0.bounds))
  had =
      let b = body core step a index p in
      let same = subst (λ (o : Option Record). IsSomeAnd o (λ x. (x.generation ≡ p.noted.generation) × (x.layer ≡ p.noted.layer))) b.1 (there core step a index p).1.same in
      let P : Record → Type 0 = λ x. (x.generation ≡ p.noted.generation) × (x.layer ≡ p.noted.layer) × (sides_of (words_of b.0.bounds) ≡ sides_of (words_of x.bounds)) in
      had_as-forth quiet core step a nodes none m p.r.from p.noted (sides_of (words_of b.0.bounds)) (
        length Was.history,
        (own-notes core step a p.r p.update).begun,
        omega arith,
        subst (λ (scene : Scene). HasBody scene i P) (sym (last_point core)) (record_body (record_at (scene_of core) i) P b.0 b.1 (same.0, same.1, refl)),
      )

  tight : TightSide Now (update_on_readers p.r) node child side step.first
  tight = (
    p.noted,
    p.among,
    (up.n, up.k, up.low, up.at, above-forth quiet core step a nodes nodes none m Was.word Now.word leads m.parent up.n up.k node child up-stands up.above),
    inl (sides_of (words_of (body core step a index p).0.bounds), had, sym value),
  )

  abbrev Fresh : ℕ → Rebuild → Type 0
  Fresh number r = (n k q l : ℕ) → nodes.home n ≡ made number l → (word_of (After quiet core step) (Bound n k q) ≡ word_of core (Bound n k q)) ⊎ TightSide Now r n k q (word_of (After quiet core step) (Bound n k q))

  -- a new tree is that of its pass
  tight-for : (seat number : ℕ) (view : View) → IsViewAt core seat view → IsPass view number → (r : Rebuild) → view.rebuild ≡ Some r → (l : ℕ) → nodes.home node ≡ made number l → TightSide Now (update_on_readers r) node child side step.first
  tight-for seat number view at pass r is l made_for =
      let number_is : step.number ≡ number = made-once step.number number p.noted.layer l (sym home ∙ made_for) in
      let view_is : step.view ≡ view = same-view core a.formed step.seat seat number step.view view a.at at (a.pass ∙ ap Some number_is) pass in
      let one : p.r ≡ r = same_Some p.r r (sym p.update ∙ (ap (λ (v : View). v.rebuild) view_is ∙ is)) in
      subst (λ (u : Rebuild). TightSide Now (update_on_readers u) node child side step.first) one tight

  fresh-at : (seat number : ℕ) (view : View) → IsViewAt core seat view → IsPass view number → (x : Option Rebuild) → view.rebuild ≡ x → IfSome (option_map update_on_readers x) (Fresh number)
  fresh-at seat number view at pass None is = tt
  fresh-at seat number view at pass (Some r) is = λ n k q l made_for.
      elim (side-or quiet core step a node child side w (λ x j y v. nodes.home x ≡ made number l → TightSide Now (update_on_readers r) x j y v) (tight-for seat number view at pass r is l) n k q) [
        | inl e ↦ inl e
        | inr counts ↦ inr (counts made_for)
      ]

  ReadersCounted-quiet : ReadersCounted nodes (After quiet core step)
  ReadersCounted-quiet =
      ReadersCounted-leaves quiet core step a nodes none m
      (counts-stay quiet core step a m stays (λ j q side target. inl target) (climbs-own quiet core step a nodes none m refl (λ j handled. ((stays j).loc_a, (stays j).loc_b)))
      (λ n k q l live layer.
      elim (side-or quiet core step a node child side w (λ x j y v. IsLive (nodes.home x) → IsInLayer Now l y v) (λ at_node. absurd (subst IsLive home at_node)) n k q) [ inl e ↦ inl e | inr counts ↦ inr (counts live) ])
      (each-seats reader_scope (λ k v. refl) core (λ number v. IfSome v.rebuild (Fresh number)) (λ seat number view at pass. fresh-at seat number view at pass view.rebuild refl)))
      (record { reader = λ q. word-step-other quiet core step (Reader q) (λ e. reader q (e ∙ names)); walk = refl })
    where
      reader : (q : ℕ) → Reader q ≢ Bound node child side
      reader q e = absurd cc

  -- ---- and as the pass takes note of it

  o : OnBody widens core step index Two
  o = record {
    stripe = subst (λ (j : ℕ). Holds step.view (stripe_of step.view.config j) Write) p.of_body p.as_noted.settled.stripe;
    before = places-so (IsOn index) step.view.call.task index tt refl only-places;
    after = refl;
    recalls = goes.recalls;
  }

  last : Last widens core step ≡ record step.view { call = Two; known = log_after widens core step; joined = None }
  last = recalled widens core step Two goes.recalls

  same-call : (Last widens core step).call ≡ Two
  same-call = call-is widens core step Two goes.recalls

  same-rebuild : (Last widens core step).rebuild ≡ step.view.rebuild
  same-rebuild = ap (λ (v : View). v.rebuild) last

  same-seen : TwoUpdate widens unnoticed core step a nodes ≡ Seen
  same-seen = ap (option_map update_on_places) same-rebuild

  noted-wide : WidensBound widens core step a node child side
  noted-wide = record { names = names; stands = w.stands; one = wider.one; wide = wider.word; low = range.0; high = range.1; rebuild = same-rebuild }

  abbrev Is : Sight
  Is = Second widens unnoticed core step a nodes

  now : Is.word (Bound node child side) ≡ left_by widens core step
  now = ap (λ (n : Name). word_of (After widens core step) n) (sym names) ∙ word-step widens core step

  -- what the placing has loaded and stored before
  base-quiet : PassIsPlaced nodes (First widens unnoticed core step a nodes) (record { task = Placing index; loads = goes.loads; stores = goes.stored }) Seen
  base-quiet =
      pass-forth quiet core step a nodes none m Seen (record { task = Placing index; loads = goes.loads; stores = goes.stored }) (λ j handled. stays-in_place quiet core step j (stays j)) goes.base

  own-after : PassIsPlaced nodes Is (call_on_places (Last widens core step).call) (TwoUpdate widens unnoticed core step a nodes)
  own-after =
      subst (λ (c : Call). PassIsPlaced nodes Is (call_on_places c) (TwoUpdate widens unnoticed core step a nodes)) (sym same-call)
      (subst (λ (u : Option Rebuild). PassIsPlaced nodes Is Two u) (sym same-seen)
      (placing-more nodes Is index Seen goes.loads goes.stored new_store
      (pass-again nodes (First widens unnoticed core step a nodes) Is.passes (record { task = Placing index; loads = goes.loads; stores = goes.stored }) Seen base-quiet)
      (λ n k q v e.
      let name : Bound node child side ≡ Bound n k q = sym names ∙ ap (λ (x : Store). x.name) e in
      let first : step.first ≡ v = ap (λ (x : Store). x.value) e in
      let q0 : side ≡ q = ap side_of name in
      let word : Is.word (Bound n k q) ≡ left_by widens core step = ap Is.word (sym name) ∙ now in
      (λ low. let t = wider.operand.0 (omega arith) in omega arith, λ high. let t = wider.operand.1 (omega arith) in omega arith))
      (λ x y q v e.
      let name : Bound node child side ≡ Bound x y q = sym names ∙ ap (λ (z : Store). z.name) e in
      let above = above-forth quiet core step a nodes nodes none m Was.word Is.word leads m.parent up.n up.k node child up-stands up.above in (
        up.n,
        up.k,
        (up.low, noted-seen),
        subst (λ (j : ℕ). Above Is.word up.n up.k j y) (ap node_of name) (subst (λ (j : ℕ). Above Is.word up.n up.k node j) (ap child_of name) above),
      ))))
    where
      node_of : Name → ℕ
      node_of (Bound x y z) = x
      node_of _ = 0

      child_of : Name → ℕ
      child_of (Bound x y z) = y
      child_of _ = 0

      side_of : Name → ℕ
      side_of (Bound x y z) = z
      side_of _ = 0

      noted-seen : IsSomeAnd Seen (λ r. IsNoted r index (λ noted. noted.place ≡ place up.n up.k))
      noted-seen = subst (λ (o : Option Rebuild). IsSomeAnd (option_map update_on_places o) (λ r. IsNoted r index (λ noted. noted.place ≡ place up.n up.k))) (sym p.update) (p.noted, p.among, p.of_body, up.at)

  -- no body that was placed is placed by it
  placed-else : (j : ℕ) → Contains p.r.placed j → ¬ IsPlacing (Placing index) j
  placed-else j among places = p.unplaced (subst (λ (x : ℕ). Contains p.r.placed x) (sym places) among)

  placed-other : (call : Call) → PlacesOnly call.task index → (j : ℕ) → Contains p.r.placed j → ¬ IsPlacing (call_on_places call).task j
  placed-other call only-so j among places =
      places-so (λ t. ¬ IsPlacing t j) call.task index (λ no. no) (placed-else j among) only-so (seen-task (λ t. IsPlacing t j) (λ t calm h. idle-unhandled t j calm (places-handles t j h)) call places)

  planned-now : IfSome (TwoUpdate widens unnoticed core step a nodes)
      (λ r. (noted : Noted) → Contains r.noted noted → r.is_planned ≡ true → length r.swapped ≤ noted.layer → IsPlannedAt nodes Is step.number (seen_of location_scope step.number (Last widens core step)) r noted)
  planned-now =
      let old = each-seat location_scope (λ k v. refl) (after_step quiet core step) _ LocationsHold-quiet.planned step.seat step.number (Last quiet core step) (view-step quiet core step a.at) a.pass in
      subst (λ (x : Option Rebuild). IfSome (option_map update_on_places x) (λ r. (noted : Noted) → Contains r.noted noted → r.is_planned ≡ true → length r.swapped ≤ noted.layer → IsPlannedAt nodes Is step.number (seen_of location_scope step.number (Last widens core step)) r noted))
      (sym (same-rebuild ∙ p.update))
      (λ noted among is_planned from.
      let v = seen_of location_scope step.number (Last quiet core step) in
      let z = seen_of location_scope step.number (Last widens core step) in
      let before : (j : ℕ) → Contains p.r.placed j → ¬ IsPlacing v.call.task j = placed-other step.view.call only-places in
      let after : (j : ℕ) → Contains p.r.placed j → ¬ IsPlacing z.call.task j = placed-other (Last widens core step).call (places_it (ap (λ (c : Call). c.task) same-call)) in
      planned-again nodes (First widens unnoticed core step a nodes) Is.passes step.number v z (update_on_places p.r) (update_on_places p.r) noted
      (λ done. elim done [ inl t ↦ inl (t.0, after noted.index t.0) | inr t ↦ inr t ]) (λ done. elim done [ inl t ↦ inl (t.0, before noted.index t.0) | inr t ↦ inr t ])
      ((subst (λ (x : Option Rebuild). IfSome (option_map update_on_places x) (λ r. (noted : Noted) → Contains r.noted noted → r.is_planned ≡ true → length r.swapped ≤ noted.layer → IsPlannedAt nodes (First widens unnoticed core step a nodes) step.number v r noted)) p.update old) noted among is_planned from))

  swaps : SwapsPlaces widens unnoticed core step a nodes
  swaps = record {
    batches = ap (λ (v : View). v.batches) last;
    bodies = λ j. record {
      second = subst (λ (u : Option Rebuild). IsSomeAnd u (IsSecondFor (First widens unnoticed core step a nodes) j)) (sym same-seen);
      placed = λ t e places. subst (λ (c : Call). IsPlacing c.task j) (sym same-call) (places-so (λ t. IsPlacing t j → index ≡ j) step.view.call.task index (λ no. absurd no) (λ is. is) only-places places);
      unexchanged = λ l. subst (λ (u : Option Rebuild). IsSomeAnd u (λ r. length r.swapped ≤ l)) (sym same-seen);
      merged = λ l t root. subst (λ (u : Option Rebuild). IsSomeAnd u (λ r. IsStillMerged r l t root)) (sym same-seen);
      removed = λ removes. absurd (places-so (λ t. ¬ Removes t j) step.view.call.task index (λ no. no) (λ no. no) only-places removes);
    };
    noted = λ j n k l home. subst (λ (u : Option Rebuild). IsSomeAnd u (λ r. IsNoted r j (λ noted. (noted.place ≡ place n k) × (noted.layer ≡ l)))) (sym same-seen);
    planned = planned-now;
    published = subst (λ (u : Option Rebuild). IfSome u (λ r. (noted : Noted) → Contains r.noted noted → IsPublishedAt nodes r noted)) (sym same-seen)
        (each-seat location_scope (λ k v. refl) core _ a.laws.locations.published step.seat step.number step.view a.at a.pass);
    own = own-after;
  }

  pub LocationsHold-widens : LocationsHold nodes (after_step widens core step)
  LocationsHold-widens = LocationsHold-swap widens unnoticed core step a nodes LocationsHold-quiet swaps

  -- ---- all of them

  BodiesCovered-widens : BodiesCovered nodes (after_step widens core step)
  BodiesCovered-widens =
      let old = frame cover_scope (BodiesCoveredIn nodes) core (after_step quiet core step)
      (step-same cover_scope quiet core step a.at a.pass (record { name = λ stored. ap cover_scope.names names; entry = λ reads v. refl; part = refl })) a.laws.cover in
      let v = seen_of cover_scope step.number (Last quiet core step) in
      let z = seen_of cover_scope step.number (Last widens core step) in
      BodiesCovered-swap widens unnoticed core step a nodes old (λ j removes. absurd (places-so (λ t. ¬ Removes t j) step.view.call.task index (λ no. no) (λ no. no) only-places removes))
      (λ right.
      subst (λ (x : Option Rebuild). IfSome (option_map update_on_cover x) (λ r. UpdateIsRight nodes (SecondCover widens unnoticed core step a nodes) z r)) (sym (same-rebuild ∙ p.update))
      (right-again nodes (FirstCover widens unnoticed core step a nodes) (SecondCover widens unnoticed core step a nodes).passes
      (removed-again widens unnoticed core step a nodes (λ j removes. absurd (places-so (λ t. ¬ Removes t j) step.view.call.task index (λ no. no) (λ no. no) only-places removes))) v z (update_on_cover p.r)
      (λ j done. elim done [ inl t ↦ inl (t.0, λ places. placed-else j t.0 (subst (λ (c : Call). IsPlacing c.task j) same-call (places-from_cover (Last widens core step).call.task j places))) | inr t ↦ inr t ])
      (λ j done.
      elim done [ inl t ↦ inl (t.0, λ places. places-so (λ t. ¬ IsPlacing t j) step.view.call.task index (λ no. no) (placed-else j t.0) only-places (places-from_cover step.view.call.task j places)) | inr t ↦ inr t ])
      (subst (λ (x : Option Rebuild). IfSome (option_map update_on_cover x) (λ r. UpdateIsRight nodes (FirstCover widens unnoticed core step a nodes) v r)) p.update right)))

  at-place : (task : Task) → PlacesOnly task index → task_at_place task ≡ Nothing
  at-place task only-so = places-so (λ t. task_at_place t ≡ Nothing) task index refl refl only-so

  pub Invariants-widens : Invariants (after_step widens core step)
  Invariants-widens = record {
    nodes = nodes;
    locks = LocksAgree-on widens core step index Two a o (ap lock_scope.names names);
    bodies = BodiesAgree-beside widens core step a index Two o (λ b. absurd (places-so (λ t. ¬ MovesBody t index) step.view.call.task index (λ no. no) (λ no. no) only-places b.0)) (ap body_scope.names names) (λ v. refl);
    places = NodesInOnePlace-on widens core step index Two a o (ap node_scope.names names);
    trees = TreesSound-widens widens core step a node child side noted-wide (ap (λ (v : View). v.written) last);
    locations = LocationsHold-widens;
    cover = BodiesCovered-widens;
    walks = WalksLead-widens widens core step a node child side noted-wide (ap (λ (v : View). v.walk) last);
    readers =
        law-swap reader_scope (λ k v. refl) widens unnoticed core step a.at a.pass (ReadersCountedIn nodes)
        (λ j. record (bare_view step.number) {
          walk = sym (ap (λ (v : View). v.walk) last) j;
          call = call_at ((at-place step.view.call.task only-places ∙ sym (ap (λ (v : View). task_at_place v.call.task) last)) j);
          rebuild = option_map update_on_readers (sym same-rebuild j);
        }) ReadersCounted-quiet;
  }

  -- no other pass has the node for itself
  pub guarded-widens : KeepsGuards widens core step
  guarded-widens =
      keeps widens core step (Bound node child side) names
      (λ stored seat number view apart found is. (stands-unowned core a.formed nodes a.laws.places a.laws.trees seat number view found is node w.stands, tt))

-- ---- kinds 34 and 35

pub Invariants-widen_low_placing : (index : ℕ) → IsKept (MayWidenLowToPlace index) (widen_low_placing index)
Invariants-widen_low_placing index =
    kept (MayWidenLowToPlace index) (widen_low_placing index)
    (λ core step a asked. Invariants-widens fetch_min index core step a asked.node asked.child asked.side asked.names asked.may (min-wider asked.side (found_by core step) step.first step.second asked.is_low))

pub Invariants-widen_high_placing : (index : ℕ) → IsKept (MayWidenHighToPlace index) (widen_high_placing index)
Invariants-widen_high_placing index =
    kept (MayWidenHighToPlace index) (widen_high_placing index)
    (λ core step a asked. Invariants-widens fetch_max index core step a asked.node asked.child asked.side asked.names asked.may (max-wider asked.side (found_by core step) step.first step.second asked.is_high))

pub GuardsHold-widen_low_placing : (index : ℕ) → IsGuarded (MayWidenLowToPlace index) (widen_low_placing index)
GuardsHold-widen_low_placing index =
    guarded (MayWidenLowToPlace index) (widen_low_placing index)
    (λ core step a asked. guarded-widens fetch_min index core step a asked.node asked.child asked.side asked.names asked.may (min-wider asked.side (found_by core step) step.first step.second asked.is_low))

pub GuardsHold-widen_high_placing : (index : ℕ) → IsGuarded (MayWidenHighToPlace index) (widen_high_placing index)
GuardsHold-widen_high_placing index =
    guarded (MayWidenHighToPlace index) (widen_high_placing index)
    (λ core step a asked. guarded-widens fetch_max index core step a asked.node asked.child asked.side asked.names asked.may (max-wider asked.side (found_by core step) step.first step.second asked.is_high))

-- ---- bounds only widen

pub widen_low_placing-widens : (index : ℕ) (nodes : Nodes) (before after : Core) → Steps (MayWidenLowToPlace index) (widen_low_placing index) before after → BoundsOnlyWiden nodes before after
widen_low_placing-widens index nodes before after steps =
    let step = steps.step in
    let asked = steps.allowed.asked in
    subst (BoundsOnlyWiden nodes before) (sym steps.result)
    (λ n k q stands. side-widens (widen_low_placing index) before step asked.node asked.child asked.side asked.names (min-wider asked.side (found_by before step) step.first step.second asked.is_low).word n k q)

pub widen_high_placing-widens : (index : ℕ) (nodes : Nodes) (before after : Core) → Steps (MayWidenHighToPlace index) (widen_high_placing index) before after → BoundsOnlyWiden nodes before after
widen_high_placing-widens index nodes before after steps =
    let step = steps.step in
    let asked = steps.allowed.asked in
    subst (BoundsOnlyWiden nodes before) (sym steps.result)
    (λ n k q stands. side-widens (widen_high_placing index) before step asked.node asked.child asked.side asked.names (max-wider asked.side (found_by before step) step.first step.second asked.is_high).word n k q)
