-- The locations hold after a step of which it is shown only what they say of the bodies, the nodes and the pass that it
-- touches.
use Rattle.std.proofs.Common.{None, Some, IfSome, ◌≡◌, ◌≢◌, ◌↔◌, ℕ, ◌<◌, ◌≤◌, true, Option, refl, ap, sym, ◌∙◌, subst, inl, inr, arith, List}
use Rattle.std.specs.Prelude.{Contains, length, option_map}
use Rattle.word_map.specs.declared.name.Name.TheVariants.{LocA, LocB, Child}
use Rattle.core_state.specs.declared.view.Marked.{Marked}
use Rattle.core_state.specs.declared.view.Batch.{Batch}
use Rattle.core_state.specs.declared.view.Call.{Call}
use Rattle.core_state.specs.declared.view.Noted.{Noted}
use Rattle.core_state.specs.declared.view.Rebuild.{Rebuild}
use Rattle.core_state.specs.declared.view.View.{View}
use Rattle.core_state.specs.View.{IsPass}
use Rattle.core_state.specs.Core.{Core, word_of, IsViewAt}
use Rattle.core_state.specs.Kind.{Kind, Step, after_step}
use Rattle.core_state.specs.Encoding.{body_child, place, sides_of}
use Rattle.core_state.specs.Parts.{call_on_places, update_on_places}
use Rattle.core_state.specs.Nodes.{Nodes, made, Stands, IsInTree, IsPublished}
use Rattle.core_state.specs.Scope.{Sight, sight, HasPass, scene_in}
use Rattle.core_state.specs.Updates.{EachUpdate, IsDone, HasUpdate, IsNoted, IsPlacing}
use Rattle.core_state.specs.Bodies.{all_batches}
use Rattle.core_state.specs.LocationsHold.{LocationsHold, location_scope, IsLocation, IsPlannedIn, IsPlannedAt, IsPublishedAt, Encloses, box_in}
use Rattle.core_guard.proofs.PlacesStay.{HasDone, BodyIsPlaced, PassIsPlaced, EachPlaced, acting, taken-out, body-placed, pass-placed, places-handles, handled-seen, places-seen, placed-forth, apart-placed, apart-nowhere, location-forth, pass-forth, planned-forth, published-forth, update-forth, stays-enclosed}
use Rattle.core_guard.proofs.Seats.{seen_of, each-step, flat-step}
use Rattle.core_guard.proofs.Leaving.{Acts, IsHandled, idle-places, published-stands, After, Last, Stays, IsApart, Leaves, Touches, home-back, each_update, stands-in_tree, IsCleared, child-back}
use Rattle.core_guard.proofs.InPlace.{InPlace, stays-in_place}
use Rattle.fixed_box.specs.FixBox.{words_of}
use Rattle.scene_model.specs.declared.body_view.Phase.TheVariants.{In}
use Rattle.scene_model.specs.Scene.{Record, record_at}

-- ---- what is to be shown

module _ (kind : Kind) (core : Core) (step : Step) where
  abbrev Old : Sight
  Old = sight location_scope core

  abbrev Now : Sight
  Now = sight location_scope (After kind core step)

  -- the update of the pass, as the law reads it
  abbrev pub SeenUpdate : Option Rebuild
  SeenUpdate = option_map update_on_places step.view.rebuild

  -- a body of which it is shown anew: no other pass handles it, its entries that stand are where they were, and an update
  -- plans it as before
  pub record IsAnew (nodes later : Nodes) (i : ℕ) : Type 0 where
    pub placed : BodyIsPlaced later Now i
    pub alone : (seat number : ℕ) (view : View) → seat ≢ step.seat → IsViewAt core seat view → IsPass view number → ¬ IsHandled view.call.task i
    pub entry : (n k : ℕ) → IsPublished (nodes.home n) → k < 4 → word_of core (Child n k) ≡ body_child i → IsLocation Old i n k → IsLocation Now i n k
    pub second : (n k : ℕ) → Stands (nodes.home n) → k < 4 → word_of core (Child n k) ≡ body_child i → word_of core (LocB i) ≡ place n k → word_of (After kind core step) (LocB i) ≡ place n k
    pub places : IsPlacing step.view.call.task i ↔ IsPlacing (Last kind core step).call.task i

  -- what becomes of a body
  pub data BodyLeft (nodes later : Nodes) (i : ℕ) : Type 0 where
    body_stays : Stays kind core step i → BodyLeft nodes later i
    body_apart : IsApart kind core step nodes i → BodyLeft nodes later i
    body_anew : IsAnew nodes later i → BodyLeft nodes later i
    body_in_place : InPlace kind core step i → ((r : Record) (n k : ℕ) → record_at (scene_in Now) i ≡ Some r → r.phase ≡ In → IsLocation Now i n k → Encloses Now n k (sides_of (words_of r.bounds)) × Encloses Now n k (box_in Now i))
        → BodyLeft nodes later i

  -- the pass of which it is shown anew, or that is in the middle of what it was in the middle of, with bodies that stay
  pub data PassLeft (later : Nodes) : Type 0 where
    pass_anew : PassIsPlaced later Now (call_on_places (Last kind core step).call) SeenUpdate → PassLeft later
    pass_stays : call_on_places (Last kind core step).call ≡ call_on_places step.view.call
        → ((i : ℕ) → IsHandled (call_on_places step.view.call).task i → Stays kind core step i) → PassLeft later

  -- all that is to be shown
  pub record LeavesPlaces (nodes later : Nodes) (New : ℕ → Type 0) : Type 0 where
    pub bodies : (i : ℕ) → BodyLeft nodes later i
    pub own : PassLeft later
    -- the entries of new nodes are at locations, or planned
    pub entries : (i n k : ℕ) → New n → IsPublished (later.home n) → k < 4 → word_of (After kind core step) (Child n k) ≡ body_child i → IsLocation Now i n k
    pub made_entries : (i n k number l : ℕ) → New n → later.home n ≡ made number l → k < 4 → word_of (After kind core step) (Child n k) ≡ body_child i
        → HasPass Now number (λ view. HasUpdate view (λ r. IsNoted r i (λ noted. (noted.place ≡ place n k) × (noted.layer ≡ l))))
    -- batches say where their bodies are
    pub held : (batch : Batch) (marked : Marked) → Contains (all_batches Now) batch → Contains batch.marked marked → IsPlannedIn Now batch marked × (word_of (After kind core step) (LocB marked.index) ≡ 0)

-- ---- the law

module _ (kind : Kind) (core : Core) (step : Step) (a : Acts core step) (later : Nodes) (New : ℕ → Type 0) (m : Leaves kind core step a.laws.nodes later New) where
  abbrev nodes : Nodes
  nodes = a.laws.nodes

  abbrev Was : Sight
  Was = sight location_scope core

  abbrev Is : Sight
  Is = sight location_scope (After kind core step)

  -- a body that is shown anew, and whose location words are as they were
  pub anew-in-place : (i : ℕ) → BodyIsPlaced later Is i
      → ((seat number : ℕ) (view : View) → seat ≢ step.seat → IsViewAt core seat view → IsPass view number → ¬ IsHandled view.call.task i)
      → word_of (After kind core step) (LocA i) ≡ word_of core (LocA i) → word_of (After kind core step) (LocB i) ≡ word_of core (LocB i)
      → (IsPlacing step.view.call.task i ↔ IsPlacing (Last kind core step).call.task i) → IsAnew kind core step nodes later i
  anew-in-place i placed alone loc_a loc_b placing = record {
    placed = placed;
    alone = alone;
    entry = λ n k published below entry location. (location.0, elim (location.1) [ inl e ↦ inl (loc_a ∙ e) | inr e ↦ inr (loc_b ∙ e) ]);
    second = λ n k stands below entry e. loc_b ∙ e;
    places = placing;
  }

  abbrev NotedAt : ℕ → ℕ → ℕ → ℕ → Rebuild → Type 0
  NotedAt i n k l r = IsNoted r i (λ noted. (noted.place ≡ place n k) × (noted.layer ≡ l))

  module _ (shown : LeavesPlaces kind core step nodes later New) where
    places : LocationsHold nodes core
    places = a.laws.locations

    body-later : (i : ℕ) → BodyIsPlaced later Is i
    body-later i = go (shown.bodies i)
      where
        go : BodyLeft kind core step nodes later i → BodyIsPlaced later Is i
        go (body_stays b) =
            let old = body-placed nodes Was places i in
            placed-forth kind core step a later New m i (stays-in_place kind core step i b) old (stays-enclosed kind core step a later New m i b old)
        go (body_apart b) = apart-placed kind core step a later New m i b
        go (body_anew b) = b.placed
        go (body_in_place b enclosed) = placed-forth kind core step a later New m i b (body-placed nodes Was places i) enclosed

    location-kept : (i n k : ℕ) → IsPublished (nodes.home n) → Was.word (Child n k) ≡ body_child i → IsLocation Was i n k → IsLocation Is i n k
    location-kept i n k published entry h = go (shown.bodies i)
      where
        go : BodyLeft kind core step nodes later i → IsLocation Is i n k
        go (body_stays b) = location-forth kind core step a later New m i (stays-in_place kind core step i b) n k h
        go (body_apart b) = absurd (apart-nowhere kind core step a later New m i b n k (stands-in_tree (nodes.home n) (published-stands (nodes.home n) published)) h)
        go (body_anew b) = b.entry n k published h.0 entry h
        go (body_in_place b enclosed) = location-forth kind core step a later New m i b n k h

    second-kept : (i n k : ℕ) → Stands (nodes.home n) → k < 4 → Was.word (Child n k) ≡ body_child i → Was.word (LocB i) ≡ place n k → Is.word (LocB i) ≡ place n k
    second-kept i n k stands below entry e = go (shown.bodies i)
      where
        go : BodyLeft kind core step nodes later i → Is.word (LocB i) ≡ place n k
        go (body_stays b) = b.loc_b ∙ e
        go (body_apart b) = let none = b.second in absurd (omega arith)
        go (body_anew b) = b.second n k stands below entry e
        go (body_in_place b enclosed) = b.loc_b ∙ e

    -- what others handle stays
    stays-handled : (seat number : ℕ) (view : View) → seat ≢ step.seat → IsViewAt core seat view → IsPass view number → (i : ℕ) → IsHandled view.call.task i → InPlace kind core step i
    stays-handled seat number view apart found is i handled = go (shown.bodies i)
      where
        go : BodyLeft kind core step nodes later i → InPlace kind core step i
        go (body_stays b) = stays-in_place kind core step i b
        go (body_apart b) = absurd (b.alone seat number view found is handled)
        go (body_anew b) = absurd (b.alone seat number view apart found is handled)
        go (body_in_place b enclosed) = b

    own-later : PassIsPlaced nodes Was (call_on_places step.view.call) (option_map update_on_places step.view.rebuild) → PassIsPlaced later Is (call_on_places (Last kind core step).call) (option_map update_on_places (Last kind core step).rebuild)
    own-later p =
        subst (λ (o : Option Rebuild). PassIsPlaced later Is (call_on_places (Last kind core step).call) (option_map update_on_places o)) (sym m.rebuild) (go shown.own)
      where
        go : PassLeft kind core step later → PassIsPlaced later Is (call_on_places (Last kind core step).call) (option_map update_on_places step.view.rebuild)
        go (pass_anew own) = own
        go (pass_stays same stay) =
            subst (λ (c : Call). PassIsPlaced later Is c (option_map update_on_places step.view.rebuild)) (sym same)
            (pass-forth kind core step a later New m (option_map update_on_places step.view.rebuild) (call_on_places step.view.call)
            (λ i handled. stays-in_place kind core step i (stay i handled)) p)

    passes-later : EachPlaced later Is
    passes-later =
        each-step location_scope (λ k v. refl) kind core step a.at a.pass (λ number v. PassIsPlaced nodes Was v.call v.rebuild) (λ number v. PassIsPlaced later Is v.call v.rebuild) (pass-placed nodes Was places)
        (λ seat number view apart found is p.
        pass-forth kind core step a later New m (option_map update_on_places view.rebuild) (call_on_places view.call)
        (λ i handled. stays-handled seat number view apart found is i (handled-seen view.call i handled)) p)
        own-later

    -- the pass places what it placed, unless it is shown anew
    planned-own : (r : Rebuild) (noted : Noted) → option_map update_on_places step.view.rebuild ≡ Some r → Contains r.noted noted
        → HasDone kind core step a later New m step.number (seen_of location_scope step.number step.view) r noted → IsPlannedAt nodes Was step.number (seen_of location_scope step.number step.view) r noted
        → IsPlannedAt later Is step.number (seen_of location_scope step.number (Last kind core step)) r noted
    planned-own r noted some among finished h = go (shown.bodies noted.index)
      where
        one : Call
        one = step.view.call

        other : Call
        other = (Last kind core step).call

        forth : IsPlacing one.task noted.index ↔ IsPlacing other.task noted.index → IsPlannedAt later Is step.number (seen_of location_scope step.number (Last kind core step)) r noted
        forth t =
            planned-forth kind core step a later New m step.number (seen_of location_scope step.number step.view) (seen_of location_scope step.number (Last kind core step)) r noted
            (places-seen one other noted.index t.0, places-seen other one noted.index t.1) (second-kept noted.index) finished h

        go : BodyLeft kind core step nodes later noted.index → IsPlannedAt later Is step.number (seen_of location_scope step.number (Last kind core step)) r noted
        go (body_stays b) = forth b.places
        go (body_in_place b enclosed) = forth b.places
        go (body_apart b) =
            forth (
              λ places. absurd (b.alone step.seat step.number step.view a.at a.pass (places-handles one.task noted.index places)),
              λ places. absurd (b.alone_after (places-handles other.task noted.index places)),
            )
        go (body_anew b) = forth b.places

    -- what an update says of its notes, and that it has done with those whose entry is cleared
    abbrev Plans : ℕ → View → Rebuild → Noted → Type 0
    Plans number view r noted = (r.is_planned ≡ true → length r.swapped ≤ noted.layer → IsPlannedAt nodes Was number view r noted) × HasDone kind core step a later New m number view r noted

    plans : EachUpdate Was (λ number view r. (noted : Noted) → Contains r.noted noted → Plans number view r noted)
    plans number view among pass = go view.rebuild (places.planned number view among pass) (λ n k c. c.done number view among pass)
      where
        go : (o : Option Rebuild) → IfSome o (λ r. (noted : Noted) → Contains r.noted noted → r.is_planned ≡ true → length r.swapped ≤ noted.layer → IsPlannedAt nodes Was number view r noted)
            → ((n k : ℕ) (c : IsCleared kind core step nodes n k) → IfSome o (λ r. (noted : Noted) → Contains r.noted noted → noted.index ≡ c.index → noted.place ≡ place n k → nodes.home n ≡ made number noted.layer → IsDone view r c.index))
            → IfSome o (λ r. (noted : Noted) → Contains r.noted noted → Plans number view r noted)
        go None planned done = tt
        go (Some r) planned done = λ noted among. (planned noted among, λ n k c one at home. subst (IsDone view r) (sym one) (done n k c noted among one at home))

    pub LocationsHold-leaves : LocationsHold later (After kind core step)
    LocationsHold-leaves = record {
      at = λ i. (body-later i).at;
      first = λ i. (body-later i).first;
      located = λ i. (body-later i).located;
      second = λ i. (body-later i).second;
      dead = λ i. (body-later i).dead;
      out = λ i. (body-later i).out;
      entries = λ i n k published below entry.
          elim (m.stood n (stands-in_tree (later.home n) (published-stands (later.home n) published))) [
            | inl same ↦
                let old : IsPublished (nodes.home n) = subst IsPublished same published in
                let was = child-back kind core step a nodes later New m n k (body_child i) (stands-in_tree (nodes.home n) (published-stands (nodes.home n) old)) (omega arith) entry in
                location-kept i n k old was (places.entries i n k old below was)
            | inr new ↦ shown.entries i n k new published below entry
          ];
      made_entries = λ i n k number l home below entry.
          elim (home-back kind core step a nodes later New m n (made number l) tt home) [
            | inl old ↦
                update-forth kind core step a later New m number (NotedAt i n k l) (NotedAt i n k l) (λ r e. e)
                (places.made_entries i n k number l old below (child-back kind core step a nodes later New m n k (body_child i) (subst IsInTree (sym old) tt) (omega arith) entry))
            | inr new ↦ shown.made_entries i n k number l new home below entry
          ];
      planned =
          each_update kind core step a nodes later New m location_scope (λ k v. refl) update_on_places (λ bare v. refl)
          (λ number view r. (noted : Noted) → Contains r.noted noted → Plans number view r noted)
          (λ number view r. (noted : Noted) → Contains r.noted noted → r.is_planned ≡ true → length r.swapped ≤ noted.layer → IsPlannedAt later Is number view r noted) plans
          (λ number view r h noted among made swapped.
          planned-forth kind core step a later New m number _ _ r noted (λ t. t, λ t. t) (second-kept noted.index) (h noted among).1 ((h noted among).0 made swapped))
          (λ r some h noted among made swapped. planned-own r noted some among (h noted among).1 ((h noted among).0 made swapped));
      published =
          each_update kind core step a nodes later New m location_scope (λ k v. refl) update_on_places (λ bare v. refl)
          (λ number view r. (noted : Noted) → Contains r.noted noted → IsPublishedAt nodes r noted)
          (λ number view r. (noted : Noted) → Contains r.noted noted → IsPublishedAt later r noted) places.published
          (λ number view r published noted among. published-forth kind core step a later New m r noted (published noted among))
          (λ r some published noted among. published-forth kind core step a later New m r noted (published noted among));
      held = shown.held;
      removed = λ number v among pass i removes. taken-out later Is (acting v.call v.rebuild) v i refl ((passes-later number v among pass).removed i removes);
      unheld = λ number v among pass. (passes-later number v among pass).unheld;
      widened = λ number v among pass. (passes-later number v among pass).widened;
      still_wide = λ number v among pass. (passes-later number v among pass).still_wide;
      climbs_from = λ number v among pass. (passes-later number v among pass).climbs_from;
      on_its_way = λ number v among pass. (passes-later number v among pass).on_its_way;
      widened_on_way = λ number v among pass. (passes-later number v among pass).widened_on_way;
    }

-- ---- a step that touches no place

pub LocationsHold-touches : (kind : Kind) (core : Core) (step : Step) (a : Acts core step) (later : Nodes) → Touches kind core step a.laws.nodes later → LocationsHold later (after_step kind core step)
LocationsHold-touches kind core step a later t = LocationsHold-leaves kind core step a later (λ n. ⊥) t.leaves (record {
  bodies = λ i. elim (t.bodies i) [ inl b ↦ body_stays b | inr b ↦ body_apart b ];
  own = elim (t.call) [ inl same ↦ pass_stays (ap call_on_places same) own-stays | inr calm ↦ pass_stays (idle-places _ calm.1 ∙ sym (idle-places _ calm.0)) own-stays ];
  entries = λ i n k new. absurd new;
  made_entries = λ i n k number l new. absurd new;
  held = t.held;
})
  where
    own-stays : (i : ℕ) → IsHandled (call_on_places step.view.call).task i → Stays kind core step i
    own-stays i handled =
        elim (t.bodies i) [
          | inl b ↦ b
          | inr b ↦ absurd (b.alone step.seat step.number step.view a.at a.pass (handled-seen step.view.call i handled))
        ]

-- ---- a step after which all bodies stand as they stood

pub LocationsHold-stays : (kind : Kind) (core : Core) (step : Step) (a : Acts core step) → Leaves kind core step a.laws.nodes a.laws.nodes (λ n. ⊥) → ((i : ℕ) → Stays kind core step i) → (Last kind core step).batches ≡ step.view.batches
    → PassIsPlaced a.laws.nodes (sight location_scope (After kind core step)) (call_on_places (Last kind core step).call) (SeenUpdate kind core step) → LocationsHold a.laws.nodes (after_step kind core step)
LocationsHold-stays kind core step a m stays batches own = LocationsHold-leaves kind core step a a.laws.nodes (λ n. ⊥) m (record {
  bodies = λ i. body_stays (stays i);
  own = pass_anew own;
  entries = λ i n k new. absurd new;
  made_entries = λ i n k number l new. absurd new;
  held = λ batch m among marked.
      let same = flat-step location_scope (λ k v. refl) kind core step a.at a.pass (λ view. view.batches) batches in
      let old = a.laws.locations.held batch m (subst (λ (l : List Batch). Contains l batch) same among) marked in
      let b = stays m.index in
      (elim (old.0) [ inl t ↦ inl (t.0, b.loc_a ∙ t.1) | inr t ↦ inr (t.0, b.loc_a ∙ t.1, t.2) ], b.loc_b ∙ old.1);
})
