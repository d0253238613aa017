-- The law of locations of two kinds of step that store alike: where it holds after the one it holds after the other, if it is
-- so of the stepping pass.
use Rattle.std.proofs.Common.{◌≡◌, ℕ, ◌≤◌, List, true, length, Contains, Option, refl, sym, subst, inl, inr}
use Rattle.std.specs.Prelude.{IfSome, IsSomeAnd, option_map}
use Rattle.scene_model.specs.Scene.{Record}
use Rattle.word_map.specs.declared.name.Name.{Name}
use Rattle.word_map.specs.declared.name.Name.TheVariants.{Phase}
use Rattle.core_state.specs.declared.view.Batch.{Batch}
use Rattle.core_state.specs.declared.view.Call.{Call}
use Rattle.core_state.specs.declared.view.Noted.{Noted}
use Rattle.core_state.specs.declared.view.Rebuild.{Rebuild}
use Rattle.core_state.specs.declared.view.Task.{Task}
use Rattle.core_state.specs.declared.view.Task.TheVariants.{Moving, Placing}
use Rattle.core_state.specs.declared.view.View.{View}
use Rattle.core_state.specs.Core.{Core}
use Rattle.core_state.specs.Encoding.{place, phase_join}
use Rattle.core_state.specs.Kind.{Kind, Step, view_after, after_step}
use Rattle.core_state.specs.Nodes.{Nodes, made}
use Rattle.core_state.specs.Parts.{call_on_places, update_on_places}
use Rattle.core_state.specs.Scope.{Sight, sight, HasPass}
use Rattle.core_state.specs.Updates.{HasUpdate, IsStillMerged, IsNoted, IsPlacing, IsDone}
use Rattle.core_state.specs.LocationsHold.{LocationsHold, location_scope, IsAt, IsTakenOut, Removes, IsRemoved, IsUnheld, IsPlacedNow, IsUnexchanged, IsWhere, in_slot, in_main, in_old, in_merged, IsSecond, IsSecondFor, IsPlannedAt, IsPublishedAt, ClimbsFrom}
use Rattle.core_guard.proofs.Leaving.{Acts, if_some_map, some_and_map}
use Rattle.core_guard.proofs.PlacesStay.{BodyIsPlaced, PassIsPlaced, EachPlaced, acting, body-placed, pass-placed, taken-out, removes-seen, places-seen}
use Rattle.core_guard.proofs.Seats.{seen_of}
use Rattle.core_state.specs.Bodies.{all_batches}
use Rattle.core_update.proofs.Swapped.{each-swap, has-swap, flat-swap}

-- ---- the same words and history, and other passes

module _ (nodes : Nodes) (s : Sight) (passes : List View) where
  abbrev pub Then : Sight
  Then = record s { passes = passes }

  taken-again : (v : View) (i : ℕ) → IsTakenOut nodes s v i → IsTakenOut nodes Then v i
  taken-again v i h = record { out = h.out; cleared = h.cleared; live = h.live }

  unheld-again : (task : Task) → IsUnheld s task → IsUnheld Then task
  unheld-again (Moving index target) h = h
  unheld-again (Placing index) h = h
  unheld-again _ h = tt

  climbs-again : (view : View) (task : Task) (n k : ℕ) → ClimbsFrom s view task n k → ClimbsFrom Then view task n k
  climbs-again view (Moving index target) n k h = h
  climbs-again view (Placing index) n k h = h
  climbs-again view _ n k h = absurd h

  climbs-before : (view : View) (task : Task) (n k : ℕ) → ClimbsFrom Then view task n k → ClimbsFrom s view task n k
  climbs-before view (Moving index target) n k h = h
  climbs-before view (Placing index) n k h = h
  climbs-before view _ n k h = absurd h

  -- of a pass the law says what it said
  pub pass-again : (c : Call) (r : Option Rebuild) → PassIsPlaced nodes s c r → PassIsPlaced nodes Then c r
  pass-again c r p = record {
    removed = λ i removes. taken-again (acting c r) i (p.removed i removes);
    unheld = unheld-again c.task p.unheld;
    widened = p.widened;
    still_wide = p.still_wide;
    climbs_from = λ n k climbs. p.climbs_from n k (climbs-before (acting c r) c.task n k climbs);
    on_its_way = λ m value read. let t = p.on_its_way m value read in (t.0, (t.1.0, t.1.1, t.1.2, climbs-again (acting c r) c.task t.1.0 t.1.1 t.1.3, t.1.4));
    widened_on_way = λ x y q value stored. let t = p.widened_on_way x y q value stored in (t.0, t.1, climbs-again (acting c r) c.task t.0 t.1 t.2, t.3);
  }

  -- what an update has planned is planned, where it is done with as much
  pub planned-again : (number : ℕ) (v w : View) (r u : Rebuild) (noted : Noted) → (IsDone v r noted.index → IsDone w u noted.index) → (IsDone w u noted.index → IsDone v r noted.index)
      → IsPlannedAt nodes s number v r noted → IsPlannedAt nodes Then number w u noted
  planned-again number v w r u noted forth back h =
      record { node = h.node; child = h.child; below = h.below; at = h.at; made_for = h.made_for; entry = h.entry; undone = λ undone. h.undone (λ done. undone (forth done)); of_done = λ done e. h.of_done (back done) e }

  -- what is to be shown of the passes for a body
  pub record PassesGoOn (i : ℕ) : Type 0 where
    pub second : IsSecond s i → IsSecond Then i
    pub placed : (t : ℕ) → s.word (Phase i) ≡ phase_join t → IsPlacedNow s i → IsPlacedNow Then i
    pub unexchanged : (l : ℕ) → IsUnexchanged s l → IsUnexchanged Then l
    pub merged : (number l t root : ℕ) → HasPass s number (λ v. HasUpdate v (λ r. IsStillMerged r l t root)) → HasPass Then number (λ v. HasUpdate v (λ r. IsStillMerged r l t root))
    pub removed : IsRemoved s i → IsRemoved Then i

  where-again : (i : ℕ) → PassesGoOn i → (layer n : ℕ) → IsWhere nodes s i layer n → IsWhere nodes Then i layer n
  where-again i g layer n (in_slot t e home second) = in_slot t e home (elim second [ inl none ↦ inl none | inr placed ↦ inr (g.placed t e placed) ])
  where-again i g layer n (in_main e home second) =
      in_main e home (elim second [ inl none ↦ inl none | inr u ↦ inr (elim u [ inl same ↦ inl same | inr old ↦ inr (g.unexchanged layer old) ]) ])
  where-again i g layer n (in_old number name e second home of_layer) = in_old number name e second home of_layer
  where-again i g layer n (in_merged number t root e second home has) = in_merged number t root e second home (g.merged number layer t root has)

  pub at-again : (i : ℕ) (r : Record) (n k : ℕ) → IsAt nodes s i r n k → IsAt nodes Then i r n k
  at-again i r n k h = record { stands = h.stands; entry = h.entry; bounds = h.bounds; box_words = h.box_words }

  pub body-again : (i : ℕ) → PassesGoOn i → BodyIsPlaced nodes s i → BodyIsPlaced nodes Then i
  body-again i g h = record {
    at = λ r n k e inside location. at-again i r n k (h.at r n k e inside location);
    first = λ r n k e inside below location. where-again i g r.layer n (h.first r n k e inside below location);
    located = h.located;
    second = λ some. g.second (h.second some);
    dead = h.dead;
    out = λ out left. h.out out (λ removed. left (g.removed removed));
  }

-- ---- after the one step and after the other

module _ (kind : Kind) (leaves : View → Name → ℕ → ℕ → ℕ → View) (core : Core) (step : Step) (a : Acts core step) (nodes : Nodes) where
  abbrev pub One : View
  One = view_after (record kind { leaves = leaves }) core step

  abbrev pub Two : View
  Two = view_after kind core step

  abbrev pub First : Sight
  First = sight location_scope (after_step (record kind { leaves = leaves }) core step)

  abbrev pub Second : Sight
  Second = sight location_scope (after_step kind core step)

  abbrev pub OneUpdate : Option Rebuild
  OneUpdate = option_map update_on_places One.rebuild

  abbrev pub TwoUpdate : Option Rebuild
  TwoUpdate = option_map update_on_places Two.rebuild

  abbrev NotedAt : ℕ → ℕ → ℕ → ℕ → Rebuild → Type 0
  NotedAt i n k l r = IsNoted r i (λ noted. (noted.place ≡ place n k) × (noted.layer ≡ l))

  -- what is to be shown of the stepping pass for other bodies than such as are shown anew
  pub record OwnGoesOn (i : ℕ) : Type 0 where
    pub second : IsSomeAnd OneUpdate (IsSecondFor First i) → IsSomeAnd TwoUpdate (IsSecondFor First i)
    pub placed : (t : ℕ) → First.word (Phase i) ≡ phase_join t → IsPlacing One.call.task i → IsPlacing Two.call.task i
    pub unexchanged : (l : ℕ) → IsSomeAnd OneUpdate (λ r. length r.swapped ≤ l) → IsSomeAnd TwoUpdate (λ r. length r.swapped ≤ l)
    pub merged : (l t root : ℕ) → IsSomeAnd OneUpdate (λ r. IsStillMerged r l t root) → IsSomeAnd TwoUpdate (λ r. IsStillMerged r l t root)
    pub removed : Removes One.call.task i → Removes Two.call.task i

  -- of some update
  pub has-again : (number : ℕ) (P Q : Rebuild → Type 0) → ((r : Rebuild) → P r → Q r) → (IsSomeAnd OneUpdate P → IsSomeAnd TwoUpdate Q) → HasPass First number (λ v. HasUpdate v P) → HasPass Second number (λ v. HasUpdate v Q)
  has-again number P Q more own h =
      has-swap location_scope (λ k v. refl) kind leaves core step a.at a.pass number (λ v. HasUpdate v P) (λ v. HasUpdate v Q) h
      (λ seat view apart found is has. some_and_map (option_map update_on_places view.rebuild) P Q more has) (λ same has. own has)

  pub goes-on : (i : ℕ) → OwnGoesOn i → PassesGoOn nodes First Second.passes i
  goes-on i g = record {
    second = λ h. (h.0, has-again h.0 (IsSecondFor First i) (IsSecondFor Second i) (λ r t. t) g.second h.1);
    placed = λ t e h. (
      h.0,
      has-swap location_scope (λ k v. refl) kind leaves core step a.at a.pass h.0 (λ v. IsPlacing v.call.task i) (λ v. IsPlacing v.call.task i) h.1 (λ seat view apart found is places. places)
          (λ same. places-seen One.call Two.call i (g.placed t e)),
    );
    unexchanged = λ l h. (h.0, has-again h.0 (λ r. length r.swapped ≤ l) (λ r. length r.swapped ≤ l) (λ r t. t) (g.unexchanged l) h.1);
    merged = λ number l t root h. has-again number (λ r. IsStillMerged r l t root) (λ r. IsStillMerged r l t root) (λ r u. u) (g.merged l t root) h;
    removed = λ h. (
      h.0,
      has-swap location_scope (λ k v. refl) kind leaves core step a.at a.pass h.0 (λ v. Removes v.call.task i) (λ v. Removes v.call.task i) h.1 (λ seat view apart found is removes. removes)
          (λ same. removes-seen One.call Two.call i g.removed),
    );
  }

  -- what is to be shown beside
  pub record SwapsPlaces : Type 0 where
    pub batches : Two.batches ≡ One.batches
    pub bodies : (i : ℕ) → OwnGoesOn i
    pub noted : (i n k l : ℕ) → nodes.home n ≡ made step.number l → IsSomeAnd OneUpdate (NotedAt i n k l) → IsSomeAnd TwoUpdate (NotedAt i n k l)
    pub planned : IfSome TwoUpdate (λ r. (noted : Noted) → Contains r.noted noted → r.is_planned ≡ true → length r.swapped ≤ noted.layer → IsPlannedAt nodes Second step.number (seen_of location_scope step.number Two) r noted)
    pub published : IfSome TwoUpdate (λ r. (noted : Noted) → Contains r.noted noted → IsPublishedAt nodes r noted)
    pub own : PassIsPlaced nodes Second (call_on_places Two.call) TwoUpdate

  abbrev Planned : Sight → ℕ → View → Rebuild → Type 0
  Planned s number view r = (noted : Noted) → Contains r.noted noted → r.is_planned ≡ true → length r.swapped ≤ noted.layer → IsPlannedAt nodes s number view r noted

  pub LocationsHold-swap : LocationsHold nodes (after_step (record kind { leaves = leaves }) core step) → SwapsPlaces → LocationsHold nodes (after_step kind core step)
  LocationsHold-swap h g =
      let body : (i : ℕ) → BodyIsPlaced nodes Second i = λ i. body-again nodes First Second.passes i (goes-on i (g.bodies i)) (body-placed nodes First h i) in
      let passes : EachPlaced nodes Second =
      each-swap location_scope (λ k v. refl) kind leaves core step a.at a.pass (λ number v. PassIsPlaced nodes First v.call v.rebuild) (λ number v. PassIsPlaced nodes Second v.call v.rebuild) (pass-placed nodes First h)
      (λ seat number view apart found is p. pass-again nodes First Second.passes (call_on_places view.call) (option_map update_on_places view.rebuild) p) (λ p. g.own)
      in
      record {
        at = λ i. (body i).at;
        entries = h.entries;
        made_entries = λ i n k number l home below entry.
            let old = h.made_entries i n k number l home below entry in
            has-swap location_scope (λ k v. refl) kind leaves core step a.at a.pass number (λ v. HasUpdate v (NotedAt i n k l)) (λ v. HasUpdate v (NotedAt i n k l)) old (λ seat view apart found is has. has)
            (λ same has. g.noted i n k l (subst (λ (p : ℕ). nodes.home n ≡ made p l) (sym same) home) has);
        planned =
            each-swap location_scope (λ k v. refl) kind leaves core step a.at a.pass (λ number v. IfSome v.rebuild (λ r. Planned First number v r)) (λ number v. IfSome v.rebuild (λ r. Planned Second number v r)) h.planned
            (λ seat number view apart found is old.
            if_some_map (option_map update_on_places view.rebuild) (λ r. Planned First number (seen_of location_scope number view) r) (λ r. Planned Second number (seen_of location_scope number view) r)
            (λ r planned noted among is_planned from.
            planned-again nodes First Second.passes number (seen_of location_scope number view) (seen_of location_scope number view) r r noted (λ x. x) (λ x. x) (planned noted among is_planned from)) old)
            (λ old. g.planned);
        published =
            each-swap location_scope (λ k v. refl) kind leaves core step a.at a.pass (λ number v. IfSome v.rebuild (λ r. (noted : Noted) → Contains r.noted noted → IsPublishedAt nodes r noted))
            (λ number v. IfSome v.rebuild (λ r. (noted : Noted) → Contains r.noted noted → IsPublishedAt nodes r noted)) h.published (λ seat number view apart found is old. old) (λ old. g.published);
        first = λ i. (body i).first;
        located = λ i. (body i).located;
        second = λ i. (body i).second;
        dead = λ i. (body i).dead;
        out = λ i. (body i).out;
        removed = λ number v among pass i removes. taken-out nodes Second (acting v.call v.rebuild) v i refl ((passes number v among pass).removed i removes);
        held = λ batch m among marked. h.held batch m (subst (λ (l : List Batch). Contains l batch) batches-same among) marked;
        unheld = λ number v among pass. (passes number v among pass).unheld;
        widened = λ number v among pass. (passes number v among pass).widened;
        still_wide = λ number v among pass. (passes number v among pass).still_wide;
        climbs_from = λ number v among pass. (passes number v among pass).climbs_from;
        on_its_way = λ number v among pass. (passes number v among pass).on_its_way;
        widened_on_way = λ number v among pass. (passes number v among pass).widened_on_way;
      }
    where
      batches-same : all_batches Second ≡ all_batches First
      batches-same = flat-swap location_scope (λ k v. refl) kind leaves core step a.at a.pass (λ v. v.batches) g.batches
