-- A step by which an update moves no body: it stores a main word, a slot or the second location of a body, or nothing, and
-- changes what its own update has done. Nodes that stood stand then, be it in a tree of another home. Of locations it is left
-- to be shown what the law says of homes and of the update.
use Rattle.std.proofs.Common.{◌≡◌, ◌≢◌, ◌⊎◌, ℕ, ◌<◌, ◌≤◌, Bool, true, false, List, length, Option, Some, None, option_map, IsSomeAnd, refl, ap, sym, ◌∙◌, subst, inl, inr, arith}
use Rattle.std.specs.Prelude.{Contains, IsNone}
use Rattle.std.proofs.lemmas.Bool.{false≢true}
use Rattle.fixed_box.specs.FixBox.{words_of}
use Rattle.scene_model.specs.declared.body_view.Phase.TheVariants.{Out, Held, In}
use Rattle.scene_model.specs.declared.entry.Made.{Made}
use Rattle.scene_model.specs.Scene.{Scene, Record, record_at}
use Rattle.scene_model.specs.Step.{HasBody}
use Rattle.scene_model.specs.History.{scene_after}
use Rattle.word_map.specs.declared.name.Name.{Name}
use Rattle.word_map.specs.declared.name.Name.TheVariants.{BoxWord, LocA, LocB, Child, Bound, Parent, Main, Slot}
use Rattle.core_state.specs.declared.view.Batch.{Batch}
use Rattle.core_state.specs.declared.view.Call.{Call}
use Rattle.core_state.specs.declared.view.Noted.{Noted}
use Rattle.core_state.specs.declared.view.Rebuild.{Rebuild}
use Rattle.core_state.specs.declared.view.Task.{Task}
use Rattle.core_state.specs.declared.view.Task.TheVariants.{Moving, Placing}
use Rattle.core_state.specs.Core.{Core, word_of, scene_of}
use Rattle.core_state.specs.Kind.{Kind, Step, after_step}
use Rattle.core_state.specs.Encoding.{body_child, place, Sides, sides_of, Covers}
use Rattle.core_state.specs.Nodes.{Nodes, made, Stands, IsLive, IsPublished, Above, here, higher}
use Rattle.core_state.specs.Parts.{call_on_places, update_on_places}
use Rattle.core_state.specs.Scope.{Sight, sight, scene_in, HasPass}
use Rattle.core_state.specs.Updates.{IsNoted, HasUpdate, IsPlacing}
use Rattle.core_state.specs.LocationsHold.{LocationsHold, location_scope, IsLocation, IsAt, Encloses, box_in, IsUnheld, IsRemoved, Removes, IsWhere, IsSecond, IsPlacedNow, ClimbsFrom, IsPlannedAt, IsPublishedAt}
use Rattle.core_state.proofs.Frames.{step-history}
use Rattle.core_state.proofs.Steps.{word-step-other}
use Rattle.core_guard.proofs.Leaving.{Acts, After, Last}
use Rattle.core_guard.proofs.PlacesStay.{PassIsPlaced, EachPlaced, acting, taken-out, pass-placed}
use Rattle.core_guard.proofs.Seats.{seen_of, each-step, flat-step, has-step}
use Rattle.core_update.proofs.OwnUpdate.{has-own, own-each, own-has}

-- the words that such a step may store
abbrev pub is_aside : Name → Bool
is_aside (Main l) = true
is_aside (Slot l t) = true
is_aside (LocB i) = true
is_aside _ = false

-- ways up by the same parent words
pub above-same : (one two : Name → ℕ) → ((m : ℕ) → two (Parent m) ≡ one (Parent m)) → (n k a b : ℕ) → Above one n k a b → Above two n k a b
above-same one two same n k a b (here p q) = here p q
above-same one two same n k a b (higher p q m j c d e below rest) = higher p q m j c d (same n ∙ e) below (above-same one two same m j a b rest)

module _ (kind : Kind) (core : Core) (step : Step) (a : Acts core step) (r after : Rebuild) (later : Nodes) where
  abbrev pub nodes : Nodes
  nodes = a.laws.nodes

  abbrev pub Was : Sight
  Was = sight location_scope core

  abbrev pub Is : Sight
  Is = sight location_scope (After kind core step)

  pub record Unmoved : Type 0 where
    pub update : step.view.rebuild ≡ Some r
    pub rebuild : (Last kind core step).rebuild ≡ Some after
    pub aside : is_aside step.name ≡ true
    pub plain : (value : ℕ) → kind.entry step.view step.name value ≡ None
    pub call : (Last kind core step).call ≡ step.view.call
    pub batches : (Last kind core step).batches ≡ step.view.batches
    pub noted : after.noted ≡ r.noted
    pub second : (i : ℕ) → (word_of (After kind core step) (LocB i) ≡ word_of core (LocB i)) ⊎ (word_of (After kind core step) (LocB i) ≡ 0)
    pub location : (i n k : ℕ) → IsLocation Was i n k → IsLocation Is i n k
    pub stands : (n : ℕ) → Stands (nodes.home n) → Stands (later.home n)
    pub live : (n : ℕ) → IsLive (nodes.home n) → IsLive (later.home n)

  module _ (u : Unmoved) where
    pub word-same : (name : Name) → is_aside name ≡ false → word_of (After kind core step) name ≡ word_of core name
    word-same name other = word-step-other kind core step name (λ same. false≢true (sym other ∙ (ap is_aside same ∙ u.aside)))

    pub scene-same : scene_of (After kind core step) ≡ scene_of core
    scene-same = ap (λ (l : List Made). scene_after core.config.bodies l) (step-history kind core step u.plain)

    -- ---- ways up

    pub above-forth : (n k x y : ℕ) → Above Was.word n k x y → Above Is.word n k x y
    above-forth = above-same Was.word Is.word (λ m. word-same (Parent m) refl)

    pub above-back : (n k x y : ℕ) → Above Is.word n k x y → Above Was.word n k x y
    above-back = above-same Is.word Was.word (λ m. sym (word-same (Parent m) refl))

    encloses : (n k : ℕ) (box : Sides) → Encloses Was n k box → Encloses Is n k box
    encloses n k box h x y up = subst (λ (bound : Sides). Covers bound box) (λ j q. sym (word-same (Bound x y q) refl) j) (h x y (above-back n k x y up))

    -- ---- locations

    location-back : (i n k : ℕ) → IsLocation Is i n k → IsLocation Was i n k
    location-back i n k h = (
      h.0,
      elim (h.1) [
        | inl e ↦ inl (sym (word-same (LocA i) refl) ∙ e)
        | inr e ↦ elim (u.second i) [ inl same ↦ inr (sym same ∙ e) | inr none ↦ absurd (zero-place n k (sym none ∙ e)) ]
      ],
    )
      where
        zero-place : (n k : ℕ) → 0 ≡ place n k → ⊥
        zero-place n k e = absurd (omega arith)

    pub no-second : (i : ℕ) → word_of core (LocB i) ≡ 0 → word_of (After kind core step) (LocB i) ≡ 0
    no-second i none = elim (u.second i) [ inl same ↦ same ∙ none | inr zero ↦ zero ]

    at-forth : (i : ℕ) (b : Record) (n k : ℕ) → IsAt nodes Was i b n k → IsAt later Is i b n k
    at-forth i b n k h = record {
      stands = u.stands n h.stands;
      entry = word-same (Child n k) refl ∙ h.entry;
      bounds = encloses n k (sides_of (words_of b.bounds)) h.bounds;
      box_words = subst (λ (box : Sides). Encloses Is n k box) (λ j q. sym (word-same (BoxWord i q) refl) j) (encloses n k (box_in Was i) h.box_words);
    }

    removed-forth : (i : ℕ) → IsRemoved Was i → IsRemoved Is i
    removed-forth i h = (
      h.0,
      has-step location_scope (λ k v. refl) kind core step a.at a.pass h.0 (λ v. Removes v.call.task i) (λ v. Removes v.call.task i) h.1 (λ seat view apart found own removes. removes)
          (λ same removes. subst (λ (c : Call). Removes (call_on_places c).task i) (sym u.call) removes),
    )

    pub placed_now-forth : (i : ℕ) → IsPlacedNow Was i → IsPlacedNow Is i
    placed_now-forth i h = (
      h.0,
      has-step location_scope (λ k v. refl) kind core step a.at a.pass h.0 (λ v. IsPlacing v.call.task i) (λ v. IsPlacing v.call.task i) h.1 (λ seat view apart found own places. places)
          (λ same places. subst (λ (c : Call). IsPlacing (call_on_places c).task i) (sym u.call) places),
    )

    -- of what the update says of itself and what has not changed
    pub update-forth : (number : ℕ) (P : Rebuild → Type 0) → (P (update_on_places r) → P (update_on_places after)) → HasPass Was number (λ v. HasUpdate v P) → HasPass Is number (λ v. HasUpdate v P)
    update-forth number P more h =
        let t = has-own kind core step a r u.update location_scope (λ k v. refl) update_on_places (λ bare v. refl) number P h in
        subst (λ (q : ℕ). HasPass Is q (λ v. HasUpdate v P)) t.0 (own-has kind core step a r u.update location_scope (λ k v. refl) update_on_places (λ bare v. refl) after u.rebuild P (more t.1))

    -- ---- passes, with an update that noted the same

    module _ (call : Call) (one two : Option Rebuild) (same : (P : List Noted → Type 0) → IsSomeAnd one (λ x. P x.noted) → IsSomeAnd two (λ x. P x.noted)) (back : (P : List Noted → Type 0) → IsSomeAnd two (λ x. P x.noted) → IsSomeAnd one (λ x. P x.noted)) where
      abbrev NotedAt : ℕ → ℕ → ℕ → List Noted → Type 0
      NotedAt i n k noted = (m : Noted) × Contains noted m × (m.index ≡ i) × (m.place ≡ place n k)

      climbs-back : (task : Task) (n k : ℕ) → ClimbsFrom Is (acting call two) task n k → ClimbsFrom Was (acting call one) task n k
      climbs-back (Moving i target) n k h = location-back i n k h
      climbs-back (Placing i) n k h = (h.0, back (NotedAt i n k) h.1)
      climbs-back _ n k h = absurd h

      climbs-forth : (task : Task) (n k : ℕ) → ClimbsFrom Was (acting call one) task n k → ClimbsFrom Is (acting call two) task n k
      climbs-forth (Moving i target) n k h = u.location i n k h
      climbs-forth (Placing i) n k h = (h.0, same (NotedAt i n k) h.1)
      climbs-forth _ n k h = absurd h

      unheld-forth : (task : Task) → IsUnheld Was task → IsUnheld Is task
      unheld-forth (Moving i target) h = subst (λ (scene : Scene). HasBody scene i (λ b. b.phase ≢ Held)) (sym scene-same) h
      unheld-forth (Placing i) h = subst (λ (scene : Scene). HasBody scene i (λ b. b.phase ≢ Held)) (sym scene-same) h
      unheld-forth _ h = tt

      pub pass-forth : PassIsPlaced nodes Was call one → PassIsPlaced later Is call two
      pass-forth p = record {
        removed = λ i removes.
            let h = p.removed i removes in
            record {
              out = subst (λ (scene : Scene). HasBody scene i (λ b. b.phase ≡ Out)) (sym scene-same) h.out;
              cleared = λ n k location.
                  let t = h.cleared n k (location-back i n k location) in
                  (u.stands n t.0, elim (t.1) [ inl e ↦ inl (word-same (Child n k) refl ∙ e) | inr e ↦ inr (word-same (Child n k) refl ∙ e.0, e.1, e.2) ]);
              live = λ n k below e. u.live n (h.live n k below (sym (word-same (LocA i) refl) ∙ e));
            };
        unheld = unheld-forth call.task p.unheld;
        widened = λ i n k box gives stored location. let t = p.widened i n k box gives stored (location-back i n k location) in (t.0, encloses n k box t.1);
        still_wide = λ n k q value stored.
            subst (λ (x : ℕ). (q < 3 → x ≤ value) × (3 ≤ q → value ≤ x)) (sym (word-same (Bound n k q) refl)) (p.still_wide n k q value stored);
        climbs_from = λ n k climbs. u.stands n (p.climbs_from n k (climbs-back call.task n k climbs));
        on_its_way = λ x value loaded.
            let t = p.on_its_way x value loaded in
            let w = t.1 in
            (word-same (Parent x) refl ∙ t.0, (w.0, w.1, w.2, climbs-forth call.task w.0 w.1 w.3, above-forth w.0 w.1 x w.2 w.4));
        widened_on_way = λ x y q value stored. let w = p.widened_on_way x y q value stored in (w.0, w.1, climbs-forth call.task w.0 w.1 w.2, above-forth w.0 w.1 x y w.3);
      }

    passes-later : EachPlaced later Is
    passes-later =
        each-step location_scope (λ k v. refl) kind core step a.at a.pass (λ number v. PassIsPlaced nodes Was v.call v.rebuild) (λ number v. PassIsPlaced later Is v.call v.rebuild) (pass-placed nodes Was a.laws.locations)
        (λ seat number view apart found is p. pass-forth (call_on_places view.call) (option_map update_on_places view.rebuild) (option_map update_on_places view.rebuild) (λ P h. h) (λ P h. h) p)
        (λ p.
        subst (λ (c : Call). PassIsPlaced later Is (call_on_places c) (option_map update_on_places (Last kind core step).rebuild)) (sym u.call)
        (pass-forth (call_on_places step.view.call) (option_map update_on_places step.view.rebuild) (option_map update_on_places (Last kind core step).rebuild)
        (λ P h.
        subst (λ (o : Option Rebuild). IsSomeAnd (option_map update_on_places o) (λ x. P x.noted)) (sym u.rebuild)
        (subst P (sym u.noted) (subst (λ (o : Option Rebuild). IsSomeAnd (option_map update_on_places o) (λ x. P x.noted)) u.update h)))
        (λ P h.
        subst (λ (o : Option Rebuild). IsSomeAnd (option_map update_on_places o) (λ x. P x.noted)) (sym u.update)
        (subst P u.noted (subst (λ (o : Option Rebuild). IsSomeAnd (option_map update_on_places o) (λ x. P x.noted)) u.rebuild h)))
        p))

    -- ---- what is left to be shown

    pub record LocationsGoOn : Type 0 where
      pub entries : (i n k : ℕ) → IsPublished (later.home n) → k < 4 → word_of core (Child n k) ≡ body_child i → IsLocation Was i n k
      pub made : (n number l : ℕ) → later.home n ≡ made number l → nodes.home n ≡ made number l
      pub planned : (noted : Noted) → Contains r.noted noted → after.is_planned ≡ true → length after.swapped ≤ noted.layer
          → IsPlannedAt later Is step.number (seen_of location_scope step.number (Last kind core step)) (update_on_places after) noted
      pub published : (noted : Noted) → Contains r.noted noted → IsPublishedAt later (update_on_places after) noted
      pub first : (i : ℕ) (b : Record) (n k : ℕ) → record_at (scene_of core) i ≡ Some b → b.phase ≡ In → k < 4 → word_of core (LocA i) ≡ place n k → IsWhere nodes Was i b.layer n → IsWhere later Is i b.layer n
      pub second : (i : ℕ) → word_of (After kind core step) (LocB i) ≢ 0 → IsSecond Is i

    pub LocationsHold-unmoved : LocationsGoOn → LocationsHold later (after_step kind core step)
    LocationsHold-unmoved g =
        let h = a.laws.locations in
        let record-same : (i : ℕ) → record_at (scene_in Is) i ≡ record_at (scene_in Was) i = λ i. ap (λ (scene : Scene). record_at scene i) scene-same in
        record {
          at = λ i b n k e inside location. at-forth i b n k (h.at i b n k (sym (record-same i) ∙ e) inside (location-back i n k location));
          entries = λ i n k published below entry. u.location i n k (g.entries i n k published below (sym (word-same (Child n k) refl) ∙ entry));
          made_entries = λ i n k number l home below entry.
              let was = h.made_entries i n k number l (g.made n number l home) below (sym (word-same (Child n k) refl) ∙ entry) in
              update-forth number (λ x. IsNoted x i (λ m. (m.place ≡ place n k) × (m.layer ≡ l)))
              (λ t. subst (λ (noted : List Noted). (m : Noted) × Contains noted m × (m.index ≡ i) × ((m.place ≡ place n k) × (m.layer ≡ l))) (sym u.noted) t) was;
          planned =
              own-each kind core step a r u.update location_scope (λ k v. refl) update_on_places (λ bare v. refl) after u.rebuild
              (λ number v x. (noted : Noted) → Contains x.noted noted → x.is_planned ≡ true → length x.swapped ≤ noted.layer → IsPlannedAt later Is number v x noted)
              (λ noted among. g.planned noted (subst (λ (l : List Noted). Contains l noted) u.noted among));
          published =
              own-each kind core step a r u.update location_scope (λ k v. refl) update_on_places (λ bare v. refl) after u.rebuild (λ number v x. (noted : Noted) → Contains x.noted noted → IsPublishedAt later x noted)
              (λ noted among. g.published noted (subst (λ (l : List Noted). Contains l noted) u.noted among));
          first = λ i b n k e inside below location.
              let was = sym (record-same i) ∙ e in
              let at = sym (word-same (LocA i) refl) ∙ location in
              g.first i b n k was inside below at (h.first i b n k was inside below at);
          located = λ i b e inside none. h.located i b (sym (record-same i) ∙ e) inside (sym (word-same (LocA i) refl) ∙ none);
          second = g.second;
          dead = λ i none.
              let t = h.dead i (subst (λ (o : Option Record). IsNone o) (record-same i) none) in
              (word-same (LocA i) refl ∙ t.0, no-second i t.1);
          out = λ i body left.
              let t = h.out i (subst (λ (scene : Scene). HasBody scene i (λ b. b.phase ≡ Out)) scene-same body) (λ removed. left (removed-forth i removed)) in
              (word-same (LocA i) refl ∙ t.0, no-second i t.1);
          held = λ batch m among marked.
              let t = h.held batch m (subst (λ (l : List Batch). Contains l batch) (flat-step location_scope (λ k v. refl) kind core step a.at a.pass (λ v. v.batches) u.batches) among) marked in
              (elim (t.0) [ inl e ↦ inl (e.0, word-same (LocA m.index) refl ∙ e.1) | inr e ↦ inr (e.0, word-same (LocA m.index) refl ∙ e.1, e.2) ], no-second m.index t.1);
          removed = λ number v among pass i removes. taken-out later Is (acting v.call v.rebuild) v i refl ((passes-later number v among pass).removed i removes);
          unheld = λ number v among pass. (passes-later number v among pass).unheld;
          widened = λ number v among pass. (passes-later number v among pass).widened;
          still_wide = λ number v among pass. (passes-later number v among pass).still_wide;
          climbs_from = λ number v among pass. (passes-later number v among pass).climbs_from;
          on_its_way = λ number v among pass. (passes-later number v among pass).on_its_way;
          widened_on_way = λ number v among pass. (passes-later number v among pass).widened_on_way;
        }
