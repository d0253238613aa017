-- The locations hold once the tree of a word is taken out of sight.
use Rattle.std.proofs.Common.{◌≡◌, ◌≢◌, ℕ, ◌<◌, ◌≤◌, length, Some, true, refl, ap, sym, ◌∙◌, subst, inl, inr, arith}
use Rattle.std.specs.Prelude.{Contains}
use Rattle.scene_model.specs.Scene.{Scene, Record, record_at}
use Rattle.scene_model.specs.Step.{HasBody}
use Rattle.word_map.specs.declared.name.Name.{Name}
use Rattle.word_map.specs.declared.name.Name.TheVariants.{Phase, LocA, LocB, Child, Main, Slot}
use Rattle.core_state.specs.declared.view.Call.{Call}
use Rattle.core_state.specs.declared.view.Noted.{Noted}
use Rattle.core_state.specs.declared.view.Rebuild.{Rebuild}
use Rattle.core_state.specs.Core.{Core, word_of, scene_of}
use Rattle.core_state.specs.Kind.{Kind, Step, after_step}
use Rattle.core_state.specs.Encoding.{body_child, place, layer_of}
use Rattle.core_state.specs.Nodes.{Nodes, Home, made, under, IsPublished}
use Rattle.core_state.specs.Parts.{call_on_places, update_on_places}
use Rattle.core_state.specs.Scope.{Sight, sight}
use Rattle.core_state.specs.Updates.{IsStillMerged, IsDone, IsNoted, IsPlacing}
use Rattle.core_state.specs.LocationsHold.{LocationsHold, location_scope, IsLocation, IsWhere, in_slot, in_main, in_old, in_merged, IsSecond, IsSecondFor, IsPlannedAt, IsPublishedAt}
use Rattle.core_state.proofs.SameNames.{cases_name}
use Rattle.core_guard.proofs.Leaving.{Acts, After, Last, idle-unhandled}
use Rattle.core_guard.proofs.PlacesStay.{seen-task, places-handles}
use Rattle.core_guard.proofs.Seats.{seen_of}
use Rattle.core_update.proofs.OwnUpdate.{each-own, has-own, own-has}
use Rattle.core_update.proofs.Publishing.{Published, Publishes, homes_after, update_after, other-word, unmoved}
use Rattle.core_update.proofs.PublishFacts.{has-place, taken-second, unjoined}
use Rattle.core_update.proofs.Turning.{turn-taken, turn-shown, under-back, made-back, made-forth, under-forth, superseded-forth}
use Rattle.core_update.proofs.Unmoved.{Unmoved, scene-same, placed_now-forth, update-forth, LocationsHold-unmoved}

-- a published home is under some word
pub published_name : (home : Home) → IsPublished home → (name : Name) × (home ≡ under name)
published_name (under name) h = (name, refl)
published_name _ h = absurd h

module _ (kind : Kind) (core : Core) (step : Step) (a : Acts core step) (r : Rebuild) (q : Published) (p : Publishes kind core step a r q) where
  abbrev nodes : Nodes
  nodes = a.laws.nodes

  abbrev later : Nodes
  later = homes_after kind core step a r q

  abbrev after : Rebuild
  after = update_after kind core step a r q

  abbrev Was : Sight
  Was = sight location_scope core

  abbrev Is : Sight
  Is = sight location_scope (After kind core step)

  abbrev x : Name
  x = step.name

  abbrev me : ℕ
  me = step.number

  abbrev u : Unmoved kind core step a r (update_after kind core step a r q) (homes_after kind core step a r q)
  u = unmoved kind core step a r q p

  -- ---- what the update has planned

  own-planned : (noted : Noted) → Contains r.noted noted → r.is_planned ≡ true → length r.swapped ≤ noted.layer → IsPlannedAt nodes Was me (seen_of location_scope me step.view) (update_on_places r) noted
  own-planned =
      each-own kind core step a r p.update location_scope (λ k v. refl) update_on_places (λ bare v. refl)
      (λ number v y. (m : Noted) → Contains y.noted m → y.is_planned ≡ true → length y.swapped ≤ m.layer → IsPlannedAt nodes Was number v y m) a.laws.locations.planned

  -- the entry of a body in the new tree is at its second location
  new-entry : (i n k l : ℕ) → nodes.home n ≡ made me l → k < 4 → word_of core (Child n k) ≡ body_child i → Main l ≡ x → IsLocation Was i n k
  new-entry i n k l home below entry is =
      let m =
      (has-own kind core step a r p.update location_scope (λ k v. refl) update_on_places (λ bare v. refl) me (λ y. IsNoted y i (λ noted. (noted.place ≡ place n k) × (noted.layer ≡ l)))
      (a.laws.locations.made_entries i n k me l home below entry)).1
      in
      let t = has-place kind core step a r q p m.0 m.1 in
      elim (t.home) [
        | inr shown ↦ absurd (p.exchanged m.0.layer shown.1 (ap Main m.3.1 ∙ is))
        | inl fresh ↦
            let h = own-planned m.0 m.1 (p.planned m.0 m.1) fresh.1 in
            let one : h.node ≡ n = let at = h.at in let there = m.3.0 in let low = h.below in omega arith in
            let two : h.child ≡ k = let at = h.at in let there = m.3.0 in let low = h.below in omega arith in
            let stands : word_of core (Child h.node h.child) ≡ body_child m.0.index = ap (λ (y : ℕ). word_of core (Child y h.child)) one ∙ (ap (λ (y : ℕ). word_of core (Child n y)) two ∙ (entry ∙ ap body_child (sym m.2))) in
            let second = h.of_done (done-placed m.0 m.1) stands in
            (below, inr (ap (λ (j : ℕ). word_of core (LocB j)) (sym m.2) ∙ (second ∙ m.3.0)))
      ]
    where
      done-placed : (noted : Noted) → Contains r.noted noted → IsDone (seen_of location_scope me step.view) (update_on_places r) noted.index
      done-placed noted among = elim (p.done noted among) [ inl t ↦ inl (t.0, λ places. t.1 (places-task places)) | inr given ↦ inr given ]
        where
          places-task : IsPlacing (call_on_places step.view.call).task noted.index → IsPlacing step.view.call.task noted.index
          places-task h = seen-task (λ t. IsPlacing t noted.index) (λ t calm y. idle-unhandled t noted.index calm (places-handles t noted.index y)) step.view.call h

  -- ---- where first locations are

  where-forth : (i : ℕ) (b : Record) (n k : ℕ) → record_at (scene_of core) i ≡ Some b → k < 4 → word_of core (LocA i) ≡ place n k → IsWhere nodes Was i b.layer n → IsWhere later Is i b.layer n
  where-forth i b n k live below at (in_slot t e home second) =
      let other : Slot b.layer t ≢ x = λ one. unjoined kind core step a r q p i b t live one e in
      in_slot t (other-word kind core step a r q p (Phase i) refl ∙ e) (under-forth me x (nodes.home n) (Slot b.layer t) other home)
      (elim second [ inl none ↦ inl (other-word kind core step a r q p (LocB i) refl ∙ none) | inr placed ↦ inr (placed_now-forth kind core step a r after later u i placed) ])
  where-forth i b n k live below at (in_main e home second) =
      let phase = other-word kind core step a r q p (Phase i) refl ∙ e in
      let loc_b = other-word kind core step a r q p (LocB i) refl in
      elim (cases_name (Main b.layer) x) [
        | inl one ↦
            let gone = home ∙ ap under one in
            in_old me x phase (λ none. taken-second kind core step a r q p i n k below at gone (sym loc_b ∙ none)) (turn-taken me x (nodes.home n) gone) (ap layer_of (sym one))
        | inr other ↦
            in_main phase (under-forth me x (nodes.home n) (Main b.layer) other home)
            (elim second [
              | inl none ↦ inl (loc_b ∙ none)
              | inr (inl same) ↦ inr (inl (loc_b ∙ (same ∙ sym (other-word kind core step a r q p (LocA i) refl))))
              | inr (inr old) ↦ inr (inr (old.0, update-forth kind core step a r after later u old.0 (λ y. length y.swapped ≤ b.layer) (λ few. p.still_left b.layer few other) old.1))
            ])
      ]
  where-forth i b n k live below at (in_old number name e some home of_layer) =
      in_old number name (other-word kind core step a r q p (Phase i) refl ∙ e) (λ none. some (sym (other-word kind core step a r q p (LocB i) refl) ∙ none)) (superseded-forth me x (nodes.home n) number name home) of_layer
  where-forth i b n k live below at (in_merged number t root e some home has) =
      let phase = other-word kind core step a r q p (Phase i) refl ∙ e in
      let second : word_of (After kind core step) (LocB i) ≢ 0 = λ none. some (sym (other-word kind core step a r q p (LocB i) refl) ∙ none) in
      elim (cases_name (Slot b.layer t) x) [
        | inl one ↦ in_old me x phase second (turn-taken me x (nodes.home n) (home ∙ ap under one)) (ap layer_of (sym one))
        | inr other ↦
            in_merged number t root phase second (under-forth me x (nodes.home n) (Slot b.layer t) other home)
            (update-forth kind core step a r after later u number (λ y. IsStillMerged y b.layer t root) (λ still. p.still_merged b.layer t root still other) has)
      ]

  second-forth : (i : ℕ) → word_of (After kind core step) (LocB i) ≢ 0 → IsSecond Is i
  second-forth i some =
      let loc_b = other-word kind core step a r q p (LocB i) refl in
      let old = a.laws.locations.second i (λ none. some (loc_b ∙ none)) in
      let t = (has-own kind core step a r p.update location_scope (λ k v. refl) update_on_places (λ bare v. refl) old.0 (IsSecondFor Was i) old.1).1 in
      let n = t.3 in
      let scene = scene-same kind core step a r after later u in (
        me,
        own-has kind core step a r p.update location_scope (λ k v. refl) update_on_places (λ bare v. refl) after p.rebuild (IsSecondFor Is i) (
          t.0,
          t.1,
          t.2,
          (n.0, n.1, n.2, (loc_b ∙ n.3.0, subst (λ (y : Scene). HasBody y n.0.index (λ b. (b.generation ≡ n.0.generation) × (b.layer ≡ n.0.layer))) (sym scene) n.3.1)),
        ),
      )

  -- ---- the law

  planned-forth : (noted : Noted) → Contains r.noted noted → r.is_planned ≡ true → length q.swapped ≤ noted.layer
      → IsPlannedAt later Is me (seen_of location_scope me (Last kind core step)) (update_on_places after) noted
  planned-forth noted among planned above =
      let left = p.left noted.layer above in
      let h = own-planned noted among planned left.0 in
      let child = other-word kind core step a r q p (Child h.node h.child) refl in
      let calls = λ (c : Call). IsPlacing (call_on_places c).task noted.index in
      let back : IsDone (seen_of location_scope me (Last kind core step)) (update_on_places after) noted.index → IsDone (seen_of location_scope me step.view) (update_on_places r) noted.index =
      λ done. elim done [ inl t ↦ inl (t.0, λ places. t.1 (subst calls (sym p.call) places)) | inr given ↦ inr given ]
      in
      let forth : IsDone (seen_of location_scope me step.view) (update_on_places r) noted.index → IsDone (seen_of location_scope me (Last kind core step)) (update_on_places after) noted.index =
      λ done. elim done [ inl t ↦ inl (t.0, λ places. t.1 (subst calls p.call places)) | inr given ↦ inr given ]
      in
      record {
        node = h.node;
        child = h.child;
        below = h.below;
        at = h.at;
        made_for = made-forth me x (nodes.home h.node) me noted.layer (λ both. left.1 both.1) h.made_for;
        entry = elim (h.entry) [ inl e ↦ inl (child ∙ e) | inr e ↦ inr (child ∙ e) ];
        undone = λ undone. child ∙ h.undone (λ done. undone (forth done));
        of_done = λ done e. other-word kind core step a r q p (LocB noted.index) refl ∙ h.of_done (back done) (sym child ∙ e);
      }

  published-forth : (noted : Noted) → Contains r.noted noted → IsPublishedAt later (update_on_places after) noted
  published-forth noted among planned below =
      let h = has-place kind core step a r q p noted among in (
        h.node,
        h.child,
        h.below,
        h.at,
        elim (h.home) [
          | inr shown ↦ under-forth me x (nodes.home h.node) (Main noted.layer) (p.exchanged noted.layer shown.1) shown.0
          | inl fresh ↦
              elim (p.now noted.layer below) [
                | inl less ↦ let more = fresh.1 in absurd (omega arith)
                | inr is ↦ turn-shown me x (nodes.home h.node) noted.layer is fresh.0 ∙ ap under (sym is)
              ]
        ],
      )

  pub LocationsHold-published : LocationsHold later (after_step kind core step)
  LocationsHold-published =
      LocationsHold-unmoved kind core step a r after later u
      (record {
        entries = λ i n k published below entry.
            let name = published_name (later.home n) published in
            elim (under-back me x (nodes.home n) name.0 name.1) [
              | inl was ↦ a.laws.locations.entries i n k (subst IsPublished (sym was.0) tt) below entry
              | inr new ↦ new-entry i n k new.1.0 new.1.2 below entry new.1.1
            ];
        made = λ n number l e. made-back me x (nodes.home n) number l e;
        planned = planned-forth;
        published = published-forth;
        first = λ i b n k e inside below at where_it. where-forth i b n k e below at where_it;
        second = second-forth;
      })
