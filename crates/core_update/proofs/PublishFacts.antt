-- What is known of bodies when an update takes a tree out of sight: each one whose first location is in it has a second
-- location, no phase names its slot, and a second location is a place in a new tree.
use Rattle.std.proofs.Common.{◌≡◌, ◌≢◌, ◌⊎◌, ℕ, ◌<◌, ◌≤◌, length, Option, Some, None, true, refl, sym, subst, inl, inr, arith}
use Rattle.std.specs.Prelude.{Contains, IsNone}
use Rattle.std.proofs.lemmas.Bool.{cases_lt}
use Rattle.scene_model.specs.Scene.{Record, record_at}
use Rattle.scene_model.specs.Step.{HasBody}
use Rattle.word_map.specs.declared.name.Name.{Name}
use Rattle.word_map.specs.declared.name.Name.TheVariants.{Phase, LocA, LocB, Main, Slot}
use Rattle.core_state.specs.declared.view.Noted.{Noted}
use Rattle.core_state.specs.declared.view.Rebuild.{Rebuild}
use Rattle.core_state.specs.declared.view.Task.{Task}
use Rattle.core_state.specs.declared.view.Task.TheVariants.{Placing}
use Rattle.core_state.specs.declared.view.View.{View}
use Rattle.core_state.specs.Log.{history}
use Rattle.core_state.specs.Core.{Core, word_of, scene_of}
use Rattle.core_state.specs.Kind.{Kind, Step}
use Rattle.core_state.specs.Encoding.{place, phase_join}
use Rattle.core_state.specs.Nodes.{Nodes, Home, made, under}
use Rattle.core_state.specs.Parts.{update_on_cover, update_on_places, task_on_cover}
use Rattle.core_state.specs.Scope.{Sight, sight}
use Rattle.core_state.specs.Updates.{IsOldTree, IsStillMerged, IsDone, IsNoted, IsPlacing}
use Rattle.core_state.specs.LocationsHold.{location_scope, IsSecondFor, IsPlannedAt, IsPublishedAt}
use Rattle.core_state.specs.BodiesCovered.{cover_scope, IsInOldTree, NotesHold}
use Rattle.core_state.proofs.Beginning.{record_body}
use Rattle.core_guard.proofs.Leaving.{Acts}
use Rattle.core_guard.proofs.ListsAgree.{scene_consistent}
use Rattle.core_guard.proofs.Scenes.{record_live, live_below, bodies-after}
use Rattle.core_guard.proofs.Seats.{seen_of}
use Rattle.core_update.proofs.OwnUpdate.{each-own, has-own}
use Rattle.core_update.proofs.Publishing.{Published, Publishes}

-- an old tree, as the law of cover reads it
pub old-seen : (r : Rebuild) (home : Home) → IsOldTree r home → IsOldTree (update_on_cover r) home
old-seen r (under (Main l)) h = h
old-seen r (under (Slot l t)) h = h
old-seen r (under _) h = absurd h
old-seen r _ h = absurd h

-- who places a body, as the law reads the task, places it
places-was : (task : Task) (i : ℕ) → IsPlacing (task_on_cover task) i → IsPlacing task i
places-was (Placing index) i h = h
places-was _ i h = absurd h

module _ (kind : Kind) (core : Core) (step : Step) (a : Acts core step) (r : Rebuild) (q : Published) (p : Publishes kind core step a r q) where
  abbrev nodes : Nodes
  nodes = a.laws.nodes

  abbrev Seen : Sight
  Seen = sight cover_scope core

  abbrev Was : Sight
  Was = sight location_scope core

  abbrev mine : View
  mine = seen_of cover_scope step.number step.view

  -- the update has done with each body that it noted, as the law reads it
  pub done-seen : (n : Noted) → Contains r.noted n → IsDone mine (update_on_cover r) n.index
  done-seen n among = elim (p.done n among) [ inl t ↦ inl (t.0, λ places. t.1 (places-was step.view.call.task n.index places)) | inr given ↦ inr given ]

  -- a body with a location is one of the world
  pub below-bodies : (i n k : ℕ) → word_of core (LocA i) ≡ place n k → i < core.config.bodies
  below-bodies i n k e = go (record_at (scene_of core) i) refl
    where
      go : (o : Option Record) → record_at (scene_of core) i ≡ o → i < core.config.bodies
      go None none = let t = (a.laws.locations.dead i (subst (λ (o : Option Record). IsNone o) (sym none) refl)).0 in absurd (omega arith)
      go (Some b) is =
          let low = live_below core.config.layers (scene_of core) i (scene_consistent core a.laws.bodies) (record_live (record_at (scene_of core) i) b is) in
          subst (λ (m : ℕ). i < m) (bodies-after core.config.bodies (history core.log)) low

  notes : NotesHold nodes Seen mine (update_on_cover r)
  notes = each-own kind core step a r p.update cover_scope (λ k v. refl) update_on_cover (λ bare v. refl) (λ number v y. NotesHold nodes Seen v y) a.laws.cover.notes

  -- what is planned has a place: in the new tree of its layer, or in the main tree once that is published
  pub record HasPlace (noted : Noted) : Type 0 where
    pub node : ℕ
    pub child : ℕ
    pub below : child < 4
    pub at : noted.place ≡ place node child
    pub home : ((nodes.home node ≡ made step.number noted.layer) × (length r.swapped ≤ noted.layer)) ⊎ ((nodes.home node ≡ under (Main noted.layer)) × (noted.layer < length r.swapped))

  pub has-place : (noted : Noted) → Contains r.noted noted → HasPlace noted
  has-place noted among =
      let planned = p.planned noted among in
      elim (cases_lt noted.layer (length r.swapped)) [
        | inl below ↦
            let t =
            each-own kind core step a r p.update location_scope (λ k v. refl) update_on_places (λ bare v. refl) (λ number v y. (m : Noted) → Contains y.noted m → IsPublishedAt nodes y m)
            a.laws.locations.published noted among planned below
            in
            record { node = t.0; child = t.1; below = t.2; at = t.3; home = inr (t.4, below) }
        | inr above ↦
            let t =
            each-own kind core step a r p.update location_scope (λ k v. refl) update_on_places (λ bare v. refl)
            (λ number v y. (m : Noted) → Contains y.noted m → y.is_planned ≡ true → length y.swapped ≤ m.layer → IsPlannedAt nodes Was number v y m) a.laws.locations.planned noted among planned above
            in
            record { node = t.node; child = t.child; below = t.below; at = t.at; home = inl (t.made_for, above) }
      ]

  -- a body whose first location is in a tree that is to be replaced has a second one
  pub old-second : (i : ℕ) → IsInOldTree nodes Seen (update_on_cover r) i → word_of core (LocB i) ≢ 0
  old-second i tree none =
      let undone : ¬ IsDone mine (update_on_cover r) i =
      λ done. elim done [
        | inl t ↦
            let n = notes.placed i t.0 tree in
            let at = (has-place n.0 n.1).at in
            let second = n.3 in
            absurd (omega arith)
        | inr given ↦ notes.given_up i given tree
      ]
      in
      let below = below-bodies i tree.0 tree.1 tree.3 in
      let all = p.all_bodies in
      let n = notes.all_noted i (omega arith, undone) tree in
      undone (subst (IsDone mine (update_on_cover r)) n.2 (done-seen n.0 n.1))

  -- so has one whose first location is in the tree of the word
  pub taken-second : (i n k : ℕ) → k < 4 → word_of core (LocA i) ≡ place n k → nodes.home n ≡ under step.name → word_of core (LocB i) ≢ 0
  taken-second i n k below at home = old-second i (n, k, below, at, subst (IsOldTree (update_on_cover r)) (sym home) (old-seen r (under step.name) p.old))

  -- no body is in the tree of its slot
  pub unjoined : (i : ℕ) (b : Record) (t : ℕ) → record_at (scene_of core) i ≡ Some b → Slot b.layer t ≡ step.name → word_of core (Phase i) ≢ phase_join t
  unjoined i b t live slot joins =
      let still : IsOldTree r (under (Slot b.layer t)) = subst (λ (name : Name). IsOldTree r (under name)) (sym slot) p.old in
      let low = live_below core.config.layers (scene_of core) i (scene_consistent core a.laws.bodies) (record_live (record_at (scene_of core) i) b live) in
      let below : i < core.config.bodies = subst (λ (m : ℕ). i < m) (bodies-after core.config.bodies (history core.log)) low in
      let all = p.all_bodies in
      let n =
      each-own kind core step a r p.update cover_scope (λ k v. refl) update_on_cover (λ bare v. refl)
      (λ number v y. (j l t root : ℕ) → j < y.passed → IsStillMerged y l t root → HasBody (scene_of core) j (λ x. x.layer ≡ l) → word_of core (Phase j) ≡ phase_join t → IsNoted y j (λ n. ¬ IsDone v y j))
      a.laws.cover.to_place i b.layer t still.0 (omega arith) still.1 (record_body (record_at (scene_of core) i) (λ x. x.layer ≡ b.layer) b live refl) joins
      in
      n.3 (subst (IsDone mine (update_on_cover r)) n.2 (done-seen n.0 n.1))

  -- a second location is the place of the body that was noted
  pub record IsSecondAt (i : ℕ) : Type 0 where
    pub noted : Noted
    pub among : Contains r.noted noted
    pub of_body : noted.index ≡ i
    pub here : word_of core (LocB i) ≡ noted.place
    pub same : HasBody (scene_of core) i (λ b. (b.generation ≡ noted.generation) × (b.layer ≡ noted.layer))

  pub second-at : (i : ℕ) → word_of core (LocB i) ≢ 0 → IsSecondAt i
  second-at i some =
      let second = a.laws.locations.second i some in
      let n = (has-own kind core step a r p.update location_scope (λ k v. refl) update_on_places (λ bare v. refl) second.0 (IsSecondFor Was i) second.1).1.3 in
      record {
        noted = n.0;
        among = n.1;
        of_body = n.2;
        here = n.3.0;
        same = subst (λ (j : ℕ). HasBody (scene_of core) j (λ b. (b.generation ≡ n.0.generation) × (b.layer ≡ n.0.layer))) n.2 n.3.1;
      }
