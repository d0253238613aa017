-- A body that is promoted: its second location is its place in the main tree of its layer, which is published, and it is in
-- the broad phase.
use Rattle.std.proofs.Common.{◌≡◌, ◌≢◌, ◌⊎◌, ℕ, ◌<◌, ◌≤◌, length, Option, Some, None, IsSomeAnd, true, refl, ap, sym, ◌∙◌, subst, inl, inr, arith}
use Rattle.std.specs.Prelude.{Contains}
use Rattle.std.proofs.lemmas.Bool.{cases_eq, cases_lt}
use Rattle.scene_model.specs.declared.body_view.Phase.{Phase as BodyPhase}
use Rattle.scene_model.specs.declared.body_view.Phase.TheVariants.{Out, Held, In}
use Rattle.scene_model.specs.Scene.{Record, record_at}
use Rattle.scene_model.specs.Step.{HasBody}
use Rattle.word_map.specs.declared.name.Name.TheVariants.{LocB, Main}
use Rattle.word_map.specs.declared.config.Config.{Config}
use Rattle.word_map.specs.Names.{stripe_of}
use Rattle.core_state.specs.declared.view.Noted.{Noted}
use Rattle.core_state.specs.declared.view.Task.{Task}
use Rattle.core_state.specs.declared.view.Mode.TheVariants.{Write}
use Rattle.core_state.specs.declared.view.View.{View}
use Rattle.core_state.specs.View.{IsPass, Holds}
use Rattle.core_state.specs.Core.{Core, word_of, scene_of, IsViewAt}
use Rattle.core_state.specs.Kind.{Kind, Step}
use Rattle.core_state.specs.Encoding.{place}
use Rattle.core_state.specs.Moving.{IsSettled}
use Rattle.core_state.specs.Nodes.{Nodes, under}
use Rattle.core_state.specs.NodesInOnePlace.{node_scope}
use Rattle.core_state.specs.Parts.{update_on_nodes, update_on_places}
use Rattle.core_state.specs.Retiring.{IsToPromote}
use Rattle.core_state.specs.Scope.{Sight, sight}
use Rattle.core_state.specs.Updates.{IsMadeIn}
use Rattle.core_state.specs.LocationsHold.{location_scope, IsPlannedAt, IsPublishedAt, IsSecondFor, IsRemoved, Removes}
use Rattle.core_state.proofs.Beginning.{record_body}
use Rattle.core_state.proofs.Lookups.{at_one}
use Rattle.core_guard.proofs.BodyTouch.{stripe-others}
use Rattle.core_guard.proofs.Leaving.{Acts, IsHandled, idle-unhandled}
use Rattle.core_guard.proofs.PlacesStay.{removes-handles, seen-task}
use Rattle.core_guard.proofs.Seats.{has-seat}
use Rattle.core_guard.proofs.Settled.{sound, settled-still, StandsStill}
use Rattle.core_update.proofs.OwnUpdate.{each-own, has-own}

module _ (kind : Kind) (core : Core) (step : Step) (a : Acts core step) (i : ℕ) (p : IsToPromote step.view i) where
  abbrev nodes : Nodes
  nodes = a.laws.nodes

  abbrev Was : Sight
  Was = sight location_scope core

  pub all-swapped : length p.r.swapped ≡ core.config.layers
  all-swapped = p.published.all_swapped ∙ ap (λ (c : Config). c.layers) (sound core step a).config

  -- what is noted is in a tree that is published
  pub swapped : (noted : Noted) → Contains p.r.noted noted → p.r.is_planned ≡ true → noted.layer < length p.r.swapped
  swapped noted among planned =
      elim (cases_lt noted.layer (length p.r.swapped)) [
        | inl below ↦ below
        | inr above ↦
            let h =
            each-own kind core step a p.r p.update location_scope (λ k v. refl) update_on_places (λ bare v. refl)
            (λ number v x. (m : Noted) → Contains x.noted m → x.is_planned ≡ true → length x.swapped ≤ m.layer → IsPlannedAt nodes Was number v x m) a.laws.locations.planned noted among planned above
            in
            let t =
            has-own kind core step a p.r p.update node_scope (λ k v. refl) update_on_nodes (λ bare v. refl) step.number (λ x. IsMadeIn core.config x noted.layer h.node)
            ((a.laws.places.made_by h.node step.number noted.layer).0 h.made_for)
            in
            let below = t.1.2 in
            let all = all-swapped in
            absurd (omega arith)
      ]

  -- a second location is a place in the main tree
  pub record IsPromoted : Type 0 where
    pub noted : Noted
    pub among : Contains p.r.noted noted
    pub of_body : noted.index ≡ i
    pub node : ℕ
    pub child : ℕ
    pub below : child < 4
    pub at : word_of core (LocB i) ≡ place node child
    pub home : nodes.home node ≡ under (Main noted.layer)
    pub published : noted.layer < length p.r.swapped
    pub same : HasBody (scene_of core) i (λ b. (b.generation ≡ noted.generation) × (b.layer ≡ noted.layer))

  pub promoted : word_of core (LocB i) ≢ 0 → IsPromoted
  promoted some =
      let second = a.laws.locations.second i some in
      let t = (has-own kind core step a p.r p.update location_scope (λ k v. refl) update_on_places (λ bare v. refl) second.0 (IsSecondFor Was i) second.1).1 in
      let n = t.3 in
      let at =
      each-own kind core step a p.r p.update location_scope (λ k v. refl) update_on_places (λ bare v. refl) (λ number v x. (m : Noted) → Contains x.noted m → IsPublishedAt nodes x m) a.laws.locations.published n.0 n.1 t.0
      (swapped n.0 n.1 t.0)
      in
      record {
        noted = n.0;
        among = n.1;
        of_body = n.2;
        node = at.0;
        child = at.1;
        below = at.2;
        at = n.3.0 ∙ at.3;
        home = at.4;
        published = swapped n.0 n.1 t.0;
        same = subst (λ (j : ℕ). HasBody (scene_of core) j (λ b. (b.generation ≡ n.0.generation) × (b.layer ≡ n.0.layer))) n.2 n.3.1;
      }

-- a body whose second location is stored is in the broad phase
record-phase : (o : Option Record) (g l : ℕ) → IsSomeAnd o (λ b. b.phase ≢ Held) → IsSomeAnd o (λ b. (b.generation ≡ g) × (b.layer ≡ l)) → (b : Record) × (o ≡ Some b) × (b.layer ≡ l) × ((b.phase ≡ In) ⊎ (b.phase ≡ Out))
record-phase None g l unheld same = absurd unheld
record-phase (Some b) g l unheld same = (b, refl, same.1, go b.phase unheld)
  where
    go : (x : BodyPhase) → x ≢ Held → (x ≡ In) ⊎ (x ≡ Out)
    go Out none = inr refl
    go Held none = absurd (none refl)
    go In none = inl refl

module _ (kind : Kind) (core : Core) (step : Step) (a : Acts core step) (i : ℕ) (p : IsToPromote step.view i) (settled : IsSettled step.view i) where
  pub known : StandsStill core step.view i
  known = settled-still core step a i settled

  pub unheld : HasBody (scene_of core) i (λ b. b.phase ≢ Held)
  unheld = subst (λ (o : Option Record). IsSomeAnd o (λ b. b.phase ≢ Held)) (sym known.body) settled.unheld

  abbrev Seen : Sight
  Seen = sight location_scope core

  own-stripe : Holds step.view (stripe_of core.config i) Write
  own-stripe = subst (λ (c : Config). Holds step.view (stripe_of c i) Write) (sound core step a).config p.stripe

  -- no other pass does anything with it
  pub alone : (seat number : ℕ) (view : View) → seat ≢ step.seat → IsViewAt core seat view → IsPass view number → ¬ IsHandled view.call.task i
  alone = stripe-others kind core step a i own-stripe

  -- so nobody takes it out
  pub unremoved : ¬ IsRemoved Seen i
  unremoved removed =
      let from = has-seat location_scope (λ k v. refl) core removed.0 (λ v. Removes v.call.task i) removed.1 in
      let removes = seen-task (λ t. Removes t i) (λ t calm h. idle-unhandled t i calm (removes-handles t i h)) from.view.call from.holds in
      elim (cases_eq from.seat step.seat) [
        | inl same ↦
            let one : step.view ≡ from.view = at_one core.views step.seat step.view from.view a.at (subst (λ (k : ℕ). IsViewAt core k from.view) same from.at) in
            subst (λ (t : Task). Removes t i) (ap (λ (v : View). v.call.task) (sym one) ∙ p.idle) removes
        | inr apart ↦ alone from.seat removed.0 from.view apart from.at from.pass (removes-handles from.view.call.task i removes)
      ]

  -- with a second location it is in the broad phase, in the layer in which it was noted
  pub inside : (some : word_of core (LocB i) ≢ 0) → (b : Record) × (record_at (scene_of core) i ≡ Some b) × (b.layer ≡ (promoted kind core step a i p some).noted.layer) × (b.phase ≡ In)
  inside some =
      let q = promoted kind core step a i p some in
      let t = record-phase (record_at (scene_of core) i) q.noted.generation q.noted.layer unheld q.same in (
        t.0,
        t.1,
        t.2,
        elim (t.3) [
          | inl is ↦ is
          | inr out ↦ absurd (some (a.laws.locations.out i (record_body (record_at (scene_of core) i) (λ b. b.phase ≡ Out) t.0 t.1 out) unremoved).1)
        ],
      )
