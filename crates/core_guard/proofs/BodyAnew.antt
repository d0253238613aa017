-- A step on one word of a body that stands in a tree, or is taken out of one: all other bodies stay, and what the laws of
-- trees say of this one and of the pass is shown anew.
use Rattle.std.proofs.Common.{◌≡◌, ◌≢◌, ℕ, Option, Some, IsSomeAnd, refl, sym, ◌∙◌, subst, inl, inr, ap, ◌⊎◌, List}
use Rattle.std.specs.Prelude.{Contains}
use Rattle.std.proofs.lemmas.Bool.{cases_eq, false≢true}
use Rattle.std.proofs.lemmas.Option.{none-some, same_Some}
use Rattle.scene_model.specs.Scene.{Record, record_at}
use Rattle.scene_model.specs.Step.{HasBody}
use Rattle.word_map.specs.declared.name.Name.{Name}
use Rattle.word_map.specs.declared.name.Name.TheVariants.{LocB, Bound, Reader}
use Rattle.core_state.specs.declared.view.Marked.{Marked}
use Rattle.core_state.specs.declared.view.Batch.{Batch}
use Rattle.core_state.specs.declared.view.View.{View}
use Rattle.core_state.specs.Core.{Core, word_of, scene_of}
use Rattle.core_state.specs.Kind.{Kind, Step, after_step}
use Rattle.core_state.specs.Encoding.{IsBox, sides_of}
use Rattle.core_state.specs.Nodes.{Nodes, Stands, Above}
use Rattle.core_state.specs.Parts.{call_on_places}
use Rattle.core_state.specs.Scope.{sight, Sight}
use Rattle.core_state.specs.Space.{IsTarget}
use Rattle.core_state.specs.Bodies.{all_batches}
use Rattle.core_state.specs.LocationsHold.{LocationsHold, location_scope, IsPlannedIn, IsLocation}
use Rattle.core_state.specs.BodiesCovered.{BodiesCovered}
use Rattle.core_state.specs.ReadersCounted.{reader_scope}
use Rattle.core_guard.proofs.BodyTouch.{other-word}
use Rattle.core_guard.proofs.CoverLeft.{IsFresh, BodyAfter, as_it_was, BodiesCovered-leaves}
use Rattle.core_guard.proofs.Leaving.{Acts, IsHandled, After, Last, Stays, Leaves, leaves-same, LeadsWithin, sound-leads, above-stands, above-back, some_and_map, held-once, body_of, body-no_node, stays-by}
use Rattle.core_guard.proofs.PlacesLeft.{SeenUpdate, BodyLeft, body_stays, pass_anew, LocationsHold-leaves}
use Rattle.core_guard.proofs.PlacesStay.{PassIsPlaced}
use Rattle.core_guard.proofs.ReadersLeft.{some-all, Counts, KeepsTargets, KeepsLayer, layers-kept, gives-kept, ReadersCounted-leaves}
use Rattle.core_guard.proofs.WalksLeft.{WalksLead-leaves}
use Rattle.fixed_box.specs.FixBox.{words_of}
use Rattle.core_state.specs.declared.view.Call.{Call}
use Rattle.core_state.specs.TreesSound.{TreesSoundIn, tree_scope}
use Rattle.core_state.specs.BodiesAgree.{BodiesAgree}
use Rattle.core_state.specs.Invariants.{Invariants}
use Rattle.core_guard.proofs.OnBody.{OnBody, climbs-on, body-unread, others-else, removes-else, places-else, on-after, LocksAgree-on, NodesInOnePlace-on}
use Rattle.core_guard.proofs.Recalled.{call-is, recalled, law-unseen}
use Rattle.core_guard.proofs.Alone.{marked-held}
use Rattle.core_guard.proofs.Seats.{flat-step, seen_at}
use Rattle.scene_model.specs.declared.body_view.Phase.TheVariants.{Held}
use Rattle.core_guard.proofs.NodesLeft.{flat_from}

module _ (kind : Kind) (core : Core) (step : Step) where
  abbrev pub No_new : ℕ → Type 0
  No_new n = ⊥

  -- such a step leaves all nodes
  pub turn-leaves : (nodes : Nodes) (index : ℕ) → body_of step.name ≡ Some index → (Last kind core step).rebuild ≡ step.view.rebuild → Leaves kind core step nodes nodes No_new
  turn-leaves nodes index of_body rebuild = let none = body-no_node step.name index of_body in leaves-same kind core step nodes none.0 none.1 rebuild

  pub none-fresh : (nodes : Nodes) → IsFresh kind core step nodes No_new
  none-fresh nodes = record { unreplaced = λ number view among pass. some-all view.rebuild _ (λ r n new. absurd new); seen = λ n number name new. absurd new }

  -- what is to be shown
  pub record TurnsBody (nodes : Nodes) (index : ℕ) (call : Call) : Type 0 where
    pub on : OnBody kind core step index call
    pub of_body : body_of step.name ≡ Some index
    -- the scene: no other body changes, and this one is of the creation and layer that it was
    pub others : (i : ℕ) → i ≢ index → record_at (scene_of (After kind core step)) i ≡ record_at (scene_of core) i
    pub layer : (g l : ℕ) → HasBody (scene_of core) index (λ r. (r.generation ≡ g) × (r.layer ≡ l)) → HasBody (scene_of (After kind core step)) index (λ r. (r.generation ≡ g) × (r.layer ≡ l))
    -- the pass gives bodies the same sides, or has given them
    pub targets : (i q side : ℕ) → IsTarget step.view.call.task i q side → IsTarget call.task i q side ⊎ HasBody (scene_of (After kind core step)) i (λ r. sides_of (words_of r.bounds) q ≡ side)
    -- no batch holds the body, and what the laws say of it and of the pass
    pub unheld : HasBody (scene_of core) index (λ r. r.phase ≢ Held)
    pub placed : BodyLeft kind core step nodes nodes index
    pub stand : (n k : ℕ) → IsLocation (sight location_scope (After kind core step)) index n k → Stands (nodes.home n)
    pub covered : BodyAfter kind core step nodes nodes index
    pub own : PassIsPlaced nodes (sight location_scope (After kind core step)) (call_on_places call) (SeenUpdate kind core step)

  module _ (a : Acts core step) (index : ℕ) (call : Call) (t : TurnsBody a.laws.nodes index call) where
    abbrev nodes : Nodes
    nodes = a.laws.nodes

    same-call : (Last kind core step).call ≡ call
    same-call = call-is kind core step call t.on.recalls

    same-walk : (Last kind core step).walk ≡ step.view.walk
    same-walk = ap (λ (v : View). v.walk) (recalled kind core step call t.on.recalls)

    abbrev leaves : Leaves kind core step nodes nodes No_new
    leaves = turn-leaves nodes index t.of_body (ap (λ (v : View). v.rebuild) (recalled kind core step call t.on.recalls))

    off_body : (name : Name) → body_of name ≢ Some index → word_of (After kind core step) name ≡ word_of core name
    off_body name apart = other-word kind core step index t.of_body name apart

    stays : (i : ℕ) → i ≢ index → Stays kind core step i
    stays i apart =
        stays-by kind core step i (t.others i apart) (λ name of. off_body name (λ e. apart (same_Some i index (sym of ∙ e)))) (removes-else kind core step index call a t.on i apart) (places-else kind core step index call a t.on i apart)

    -- batches hold other bodies
    held : (batch : Batch) (m : Marked) → Contains (all_batches (sight location_scope (After kind core step))) batch → Contains batch.marked m
        → IsPlannedIn (sight location_scope (After kind core step)) batch m × (word_of (After kind core step) (LocB m.index) ≡ 0)
    held batch m among marked =
        let batches = ap (λ (v : View). v.batches) (recalled kind core step call t.on.recalls) in
        let was = subst (λ (l : List Batch). Contains l batch) (flat-step location_scope (λ k v. refl) kind core step a.at a.pass (λ v. v.batches) batches) among in
        let r = flat_from (λ (v : View). v.batches) (sight location_scope core).passes batch was in
        let from = seen_at location_scope core r.0 r.1 in
        let one = marked-held core a.laws.bodies from.seat from.number from.view from.at from.pass batch m (subst (λ (v : View). Contains v.batches batch) (sym from.is) r.2) marked in
        let here = some_and_map (record_at (scene_of core) m.index) _ _ (λ r both. both.0) one in
        let b = stays m.index (λ same. held-once (record_at (scene_of core) index) t.unheld (subst (λ (j : ℕ). HasBody (scene_of core) j (λ r. r.phase ≡ Held)) same here)) in
        let old = a.laws.locations.held batch m was marked in
        (elim (old.0) [ inl u ↦ inl (u.0, b.loc_a ∙ u.1) | inr u ↦ inr (u.0, b.loc_a ∙ u.1, u.2) ], b.loc_b ∙ old.1)

    LocationsHold-turned : LocationsHold nodes (after_step kind core step)
    LocationsHold-turned =
        LocationsHold-leaves kind core step a nodes No_new leaves
        (record {
          bodies = λ i.
              elim (cases_eq i index) [
                | inl same ↦ subst (BodyLeft kind core step nodes nodes) (sym same) t.placed
                | inr apart ↦ body_stays (stays i apart)
              ];
          own = pass_anew (subst (λ (c : Call). PassIsPlaced nodes (sight location_scope (After kind core step)) (call_on_places c) (SeenUpdate kind core step)) (sym same-call) t.own);
          entries = λ i n k new. absurd new;
          made_entries = λ i n k number l new. absurd new;
          held = held;
        })

    BodiesCovered-turned : BodiesCovered nodes (after_step kind core step)
    BodiesCovered-turned =
        BodiesCovered-leaves kind core step a nodes nodes No_new leaves a.laws.cover (none-fresh nodes)
        (λ i.
        elim (cases_eq i index) [
          | inl same ↦ subst (BodyAfter kind core step nodes nodes) (sym same) t.covered
          | inr apart ↦ as_it_was (stays i apart)
        ])

    bound-same : (n k q : ℕ) → word_of (After kind core step) (Bound n k q) ≡ word_of core (Bound n k q)
    bound-same n k q = off_body (Bound n k q) (none-some index)

    layers : (i : ℕ) → KeepsLayer kind core step a nodes No_new leaves i
    layers i g l h =
        elim (cases_eq i index) [
          | inl same ↦
              subst (λ (k : ℕ). HasBody (scene_of (After kind core step)) k (λ r. (r.generation ≡ g) × (r.layer ≡ l))) (sym same)
              (t.layer g l (subst (λ (k : ℕ). HasBody (scene_of core) k (λ r. (r.generation ≡ g) × (r.layer ≡ l))) same h))
          | inr apart ↦ subst (λ (o : Option Record). IsSomeAnd o (λ r. (r.generation ≡ g) × (r.layer ≡ l))) (sym (t.others i apart)) h
        ]

    targets : KeepsTargets kind core step a nodes No_new leaves
    targets = record {
      targets = λ i q side target. elim (t.targets i q side target) [ inl is ↦ inl (subst (λ (c : Call). IsTarget c.task i q side) (sym same-call) is) | inr has ↦ inr has ];
      bodies = λ seat number view found is i handled. layers i;
    }

    -- the pass stands in trees where it climbs
    abbrev Now : Sight
    Now = sight reader_scope (After kind core step)

    above-stand : (n k x y : ℕ) → IsLocation Now index n k → Above Now.word n k x y → Stands (nodes.home x)
    above-stand n k x y location up =
        let old = sight reader_scope core in
        let t1 = sound-leads nodes (sight tree_scope core) a.laws.trees in
        let leads : LeadsWithin nodes old.word = record { up = t1.up; down = t1.down } in
        let stands = t.stand n k location in
        above-stands kind core step a nodes nodes No_new leaves old.word Now.word leads leaves.parent n k x y stands
        (above-back kind core step a nodes nodes No_new leaves old.word Now.word leads leaves.parent n k x y stands up)

    counts : Counts kind core step a nodes No_new leaves
    counts = record {
      places = λ seat number view apart found is i handled.
          let s = stays i (λ same. others-else kind core step index call a t.on seat number view apart found is (subst (IsHandled view.call.task) same handled)) in
          (s.loc_a, s.loc_b);
      climbs = climbs-on nodes Now index (Last kind core step).call.task (on-after kind core step index call a t.on) above-stand;
      layers = layers-kept kind core step a nodes No_new leaves targets;
      gives = gives-kept kind core step a nodes No_new leaves targets;
      live = λ n k q l live layer. inl (bound-same n k q);
      fresh = λ number view among pass. some-all view.rebuild _ (λ r n k q l home. inl (bound-same n k q));
      new = λ n k l none. absurd none;
      unmade = λ n number l none. absurd none;
    }

    -- that the bodies agree is left to be shown
    pub Invariants-turned : BodiesAgree (after_step kind core step) → Invariants (after_step kind core step)
    Invariants-turned bodies =
        let unread = body-unread step.name index t.of_body in
        record {
          nodes = nodes;
          locks = LocksAgree-on kind core step index call a t.on unread.locks;
          bodies = bodies;
          places = NodesInOnePlace-on kind core step index call a t.on unread.nodes;
          trees = law-unseen kind core step call t.on.recalls a tree_scope (TreesSoundIn nodes) unread.trees (λ reads. absurd (false≢true reads)) refl a.laws.trees;
          locations = LocationsHold-turned;
          cover = BodiesCovered-turned;
          walks = WalksLead-leaves kind core step a nodes No_new leaves (λ n k stands box. subst IsBox (λ j q. sym (bound-same n k q) j) box) same-walk;
          readers = ReadersCounted-leaves kind core step a nodes No_new leaves counts (record { reader = λ p. off_body (Reader p) (none-some index); walk = same-walk });
        }
