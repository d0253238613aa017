-- A step on one word of one body leaves all but that body: what is then left to show of it.
use Rattle.std.proofs.Common.{◌≡◌, ◌≢◌, ◌⊎◌, ◌↔◌, ℕ, ◌<◌, ◌++◌, ◌∷◌, [], List, Some, None, true, false, refl, ap, sym, ◌∙◌, subst, inl, inr, arith}
use Rattle.std.specs.Prelude.{Contains, IfSome}
use Rattle.std.proofs.lemmas.Bool.{cases_eq, true≢false}
use Rattle.std.proofs.lemmas.Option.{none-some, same_Some}
use Rattle.scene_model.specs.declared.body_view.Phase.TheVariants.{In}
use Rattle.scene_model.specs.declared.entry.Entry.{Entry}
use Rattle.scene_model.specs.declared.entry.Made.{Made}
use Rattle.scene_model.specs.Scene.{Place, Scene, place_at, record_at}
use Rattle.scene_model.specs.Step.{HasBody, after_entry}
use Rattle.scene_model.specs.History.{scene_after}
use Rattle.word_map.specs.declared.name.Name.{Name}
use Rattle.word_map.specs.declared.name.Name.TheVariants.{Phase, LocA, LocB, Child, Bound, Parent, Slot, Reader}
use Rattle.word_map.specs.Names.{stripe_of}
use Rattle.core_state.specs.declared.item.Store.{Store}
use Rattle.core_state.specs.declared.view.Mode.TheVariants.{Write}
use Rattle.core_state.specs.declared.view.Marked.{Marked}
use Rattle.core_state.specs.declared.view.Batch.{Batch}
use Rattle.core_state.specs.declared.view.Task.{Task}
use Rattle.core_state.specs.declared.view.Task.TheVariants.{Moving, Removing, Placing}
use Rattle.core_state.specs.declared.view.Call.{Call}
use Rattle.core_state.specs.declared.view.View.{View}
use Rattle.core_state.specs.Log.{history}
use Rattle.core_state.specs.Operation.{store}
use Rattle.core_state.specs.View.{IsPass, Holds}
use Rattle.core_state.specs.Core.{Core, word_of, scene_of, IsViewAt}
use Rattle.core_state.specs.Kind.{Kind, Step}
use Rattle.core_state.specs.Encoding.{place, phase_join, slot_tree}
use Rattle.core_state.specs.Parts.{call_by_task, call_on_places}
use Rattle.core_state.specs.Nodes.{Nodes, node_in, IsOwnedBy}
use Rattle.core_state.specs.Scope.{Sight, sight}
use Rattle.core_state.specs.TreesSound.{tree_scope, IsAsStored}
use Rattle.core_state.specs.Updates.{IsPlacing}
use Rattle.core_state.specs.Bodies.{all_batches}
use Rattle.core_state.specs.BodiesAgree.{body_scope, IsUnderStripe}
use Rattle.core_state.specs.LocationsHold.{location_scope, Removes, IsPlannedIn, is_location_store}
use Rattle.core_state.proofs.Lookups.{at_one}
use Rattle.core_state.proofs.Steps.{word-step-other}
use Rattle.core_guard.proofs.Alone.{lock-alone}
use Rattle.core_guard.proofs.OneBody.{history-made, scene-made}
use Rattle.core_guard.proofs.Seats.{each-seat, flat-step}
use Rattle.core_guard.proofs.Leaving.{Acts, IsHandled, IsIdle, Stays, IsApart, After, Last, Touches, leaves-same, stays-by, body_of, body-no_node}
use Rattle.core_guard.proofs.TreesLeft.{stored-same}

-- ---- tasks

idle-removes : (task : Task) (i : ℕ) → IsIdle task → ¬ Removes task i
idle-removes (Removing index) i calm h = calm
idle-removes _ i calm h = h

idle-places : (task : Task) (i : ℕ) → IsIdle task → ¬ IsPlacing task i
idle-places (Placing index) i calm h = calm
idle-places _ i calm h = h

-- a pass takes out and places the same body, or none
module _ (P : Task → Type 0) (idle : (task : Task) → IsIdle task → ¬ P task) where
  pub same-task : (before after : Call) → (after ≡ before) ⊎ (IsIdle before.task × IsIdle after.task) → P before.task ↔ P after.task
  same-task before after (inl same) = (subst (λ (c : Call). P c.task) (sym same), subst (λ (c : Call). P c.task) same)
  same-task before after (inr t) = (λ h. absurd (idle before.task t.0 h), λ h. absurd (idle after.task t.1 h))

-- a task that handles a body has its stripe
pub handled-stripe : (s : Sight) (view : View) (task : Task) (i : ℕ) → IsHandled task i → IsUnderStripe s view task → Holds view (stripe_of s.config i) Write
handled-stripe s view (Moving index target) i same h = subst (λ (k : ℕ). Holds view (stripe_of s.config k) Write) same h
handled-stripe s view (Removing index) i same h = subst (λ (k : ℕ). Holds view (stripe_of s.config k) Write) same h
handled-stripe s view (Placing index) i same h = subst (λ (k : ℕ). Holds view (stripe_of s.config k) Write) same h
handled-stripe s view _ i handled h = absurd handled

-- who takes a body out, as far as places tell, handles it
pub removes-handled : (call : Call) (i : ℕ) → Removes (call_on_places call).task i → IsHandled call.task i
removes-handled call i h = go call.task refl h
  where
    go : (task : Task) → call.task ≡ task → Removes (call_by_task task call).task i → IsHandled call.task i
    go (Moving index target) e h = absurd (subst (λ (t : Task). Removes t i) e h)
    go (Removing index) e h = subst (λ (t : Task). IsHandled t i) (sym e) (subst (λ (t : Task). Removes t i) e h)
    go (Placing index) e h = absurd (subst (λ (t : Task). Removes t i) e h)
    go _ e h = absurd h

-- ---- a step on one word of a body

module _ (kind : Kind) (core : Core) (step : Step) where
  -- what such a step changes at most: the body, the task, and where batches say that it is
  pub record ChangesBody (nodes : Nodes) (index : ℕ) : Type 0 where
    pub of_body : body_of step.name ≡ Some index
    pub others : (i : ℕ) → i ≢ index → record_at (scene_of (After kind core step)) i ≡ record_at (scene_of core) i
    pub itself : Stays kind core step index ⊎ IsApart kind core step nodes index
    pub call : ((Last kind core step).call ≡ step.view.call) ⊎ (IsIdle step.view.call.task × IsIdle (Last kind core step).call.task)
    pub walk : (Last kind core step).walk ≡ step.view.walk
    pub rebuild : (Last kind core step).rebuild ≡ step.view.rebuild
    pub written : (Last kind core step).written ≡ step.view.written
    pub held : (batch : Batch) (marked : Marked) → Contains (all_batches (sight location_scope (After kind core step))) batch → Contains batch.marked marked
        → IsPlannedIn (sight location_scope (After kind core step)) batch marked × (word_of (After kind core step) (LocB marked.index) ≡ 0)

  -- a word of no body, or of another one
  pub other-word : (index : ℕ) → body_of step.name ≡ Some index → (name : Name) → body_of name ≢ Some index → word_of (After kind core step) name ≡ word_of core name
  other-word index of_body name apart = word-step-other kind core step name (λ e. apart (ap body_of e ∙ of_body))

  module _ (a : Acts core step) (nodes : Nodes) (index : ℕ) (c : ChangesBody nodes index) where
    off_body : (name : Name) → body_of name ≡ None → word_of (After kind core step) name ≡ word_of core name
    off_body name none = other-word index c.of_body name (λ e. none-some index (sym none ∙ e))

    other_body : (i : ℕ) → i ≢ index → (name : Name) → body_of name ≡ Some i → word_of (After kind core step) name ≡ word_of core name
    other_body i apart name of = other-word index c.of_body name (λ e. apart (same_Some i index (sym of ∙ e)))

    -- all other bodies stay
    other-stays : (i : ℕ) → i ≢ index → Stays kind core step i
    other-stays i apart =
        stays-by kind core step i (c.others i apart) (other_body i apart) (same-task (λ t. Removes t i) (λ t calm. idle-removes t i calm) step.view.call (Last kind core step).call c.call)
        (same-task (λ t. IsPlacing t i) (λ t calm. idle-places t i calm) step.view.call (Last kind core step).call c.call)

    -- what was stored in own nodes
    store-stands : (number : ℕ) (item : Store) → IfSome (node_in item.name) (λ n. IsOwnedBy number (nodes.home n) × IsAsStored (sight tree_scope core).word (nodes.home n) item.name item.value)
        → IfSome (node_in item.name) (λ n. IsOwnedBy number (nodes.home n) × IsAsStored (word_of (After kind core step)) (nodes.home n) item.name item.value)
    store-stands number item h = go item.name h
      where
        go : (name : Name) → IfSome (node_in name) (λ n. IsOwnedBy number (nodes.home n) × IsAsStored (sight tree_scope core).word (nodes.home n) name item.value)
            → IfSome (node_in name) (λ n. IsOwnedBy number (nodes.home n) × IsAsStored (word_of (After kind core step)) (nodes.home n) name item.value)
        go (Child n k) h = (h.0, stored-same (sight tree_scope core).word (word_of (After kind core step)) (nodes.home n) (Child n k) item.value (off_body (Child n k) refl) h.1)
        go (Bound n k q) h = (h.0, stored-same (sight tree_scope core).word (word_of (After kind core step)) (nodes.home n) (Bound n k q) item.value (off_body (Bound n k q) refl) h.1)
        go (Parent n) h = (h.0, stored-same (sight tree_scope core).word (word_of (After kind core step)) (nodes.home n) (Parent n) item.value (off_body (Parent n) refl) h.1)
        go _ h = tt

  -- so nothing else is touched
  pub touches-body : (a : Acts core step) (index : ℕ) → ChangesBody a.laws.nodes index → Touches kind core step a.laws.nodes a.laws.nodes
  touches-body a index c =
      let nodes = a.laws.nodes in
      let none = body-no_node step.name index c.of_body in
      record {
        leaves = leaves-same kind core step nodes none.0 none.1 c.rebuild;
        bounds = λ n k q stands. off_body a nodes index c (Bound n k q) refl;
        bodies = λ i.
            elim (cases_eq i index) [
              | inl same ↦ subst (λ (j : ℕ). Stays kind core step j ⊎ IsApart kind core step nodes j) (sym same) c.itself
              | inr apart ↦ inl (other-stays a nodes index c i apart)
            ];
        call = c.call;
        walk = c.walk;
        reader = λ p. off_body a nodes index c (Reader p) refl;
        others = λ n number apart owned. (refl, λ e. none-some n (sym none.0 ∙ e));
        written = λ item among.
            let stored = each-seat tree_scope (λ n v. refl) core
            (λ n v. (item : Store) → Contains v.written item → IfSome (node_in item.name) (λ m. IsOwnedBy n (nodes.home m) × IsAsStored (sight tree_scope core).word (nodes.home m) item.name item.value))
            a.laws.trees.stored step.seat step.number step.view a.at a.pass
            in
            store-stands a nodes index c step.number item (stored item (subst (λ (l : List Store). Contains l item) c.written among));
        held = c.held;
      }

  -- ---- where its batches say that bodies are

  -- no location is stored
  pub location-words : is_location_store step.name ≡ false → (i : ℕ) → (word_of (After kind core step) (LocA i) ≡ word_of core (LocA i)) × (word_of (After kind core step) (LocB i) ≡ word_of core (LocB i))
  location-words unstored i = (
    word-step-other kind core step (LocA i) (λ e. true≢false (ap is_location_store e ∙ unstored)),
    word-step-other kind core step (LocB i) (λ e. true≢false (ap is_location_store e ∙ unstored)),
  )

  -- and the pass keeps its batches
  pub held-kept : (a : Acts core step) → (Last kind core step).batches ≡ step.view.batches → is_location_store step.name ≡ false
      → (batch : Batch) (marked : Marked) → Contains (all_batches (sight location_scope (After kind core step))) batch → Contains batch.marked marked
      → IsPlannedIn (sight location_scope (After kind core step)) batch marked × (word_of (After kind core step) (LocB marked.index) ≡ 0)
  held-kept a batches unstored batch m among marked =
      let same : all_batches (sight location_scope (After kind core step)) ≡ all_batches (sight location_scope core) =
      flat-step location_scope (λ n v. refl) kind core step a.at a.pass (λ v. v.batches) batches
      in
      let old = a.laws.locations.held batch m (subst (λ (l : List Batch). Contains l batch) same among) marked in
      let words = location-words unstored m.index in (
        subst
            (λ (x : ℕ). ((m.is_placed ≡ false) × (x ≡ 0)) ⊎ ((m.is_placed ≡ true) × (x ≡ m.place) × ((n k : ℕ) × (k < 4) × (m.place ≡ place n k) × Contains batch.nodes n)))
            (sym words.0) old.0,
        words.1 ∙ old.1,
      )

  -- ---- the scene after an entry

  module _ (entry : Entry) (stores : kind.operation ≡ store) (makes : kind.entry step.view step.name step.first ≡ Some entry) where
    pub record-made : (i : ℕ) → record_at (scene_of (After kind core step)) i
        ≡ record_at (scene_after core.config.bodies (history core.log ++ record { pass = step.number; entry = entry } ∷ [])) i
    record-made i = ap (λ (l : List Made). record_at (scene_after core.config.bodies l) i) (history-made kind core step entry stores makes)

    -- of a body of which it does not speak
    pub record-other : (i : ℕ) → place_at (after_entry (scene_of core) entry) i ≡ place_at (scene_of core) i → record_at (scene_of (After kind core step)) i ≡ record_at (scene_of core) i
    record-other i same =
        record-made i ∙ (ap (λ (s : Scene). record_at s i) (scene-made core.config.bodies step.number (history core.log) entry) ∙ ap (λ (p : Place). p.body) same)

  -- ---- bodies that stand in no tree

  -- no location is a place
  pub no_place : (value n k : ℕ) → value ≡ 0 → value ≢ place n k
  no_place value n k none e = absurd (omega arith)

  -- who has the stripe of a body to write: no other pass handles it, and if it does not itself, nobody does
  pub stripe-others : (a : Acts core step) (i : ℕ) → Holds step.view (stripe_of core.config i) Write
      → (seat number : ℕ) (view : View) → seat ≢ step.seat → IsViewAt core seat view → IsPass view number → ¬ IsHandled view.call.task i
  stripe-others a i stripe seat number view apart found is handled =
      let under = each-seat body_scope (λ n v. refl) core (λ n v. IsUnderStripe (sight body_scope core) v v.call.task) a.laws.bodies.stripes seat number view found is in
      lock-alone kind core step a.at a.pass a.laws.locks a.laws.bodies (stripe_of core.config i) seat number view Write stripe apart found is
      (handled-stripe (sight body_scope core) view view.call.task i handled under)

  pub stripe-alone : (a : Acts core step) (i : ℕ) → Holds step.view (stripe_of core.config i) Write → ¬ IsHandled step.view.call.task i
      → (seat number : ℕ) (view : View) → IsViewAt core seat view → IsPass view number → ¬ IsHandled view.call.task i
  stripe-alone a i stripe own seat number view found is handled =
      elim (cases_eq seat step.seat) [
        | inl same ↦
            let one : step.view ≡ view = at_one core.views step.seat step.view view a.at (subst (λ (k : ℕ). IsViewAt core k view) same found) in
            own (subst (λ (v : View). IsHandled v.call.task i) (sym one) handled)
        | inr apart ↦ stripe-others a i stripe seat number view apart found is handled
      ]

  -- a body with no location, before the step and after it, and in no layer's broad phase
  pub record IsBare (i : ℕ) : Type 0 where
    pub unseen : ¬ HasBody (scene_of core) i (λ r. r.phase ≡ In)
    pub unseen_after : ¬ HasBody (scene_of (After kind core step)) i (λ r. r.phase ≡ In)
    pub alone : (seat number : ℕ) (view : View) → IsViewAt core seat view → IsPass view number → ¬ IsHandled view.call.task i
    pub alone_after : ¬ IsHandled (Last kind core step).call.task i
    pub places : (word_of core (LocA i) ≡ 0) × (word_of core (LocB i) ≡ 0)
    pub unjoined : (l t root : ℕ) → HasBody (scene_of (After kind core step)) i (λ r. r.layer ≡ l) → word_of (After kind core step) (Phase i) ≡ phase_join t → word_of core (Slot l t) ≢ slot_tree root

  pub bare-apart : (nodes : Nodes) (i : ℕ) → is_location_store step.name ≡ false → IsBare i → IsApart kind core step nodes i
  bare-apart nodes i unstored b =
      let words = location-words unstored i in
      let first : word_of (After kind core step) (LocA i) ≡ 0 = words.0 ∙ b.places.0 in
      record {
        unseen = b.unseen;
        unseen_after = b.unseen_after;
        alone = b.alone;
        alone_after = b.alone_after;
        second = b.places.1;
        second_after = words.1 ∙ b.places.1;
        off = λ n k below e. absurd (no_place (word_of core (LocA i)) n k b.places.0 e);
        off_after = λ n k below e. absurd (no_place (word_of (After kind core step) (LocA i)) n k first e);
        dead = λ none. first;
        out = λ out. first;
        unjoined = b.unjoined;
      }
