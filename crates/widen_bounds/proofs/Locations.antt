-- What the location words of a body tell a pass that holds its stripe: they name places of trees, and of a body that is out none.
use Rattle.std.specs.Prelude.{◌%◌, ◌^◌}
use Rattle.std.proofs.Common.{◌≡◌, ◌≢◌, ℕ, zero, suc, ◌+◌, ◌*◌, ◌<◌, ◌≤◌, Some, refl, ap, sym, ◌∙◌, subst, inl, inr, arith}
use Rattle.std.proofs.lemmas.Bool.{cases_lt, cases_eq}
use Rattle.std.proofs.lemmas.Option.{none-some}
use Rattle.body_ident.specs.Id.{Id}
use Rattle.scene_model.specs.declared.body_view.Phase.{Phase as BodyPhase}
use Rattle.scene_model.specs.declared.body_view.Phase.TheVariants.{Out, In}
use Rattle.scene_model.specs.Scene.{Scene, Record, record_at}
use Rattle.word_map.specs.declared.config.Config.{Config}
use Rattle.word_map.specs.declared.name.Name.TheVariants.{LocA, LocB}
use Rattle.word_map.specs.Limits.{IsConfig}
use Rattle.word_map.specs.Names.{stripe_of, node_count}
use Rattle.core_state.specs.declared.view.Mode.TheVariants.{Write}
use Rattle.core_state.specs.declared.view.Task.{Task}
use Rattle.core_state.specs.declared.view.Task.TheVariants.{Nothing, Removing as RemovingTask}
use Rattle.core_state.specs.declared.view.View.{View}
use Rattle.core_state.specs.View.{IsPass, Holds, mode_of, known_word}
use Rattle.core_state.specs.BodiesAgree.{body_scope, IsUnderStripe}
use Rattle.core_state.specs.BodiesCovered.{IsCovered, cover_scope}
use Rattle.core_state.specs.Core.{IsViewAt, scene_of}
use Rattle.core_state.specs.Encoding.{place}
use Rattle.core_state.specs.Guards.{scene_at}
use Rattle.core_state.specs.LocationsHold.{location_scope, IsLocation, Removes}
use Rattle.core_state.specs.Nodes.{Stands}
use Rattle.core_state.specs.Scope.{Sight, sight}
use Rattle.core_state.proofs.Beginning.{body_record, record_body}
use Rattle.core_state.proofs.Guarding.{writer-alone}
use Rattle.core_state.proofs.Lookups.{at_one}
use Rattle.core_guard.proofs.Seats.{seen_of, each-seat}
use Rattle.core_move.specs.Nowhere.{IsLeaving}
use Rattle.core_move.proofs.NowhereThen.{nowhere-out}
use Rattle.pass_table.specs.Bodies.{IsCurrent}
use Rattle.pass_table.specs.Settled.{KnowsPhase}
use Rattle.pass_table.proofs.Bodies.{known-now, scene-known}
use Rattle.pass_table.proofs.Settled.{sound-now}

four-cut : (m : ℕ) → (q : ℕ) × (r : ℕ) × (r < 4) × (m ≡ 4 * q + r)
four-cut zero = (0, 0, omega arith, omega arith)
four-cut (suc m) =
    let t = four-cut m in
    let below = t.2 in
    let is = t.3 in
    elim (cases_lt t.1 3) [
      | inl less ↦ (t.0, t.1 + 1, omega arith, omega arith)
      | inr full ↦ (t.0 + 1, 0, omega arith, omega arith)
    ]

-- who takes a body out writes under its stripe
removing-writes : (s : Sight) (view : View) (task : Task) (i : ℕ) → Removes task i → IsUnderStripe s view task → Holds view (stripe_of s.config i) Write
removing-writes s view (RemovingTask index) i removes under = subst (λ (k : ℕ). Holds view (stripe_of s.config k) Write) removes under
removing-writes s view _ i removes under = absurd removes

-- a word names a place or is 0
no-place : (w n k : ℕ) → w ≡ 0 → w ≢ place n k
no-place w n k none is = absurd (omega arith)

module _ (id : Id) (view : View) (now : IsCurrent view) where
  abbrev places : Sight
  places = sight location_scope now.core

  scene : scene_at view.config view.known ≡ scene_of now.core
  scene = scene-known view now

  -- a body in a phase, in the core
  there : (phase : BodyPhase) → KnowsPhase id phase view → (r : Record) × (record_at (scene_of now.core) id.index ≡ Some r) × (r.phase ≡ phase)
  there phase knows =
      let t = body_record (record_at (scene_at view.config view.known) id.index) (λ r. (r.generation % 256 ≡ id.seq) × (r.phase ≡ phase)) (knows.body (sound-now view now)) in
      (t.0, ap (λ (s : Scene). record_at s id.index) (sym scene) ∙ t.1, t.2.1)

  -- ---- a body in the broad phase

  module _ (knows : KnowsPhase id In view) where
    -- it has a location
    pub has-place : known_word view (LocA id.index) ≡ 0 → known_word view (LocB id.index) ≡ 0 → ⊥
    has-place first second =
        let t = there In knows in
        let cover : IsCovered now.stands.laws.nodes (sight cover_scope now.core) id.index t.0.layer = now.stands.laws.cover.covered id.index t.0 t.1 t.2 in
        elim (cover.2.1) [
          | inl e ↦ no-place (known_word view (LocA id.index)) cover.0 cover.1 first (known-now view now (LocA id.index) ∙ e)
          | inr e ↦ no-place (known_word view (LocB id.index)) cover.0 cover.1 second (known-now view now (LocB id.index) ∙ e)
        ]

    node-below : (n k : ℕ) → IsLocation places id.index n k → n < node_count view.config
    node-below n k location =
        let t = there In knows in
        elim (cases_lt n (node_count now.core.config)) [
          | inl less ↦ subst (λ (c : Config). n < node_count c) now.sizes less
          | inr above ↦ absurd (subst Stands (now.stands.laws.places.in_use n above) (now.stands.laws.locations.at id.index t.0 n k t.1 t.2 location).stands)
        ]

    -- words that name its places fit the names of nodes
    word-below : (w : ℕ) → ((n k : ℕ) → k < 4 → w ≡ place n k → IsLocation places id.index n k) → w ≤ 2 ^ 34
    word-below w location = go w refl
      where
        go : (v : ℕ) → w ≡ v → v ≤ 2 ^ 34
        go zero e = omega arith
        go (suc m) e =
            let t = four-cut m in
            let is = t.3 in
            let node = node-below t.0 t.1 (location t.0 t.1 t.2 (e ∙ omega arith)) in
            let limits : IsConfig view.config = subst IsConfig now.sizes now.stands.formed.sizes in
            let nodes = limits.nodes.1 in
            let bodies = limits.bodies.1 in
            let layers = limits.layers.1 in
            omega arith

    pub in-first : known_word view (LocA id.index) ≤ 2 ^ 34
    in-first = word-below (known_word view (LocA id.index)) (λ n k below e. (below, inl (sym (known-now view now (LocA id.index)) ∙ e)))

    pub in-second : known_word view (LocB id.index) ≤ 2 ^ 34
    in-second = word-below (known_word view (LocB id.index)) (λ n k below e. (below, inr (sym (known-now view now (LocB id.index)) ∙ e)))

  -- ---- a body that is out

  -- nobody takes it out who is not this pass
  module _ (knows : KnowsPhase id Out view) (number : ℕ) (pass : IsPass view number) (stripe : Holds view (stripe_of view.config id.index) Write) (task : view.call.task ≡ Nothing) where
    not-leaving : ¬ IsLeaving now.core id.index
    not-leaving (seat, other, its, at, its_pass, removes) =
        let s = sight body_scope now.core in
        let under = each-seat body_scope (λ n v. refl) now.core (λ n v. IsUnderStripe s v v.call.task) now.stands.laws.bodies.stripes seat other its at its_pass in
        let writes : Holds its (stripe_of now.core.config id.index) Write = removing-writes s (seen_of body_scope other its) its.call.task id.index removes under in
        elim (cases_eq now.seat seat) [
          | inl same ↦
              let is : its ≡ view = at_one now.core.views seat its view at (subst (λ (n : ℕ). IsViewAt now.core n view) same now.at) in
              subst (λ (t : Task). Removes t id.index) (ap (λ (v : View). v.call.task) is ∙ task) removes
          | inr apart ↦
              let free = writer-alone now.core (stripe_of now.core.config id.index) seat now.seat other number its view now.stands.laws.locks at its_pass writes apart now.at pass in
              let held = ap (λ (c : Config). mode_of view.locks (stripe_of c id.index)) now.sizes ∙ stripe in
              none-some Write (sym free ∙ held)
        ]

    -- so it has no location
    pub no-location : (known_word view (LocA id.index) ≡ 0) × (known_word view (LocB id.index) ≡ 0)
    no-location =
        let t = there Out knows in
        let none = (nowhere-out now.core id.index now.stands.laws (record_body (record_at (scene_of now.core) id.index) (λ r. r.phase ≡ Out) t.0 t.1 t.2) not-leaving).unplaced in
        (known-now view now (LocA id.index) ∙ none.0, known-now view now (LocB id.index) ∙ none.1)
