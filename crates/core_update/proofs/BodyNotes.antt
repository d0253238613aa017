-- Looking at a body keeps all laws: one that is passed over is in no tree that the update replaces, and one that is noted is as it
-- was noted, since the pass holds its stripe.
use Rattle.std.proofs.Common.{leb-false, Bool, Contains, IsSome, List, None, Option, Some, [], ap, arith, eqb, inl, inr, is_some, length, refl, subst, suc, sym, ℕ, ◌++◌, ◌+◌, ◌-◌, ◌<◌, ◌∙◌, ◌∷◌, ◌≡◌, ◌≢◌, ◌≤◌, ◌⊎◌}
use Rattle.std.proofs.lemmas.Bool.{cases_Bool, cases_eq, eqb-true, false≢true, true≢false}
use Rattle.std.proofs.lemmas.List.{append-nil}
use Rattle.std.proofs.lemmas.List.Elements.{Contains-append_left}
use Rattle.std.proofs.lemmas.Option.{none-some, same_Some}
use Rattle.std.specs.Prelude.{IfSome, flat_map, nat_le, not, option_map, slice_index}
use Rattle.fixed_box.specs.FixBox.{words_of}
use Rattle.scene_model.specs.Scene.{Record, Scene, place_at, record_at}
use Rattle.scene_model.specs.Step.{HasBody}
use Rattle.scene_model.specs.declared.body_view.Phase.TheVariants.{Held, In, Out}
use Rattle.word_map.specs.Names.{IsName, stripe_of}
use Rattle.word_map.specs.declared.config.Config.{Config}
use Rattle.word_map.specs.declared.name.Name.{Name}
use Rattle.word_map.specs.declared.name.Name.TheVariants.{BoxWord, Layer, LocA, LocB, Main, Phase, Slot, State}
use Rattle.core_state.specs.Bodies.{HasWholeBox, IsBetweenBoxes, MovesBody, phase_by, phase_by_slot, state_word}
use Rattle.core_state.specs.BodiesAgree.{HasWordsOf, IsUnderStripe, body_scope}
use Rattle.core_state.specs.BodiesCovered.{IsAsNoted, IsInOldTree, KeepsMerged, NotesHold, cover_scope}
use Rattle.core_state.specs.Core.{Core, IsViewAt, scene_of, word_of}
use Rattle.core_state.specs.Encoding.{phase_in, phase_join, place, sides_of, slot_tree}
use Rattle.core_state.specs.Guards.{IsBodyWord, by_lock, scene_at}
use Rattle.core_state.specs.Invariants.{Invariants}
use Rattle.core_state.specs.Kind.{Kind, Step, after_step, found_by, learned}
use Rattle.core_state.specs.Log.{word}
use Rattle.core_state.specs.LocationsHold.{in_old, IsRemoved, IsWhere, Removes, in_main, in_merged, in_slot, location_scope}
use Rattle.core_state.specs.Nodes.{Home, IsPublished, Nodes, under}
use Rattle.core_state.specs.NodesInOnePlace.{NodesInOnePlaceIn, node_scope}
use Rattle.core_state.specs.Noting.{IsToNote, IsLookedAt, by_state, by_phase, by_layer, by_location, in_main as note_main, in_merged as note_merged, IsEarly, MayLookAtBody, body_looked_at, generation_known, generation_of, is_merged, look_at_body, note_of, passed_if}
use Rattle.core_state.specs.Parts.{update_on_cover, update_on_nodes}
use Rattle.core_state.specs.Scope.{Sight, scene_in, sight}
use Rattle.core_state.specs.Updates.{EachUpdate, IsDone, IsNoted, IsOldTree, IsPlacing, IsStillMerged}
use Rattle.core_state.specs.View.{Holds, IsPass, known_word}
use Rattle.core_state.specs.declared.view.Batch.{Batch}
use Rattle.core_state.specs.declared.view.Noted.{Noted}
use Rattle.core_state.specs.declared.view.Rebuild.{Rebuild}
use Rattle.core_state.specs.declared.view.Task.{Task}
use Rattle.core_state.specs.declared.view.Task.TheVariants.{Moving}
use Rattle.core_state.specs.declared.view.View.{View}
use Rattle.core_state.proofs.Beginning.{body_record, contains_first, contains_flat, last_point, record_body}
use Rattle.core_state.proofs.Guarding.{GuardsHold-load, live-still, writer-alone}
use Rattle.core_state.proofs.Lookups.{at_one}
use Rattle.core_state.proofs.Opening.{none_in, only}
use Rattle.core_guard.proofs.BodiesStep.{known-now}
use Rattle.core_guard.proofs.BodyTouch.{handled-stripe, removes-handled}
use Rattle.core_guard.proofs.Holders.{IsGuarded}
use Rattle.core_guard.proofs.Leaving.{Acts, IsHandled}
use Rattle.core_guard.proofs.Light.{Stores}
use Rattle.core_guard.proofs.NodesLeft.{flat_from}
use Rattle.core_guard.proofs.Scenes.{state-live, state-tells_live}
use Rattle.core_guard.proofs.Seats.{each-seat, has-seat, seat_seen, seen_at, seen_of}
use Rattle.core_guard.proofs.Settled.{sound}
use Rattle.core_guard.proofs.Touched.{IsKept, kept}
use Rattle.core_batch.proofs.Owning.{batch-home}
use Rattle.core_update.proofs.AtRest.{IsQuietUpdate, no-second, quiet-alone}
use Rattle.core_update.proofs.EarlySteps.{Invariants-early, NotesGoOn, early-quiet}
use Rattle.core_update.proofs.Looked.{IsNewNote, LooksRight, looked-notes, looked-to_place}
use Rattle.core_update.proofs.MergedTrees.{merged-still, still-merged}
use Rattle.core_update.proofs.OtherUpdate.{notes-next}
use Rattle.core_update.proofs.Phases.{phase-cases, slot-in}
use Rattle.core_update.proofs.Rebuilt.{IsAlone, Rebuilds, changes, unseen-load}
use Rattle.core_update.proofs.Updating.{others-update-none, own-says}

old-published : (r : Rebuild) (home : Home) → IsOldTree r home → IsPublished home
old-published r (under name) h = tt
old-published r _ h = absurd h

moves-handled : (task : Task) (i : ℕ) → MovesBody task i → IsHandled task i
moves-handled (Moving index target) i h = h
moves-handled _ i h = absurd h

module _ (core : Core) (step : Step) (a : Acts core step) (asked : MayLookAtBody step.view step.name step.first step.second) where
  abbrev kind : Kind
  kind = look_at_body

  abbrev After : Core
  After = after_step kind core step

  abbrev index : ℕ
  index = asked.index

  abbrev r : Rebuild
  r = asked.r

  abbrev found : ℕ
  found = found_by core step

  abbrev nodes : Nodes
  nodes = a.laws.nodes

  alone : IsAlone core step
  alone = others-update-none core a.laws a.formed step a.at a.pass r asked.update

  unstored : ¬ Stores kind core step
  unstored stored = false≢true stored

  config : step.view.config ≡ core.config
  config = (sound core step a).config

  quiet-now : (seat number : ℕ) (view : View) → IsViewAt core seat view → IsPass view number → IfSome view.rebuild (IsQuietUpdate core.config)
  quiet-now = quiet-alone core step a.at alone (subst (λ (o : Option Rebuild). IfSome o (IsQuietUpdate core.config)) (sym asked.update) (early-quiet core.config r asked.early))

  -- ---- the body stands still, and nobody handles it

  holds : Holds step.view (stripe_of core.config index) asked.mode
  holds = subst (λ (c : Config). Holds step.view (stripe_of c index) asked.mode) config asked.stripe

  unhandled : (seat number : ℕ) (view : View) → IsViewAt core seat view → IsPass view number → ¬ IsHandled view.call.task index
  unhandled seat number view at is handled =
      elim (cases_eq step.seat seat) [
        | inl same ↦
            let one : step.view ≡ view = at_one core.views step.seat step.view view a.at (subst (λ (k : ℕ). IsViewAt core k view) (sym same) at) in
            subst (λ (t : Task). IsHandled t index) (ap (λ (v : View). v.call.task) (sym one) ∙ asked.idle) handled
        | inr apart ↦
            let stripe =
            handled-stripe (sight body_scope core) view view.call.task index handled
            (each-seat body_scope (λ k v. refl) core (λ k v. IsUnderStripe (sight body_scope core) v v.call.task) a.laws.bodies.stripes seat number view at is)
            in
            none-some asked.mode (sym (writer-alone core (stripe_of core.config index) seat step.seat number step.number view step.view a.laws.locks at is stripe apart a.at a.pass) ∙ holds)
      ]

  phase-known : word_of core (Phase index) ≡ known_word step.view (Phase index)
  phase-known = known-now kind core step a.at a.pass (Phase index) a.formed a.guards (by_lock (stripe_of core.config index) asked.mode holds refl)

  live-known : 256 ≤ known_word step.view (State index) → (name : Name) → IsBodyWord index name → word_of core name ≡ known_word step.view name
  live-known live name of_body =
      live-still core step.seat step.number step.view index asked.mode name a.formed a.guards a.at a.pass holds (subst (λ (c : Config). 256 ≤ word c step.view.known (State index)) config live) of_body
      ∙ ap (λ (c : Config). word c step.view.known name) (sym config)

  learned-word : (name : Name) → known_word (learned core step) name ≡ word_of core name
  learned-word name = ap (λ (c : Config). word c core.log name) config

  unsecond : word_of core (LocB index) ≡ 0
  unsecond = no-second core a.laws quiet-now index

  -- ---- what its location tells

  abbrev Places : Sight
  Places = sight location_scope core

  abbrev Bodies : Sight
  Bodies = sight body_scope core

  unremoved : ¬ IsRemoved Places index
  unremoved removed =
      let from = has-seat location_scope (λ k v. refl) core removed.0 (λ v. Removes v.call.task index) removed.1 in
      unhandled from.seat removed.0 from.view from.at from.pass (removes-handled from.view.call index from.holds)

  -- a held body stands in nodes of its batch
  held-off : (n k : ℕ) → k < 4 → word_of core (LocA index) ≡ place n k → IsPublished (nodes.home n) → ¬ HasBody (scene_of core) index (λ q. q.phase ≡ Held)
  held-off n k below at published held =
      let t = a.laws.bodies.held index held in
      let one = flat_from (λ (v : View). v.batches) Bodies.passes t.0 t.2 in
      let from = seen_at body_scope core one.0 one.1 in
      let mine : Contains from.view.batches t.0 = subst (λ (v : View). Contains v.batches t.0) (sym from.is) one.2 in
      let all = contains_flat (λ (v : View). v.batches) Places.passes (seen_of location_scope from.number from.view) t.0 (seat_seen location_scope core from.seat from.number from.view from.at from.pass) mine in
      let loc : word_of core (LocA t.1.index) ≡ place n k = ap (λ (j : ℕ). word_of core (LocA j)) t.4 ∙ at in
      elim ((a.laws.locations.held t.0 t.1 all t.3).0) [
        | inl none ↦ let zero = none.1 in absurd (omega arith)
        | inr p ↦
            let same : p.2.0 ≡ n = let one = p.1 in let two = p.2.3 in let low = p.2.2 in omega arith in
            let among : Contains from.view.batches t.0 = mine in
            let home = batch-home core nodes a.laws.places from.seat from.number from.view from.at from.pass p.2.0
            (Contains-append_left (flat_map (λ (b : Batch). b.nodes) from.view.batches) from.view.loose p.2.0 (contains_flat (λ (b : Batch). b.nodes) from.view.batches t.0 p.2.0 among p.2.4)) in
            subst IsPublished (ap nodes.home (sym same) ∙ home) published
      ]

  -- so a body at a place of a published tree is in the broad phase
  tree-live : (n k : ℕ) → k < 4 → word_of core (LocA index) ≡ place n k → IsPublished (nodes.home n) → (q : Record) × (record_at (scene_of core) index ≡ Some q) × (q.phase ≡ In)
  tree-live n k below at published = go (record_at (scene_of core) index) refl
    where
      go : (o : Option Record) → record_at (scene_of core) index ≡ o → (q : Record) × (record_at (scene_of core) index ≡ Some q) × (q.phase ≡ In)
      go None e = let none = (a.laws.locations.dead index (ap is_some e)).0 in absurd (omega arith)
      go (Some q) e =
          elim (phase-cases q.phase) [
            | inl out ↦ let none = (a.laws.locations.out index (record_body _ (λ x. x.phase ≡ Out) q e out) unremoved).0 in absurd (omega arith)
            | inr more ↦ elim more [
              | inl held ↦ absurd (held-off n k below at published (record_body _ (λ x. x.phase ≡ Held) q e held))
              | inr inside ↦ (q, e, inside)
            ]
          ]

  -- ---- the words of a live body

  module _ (q : Record) (is : record_at (scene_of core) index ≡ Some q) where
    words : HasWordsOf Bodies index q
    words = a.laws.bodies.live index q is

    whole : HasWholeBox Bodies index
    whole number has =
        let from = has-seat body_scope (λ k v. refl) core number (λ v. IsBetweenBoxes v index) has in
        unhandled from.seat number from.view from.at from.pass (moves-handled from.view.call.task index from.holds.0)

    -- where it stands by its first location, if it is in the broad phase
    stands-in : (n k : ℕ) → k < 4 → word_of core (LocA index) ≡ place n k → q.phase ≡ In
        → ((t : ℕ) × (word_of core (Phase index) ≡ phase_join t) × (nodes.home n ≡ under (Slot q.layer t))) ⊎ ((word_of core (Phase index) ≡ phase_in) × (nodes.home n ≡ under (Main q.layer)))
    stands-in n k below at inside = go (a.laws.locations.first index q n k is inside below at)
      where
        go : IsWhere nodes Places index q.layer n
            → ((t : ℕ) × (word_of core (Phase index) ≡ phase_join t) × (nodes.home n ≡ under (Slot q.layer t))) ⊎ ((word_of core (Phase index) ≡ phase_in) × (nodes.home n ≡ under (Main q.layer)))
        go (in_slot t e home second) = inl (t, e, home)
        go (in_main e home second) = inr (e, home)
        go (in_old number name e second home of_layer) = absurd (second unsecond)
        go (in_merged number t root e second home has) = absurd (second unsecond)

  -- ---- the law of bodies

  abbrev Sees : Sight
  Sees = sight cover_scope core

  abbrev Seen : View
  Seen = seen_of cover_scope step.number step.view

  abbrev R : Rebuild
  R = update_on_cover r

  own-cover : (P : ℕ → View → Rebuild → Type 0) → EachUpdate Sees P → P step.number Seen R
  own-cover = own-says cover_scope (λ k v. refl) update_on_cover (λ k v. refl) core step.seat step.number step.view r a.at a.pass asked.update

  was : NotesHold nodes Sees Seen R
  was = own-cover (λ k v x. NotesHold nodes Sees v x) a.laws.cover.notes

  merged : KeepsMerged Sees R
  merged = own-cover (λ k v x. KeepsMerged Sees x) a.laws.cover.merged

  -- what the update becomes
  record IsResult (q : Rebuild) : Type 0 where
    is : body_looked_at (learned core step) step.name found r ≡ q
    early : IsEarly q
    nodes_as : update_on_nodes q ≡ update_on_nodes r
    notes : NotesGoOn nodes kind core step (Some q)

  module _ (q : Rebuild) (is : body_looked_at (learned core step) step.name found r ≡ q) where
    rebuilds : Rebuilds kind core step (Some q)
    rebuilds = record {
      hidden = λ stored. absurd (unstored stored);
      entry = λ value. refl;
      leaves =
          ap (λ (o : Option Rebuild). record (learned core step) { rebuild = option_map (body_looked_at (learned core step) step.name found) o }) asked.update
          ∙ ap (λ (x : Rebuild). record (learned core step) { rebuild = Some x }) is;
    }

    after-notes : (x : Rebuild) → NotesHold nodes Sees Seen x → NotesHold nodes (record Sees { passes = (sight cover_scope After).passes }) (record Seen { rebuild = Some (update_on_cover q) }) x
    after-notes x h =
        notes-next nodes Sees (sight cover_scope After).passes step.number Seen (Some (update_on_cover q))
        (changes kind core step a (Some q) rebuilds alone cover_scope (λ k v. refl) update_on_cover refl (λ number view e. ap (option_map update_on_cover) e)) x h

  finish : (q : Rebuild) → IsResult q → Invariants After
  finish q x =
      let b = rebuilds q x.is in
      let idle : (i : ℕ) → ¬ IsPlacing step.view.call.task i = λ i placing. subst (λ (t : Task). IsPlacing t i) asked.idle placing in
      Invariants-early kind core step a (Some q) b alone (subst (λ (o : Option Rebuild). IfSome o IsEarly) (sym asked.update) asked.early) x.early
      (λ i n k placing plan. absurd (idle i placing)) (λ i n k placing plan. absurd (idle i placing)) x.notes
      (unseen-load kind core step a (Some q) b unstored node_scope (NodesInOnePlaceIn nodes)
      (λ i. record (seen_of node_scope step.number step.view) { rebuild = (ap Some x.nodes_as ∙ sym (ap (option_map update_on_nodes) asked.update)) i }) a.laws.places)

  -- ---- it stays at the body

  stays : body_looked_at (learned core step) step.name found r ≡ r → Invariants After
  stays is =
      finish r
      (record {
        is = is;
        early = asked.early;
        nodes_as = refl;
        notes = record {
          to_place = own-cover (λ k v x. (i l t root : ℕ) → i < x.passed → IsStillMerged x l t root → HasBody (scene_in Sees) i (λ b. b.layer ≡ l) → Sees.word (Phase i) ≡ phase_join t → IsNoted x i (λ n. ¬ IsDone v x i)) a.laws.cover.to_place;
          notes = after-notes r is R was;
          merged = record { stand = merged.stand; read = merged.read; each_once = merged.each_once };
          early = asked.early.swapped;
        };
      })

  -- ---- it goes on to the next one

  goes-on : (extra : List Noted) → LooksRight nodes Sees Seen R index extra → body_looked_at (learned core step) step.name found r ≡ record r { passed = r.passed + 1; noted = r.noted ++ extra } → Invariants After
  goes-on extra looks is =
      let e = asked.early in
      let q : Rebuild = record r { passed = r.passed + 1; noted = r.noted ++ extra } in
      finish q
      (record {
        is = is;
        early = record { unplanned = e.unplanned; placed = e.placed; given_up = e.given_up; swapped = e.swapped; cleared = e.cleared; promoted = e.promoted; readers = e.readers; unreclaimed = e.unreclaimed; returning = e.returning; unswitched = e.unswitched };
        nodes_as = refl;
        notes = record {
          to_place = looked-to_place nodes Sees Seen R index extra looks asked.next e.placed e.given_up
              (own-cover (λ k v x. (i l t root : ℕ) → i < x.passed → IsStillMerged x l t root → HasBody (scene_in Sees) i (λ b. b.layer ≡ l) → Sees.word (Phase i) ≡ phase_join t → IsNoted x i (λ n. ¬ IsDone v x i)) a.laws.cover.to_place);
          notes = after-notes q is (update_on_cover q) (looked-notes nodes Sees Seen R index extra looks asked.next e.placed e.given_up was);
          merged = record { stand = merged.stand; read = merged.read; each_once = merged.each_once };
          early = e.swapped;
        };
      })

  -- past a body that is in no tree that it replaces, and does not join one
  passes : ¬ IsInOldTree nodes Sees R index → ((l t root : ℕ) → IsStillMerged R l t root → HasBody (scene_of core) index (λ b. b.layer ≡ l) → word_of core (Phase index) ≡ phase_join t → ⊥)
      → body_looked_at (learned core step) step.name found r ≡ record r { passed = r.passed + 1 } → Invariants After
  passes off unjoined is =
      goes-on []
      (record {
        each = λ n among. absurd (none_in n among);
        once = λ i j d below inside. absurd (omega arith);
        in_tree = λ tree. absurd (off tree);
        joins = λ l t root still body joins. absurd (unjoined l t root still body joins);
      })
      (is ∙ (λ i. record r { passed = r.passed + 1; noted = sym (append-nil r.noted) i }))

  -- ---- the cases

  found-is : (name : Name) → step.name ≡ name → found ≡ word_of core name
  found-is name e = ap (word_of core) e

  by-name : (name : Name) → step.name ≡ name → body_looked_at (learned core step) step.name found r ≡ body_looked_at (learned core step) name found r
  by-name name e = ap (λ (n : Name). body_looked_at (learned core step) n found r) e

  -- a body of an old tree is live, and there by its phase
  abbrev Tree : Type 0
  Tree = (q : Record) × (record_at (scene_of core) index ≡ Some q) × (q.phase ≡ In)
      × (((t : ℕ) × (word_of core (Phase index) ≡ phase_join t) × ((root : ℕ) × IsStillMerged R q.layer t root)) ⊎ (word_of core (Phase index) ≡ phase_in))

  old-tree : IsInOldTree nodes Sees R index → Tree
  old-tree t =
      let q = tree-live t.0 t.1 t.2 t.3 (old-published R (nodes.home t.0) t.4) in (
        q.0,
        q.1,
        q.2,
        elim (stands-in q.0 q.1 t.0 t.1 t.2 t.3 q.2) [
          | inl s ↦ inl (s.0, s.1, subst (IsOldTree R) s.2 t.4)
          | inr m ↦ inr m.0
        ],
      )

  by-state : step.name ≡ State index → Invariants After
  by-state e =
      elim (cases_Bool (nat_le 256 found)) [
        | inl live ↦ stays (by-name (State index) e ∙ ap (λ (t : Bool). passed_if (not t) r) live)
        | inr dead ↦
            let low : word_of core (State index) < 256 = let same = found-is (State index) e in let less = leb-false 256 found dead in omega arith in
            let below : index < core.config.bodies = subst (IsName core.config) e a.named in
            let none : (q : Record) → record_at (scene_of core) index ≢ Some q =
            λ q is. let live = state-live (place_at (scene_of core) index) (ap is_some is) in let word = a.laws.bodies.state index below in omega arith
            in
            passes (λ tree. let t = old-tree tree in none t.0 t.1)
            (λ l t root still body joins. let q = body_record (record_at (scene_of core) index) _ body in none q.0 q.1)
            (by-name (State index) e ∙ ap (λ (t : Bool). passed_if (not t) r) dead)
      ]

  by-phase : step.name ≡ Phase index → Invariants After
  by-phase e =
      elim (cases_Bool (eqb found 0)) [
        | inl zero ↦
            let none : word_of core (Phase index) ≡ 0 = sym (found-is (Phase index) e) ∙ eqb-true found 0 zero in
            passes
            (λ tree.
            let t = old-tree tree in
            elim (t.3) [
              | inl s ↦ let join = s.1 in absurd (omega arith)
              | inr m ↦ absurd (omega arith)
            ])
            (λ l t root still body joins. absurd (omega arith)) (by-name (Phase index) e ∙ ap (λ (t : Bool). passed_if t r) zero)
        | inr some ↦ stays (by-name (Phase index) e ∙ ap (λ (t : Bool). passed_if t r) some)
      ]

  by-layer : (slot : ℕ) → step.name ≡ Layer index → known_word step.view (Phase index) ≡ phase_join slot → Invariants After
  by-layer slot e join =
      let phase : word_of core (Phase index) ≡ phase_join slot = phase-known ∙ join in
      let t : ℕ = known_word (learned core step) (Phase index) - 2 in
      let slot-is : t ≡ slot = let now = learned-word (Phase index) in omega arith in
      elim (cases_Bool (is_merged r found t)) [
        | inl is ↦ stays (by-name (Layer index) e ∙ ap (λ (b : Bool). passed_if (not b) r) is)
        | inr off ↦
            let unmerged : (q : Record) (root : ℕ) → record_at (scene_of core) index ≡ Some q → IsStillMerged R q.layer slot root → ⊥ =
            λ q root is still.
            let layer : found ≡ q.layer = found-is (Layer index) e ∙ (words q is).layer in
            true≢false (sym (still-merged R q.layer slot root still) ∙ ((λ i. is_merged r (sym layer i) (sym slot-is i)) ∙ off))
            in
            passes
            (λ tree.
            let x = old-tree tree in
            elim (x.3) [
              | inl s ↦ let same : s.0 ≡ slot = let join = s.1 in omega arith in unmerged x.0 s.2.0 x.1 (subst (λ (k : ℕ). IsStillMerged R x.0.layer k s.2.0) same s.2.1)
              | inr m ↦ absurd (omega arith)
            ])
            (λ l k root still body joins.
            let q = body_record (record_at (scene_of core) index) _ body in
            let same : k ≡ slot = omega arith in
            unmerged q.0 root q.1 (subst (λ (j : ℕ). IsStillMerged R q.0.layer j root) same (subst (λ (j : ℕ). IsStillMerged R j k root) (sym q.2) still)))
            (by-name (Layer index) e ∙ ap (λ (b : Bool). passed_if (not b) r) off)
      ]

  -- ---- a body that is noted

  module _ (e : step.name ≡ LocA index) (live : 256 ≤ known_word step.view (State index)) (to_note : IsToNote step.view r index) where
    abbrev new : Noted
    new = note_of (learned core step) index found

    some-record : (q : Record) × (record_at (scene_of core) index ≡ Some q) × Unit {0}
    some-record =
        let below : index < core.config.bodies = subst (IsName core.config) e a.named in
        let high : 256 ≤ state_word (place_at (scene_of core) index) = let known = live-known live (State index) refl in let is = a.laws.bodies.state index below in omega arith in
        go (record_at (scene_of core) index) refl (state-tells_live (place_at (scene_of core) index) high)
      where
        go : (o : Option Record) → record_at (scene_of core) index ≡ o → IsSome o → (q : Record) × (record_at (scene_of core) index ≡ Some q) × Unit {0}
        go None is some = absurd (false≢true some)
        go (Some q) is some = (q, is, tt)

    abbrev q : Record
    q = some-record.0

    is-live : record_at (scene_of core) index ≡ Some q
    is-live = some-record.1

    layer-known : known_word step.view (Layer index) ≡ q.layer
    layer-known = sym (live-known live (Layer index) refl) ∙ (words q is-live).layer

    -- by its phase it is in the tree of a slot that is merged, or in a main tree
    where-known : ((t : ℕ) × (word_of core (Phase index) ≡ phase_join t) × ((root : ℕ) × IsStillMerged R q.layer t root)) ⊎ (word_of core (Phase index) ≡ phase_in)
    where-known = go to_note
      where
        go : IsToNote step.view r index → ((t : ℕ) × (word_of core (Phase index) ≡ phase_join t) × ((root : ℕ) × IsStillMerged R q.layer t root)) ⊎ (word_of core (Phase index) ≡ phase_in)
        go (note_main phase) = inr (phase-known ∙ phase)
        go (note_merged t phase is) =
            let m = merged-still r (known_word step.view (Layer index)) t asked.early.cleared is in
            inl (t, phase-known ∙ phase, (m.0, subst (λ (l : ℕ). IsStillMerged R l t m.0) layer-known m.1))

    is-in : q.phase ≡ In
    is-in =
        elim where-known [
          | inl s ↦
              let word : word_of core (Slot q.layer s.0) ≡ slot_tree s.2.0 = merged.stand q.layer s.0 s.2.0 s.2.1 in
              let phase : phase_by (phase_join s.0) (word_of core (Slot q.layer (phase_join s.0 - 2))) ≡ Some q.phase =
              subst (λ (w : ℕ). phase_by w (word_of core (Slot q.layer (w - 2))) ≡ Some q.phase) s.1 (words q is-live).phase
              in
              let at : phase_join s.0 - 2 ≡ s.0 = omega arith in
              let tree : phase_by_slot (word_of core (Slot q.layer (phase_join s.0 - 2))) ≡ Some In = ap (λ (k : ℕ). phase_by_slot (word_of core (Slot q.layer k))) at ∙ slot-in (word_of core (Slot q.layer s.0)) (omega arith) in
              same_Some q.phase In (sym phase ∙ (phase-join s.0 (word_of core (Slot q.layer (phase_join s.0 - 2))) ∙ tree))
          | inr m ↦ same_Some q.phase In (sym (subst (λ (w : ℕ). phase_by w (word_of core (Slot q.layer (w - 2))) ≡ Some q.phase) m (words q is-live).phase))
        ]
      where
        phase-join : (t slot : ℕ) → phase_by (phase_join t) slot ≡ phase_by_slot slot
        phase-join t slot = let two : phase_join t ≡ suc (suc t) = omega arith in ap (λ (w : ℕ). phase_by w slot) two

    tree : IsInOldTree nodes Sees R index
    tree =
        let t = a.laws.cover.covered index q is-live is-in in
        let at : word_of core (LocA index) ≡ place t.0 t.1 = elim (t.2.1) [ inl one ↦ one | inr two ↦ let none = unsecond in absurd (omega arith) ] in (
          t.0,
          t.1,
          t.2.0,
          at,
          elim (stands-in q is-live t.0 t.1 t.2.0 at is-in) [
            | inl s ↦
                elim where-known [
                  | inl m ↦ let same : m.0 ≡ s.0 = let one = m.1 in let two = s.1 in omega arith in subst (IsOldTree R) (sym s.2) (m.2.0, subst (λ (k : ℕ). IsStillMerged R q.layer k m.2.0) same m.2.1)
                  | inr m ↦ let join = s.1 in absurd (omega arith)
                ]
            | inr m ↦ subst (IsOldTree R) (sym m.1) (let few = ap (λ (l : List ℕ). length l) asked.early.swapped in omega arith)
          ],
        )

    same-body : (generation_known (learned core step) index ≡ q.generation)
    same-body = ap (λ (c : Config). generation_of (record_at (scene_at c core.log) index)) config ∙ ap generation_of is-live

    layer-now : known_word (learned core step) (Layer index) ≡ q.layer
    layer-now = learned-word (Layer index) ∙ (words q is-live).layer

    noted-as : IsAsNoted Sees new
    noted-as = record {
      looks = record { state = sym (learned-word (State index)); location = ap (word_of core) (sym e) };
      phase = λ left. sym (learned-word (Phase index));
      layer = sym (learned-word (Layer index));
      same = record_body (record_at (scene_of core) index) _ q is-live (sym same-body, sym layer-now);
    }

    -- the box words are those of the record
    box-now : new.bounds ≡ words_of q.bounds
    box-now =
        let side : (k : ℕ) → k < 6 → known_word (learned core step) (BoxWord index k) ≡ slice_index (words_of q.bounds) k = λ k below. learned-word (BoxWord index k) ∙ (words q is-live).bounds (whole q is-live) k below in
        λ i. side 0 (omega arith) i ∷ side 1 (omega arith) i ∷ side 2 (omega arith) i ∷ side 3 (omega arith) i ∷ side 4 (omega arith) i ∷ side 5 (omega arith) i ∷ []

    new-note : IsNewNote nodes Sees Seen R index new
    new-note =
        let at : found ≡ place tree.0 tree.1 = found-is (LocA index) e ∙ tree.3 in
        record {
          index_is = refl;
          tree = tree;
          noted = noted-as;
          located = λ none. absurd (omega arith);
          in_old = (tree.0, tree.1, tree.2, at, tree.4);
          box = (
            length Sees.history,
            was.begun,
            omega arith,
            subst (λ (s : Scene). HasBody s index (λ x. (x.generation ≡ new.generation) × (x.layer ≡ new.layer) × (sides_of new.bounds ≡ sides_of (words_of x.bounds)))) (sym (last_point core))
                (record_body (record_at (scene_of core) index) _ q is-live (sym same-body, sym layer-now, ap sides_of box-now)),
          );
        }

    by-location : Invariants After
    by-location =
        goes-on (new ∷ [])
        (record {
          each = λ n among. subst (IsNewNote nodes Sees Seen R index) (only new n among) new-note;
          once = λ i j d below inside. absurd (omega arith);
          in_tree = λ t. (new, contains_first new []);
          joins = λ l t root still body joins. (new, contains_first new []);
        })
        (by-name (LocA index) e)

  Invariants-looks : Invariants After
  Invariants-looks = go asked.looks
    where
      go : IsLookedAt step.view r index step.name → Invariants After
      go (by_state e) = by-state e
      go (by_phase e) = by-phase e
      go (by_layer slot e live join) = by-layer slot e join
      go (by_location e live to_note) = by-location e live to_note

-- ---- kind 15, for an update

pub Invariants-look_at_body : IsKept MayLookAtBody look_at_body
Invariants-look_at_body = kept MayLookAtBody look_at_body (λ core step a asked. Invariants-looks core step a asked)

pub GuardsHold-look_at_body : IsGuarded MayLookAtBody look_at_body
GuardsHold-look_at_body before after steps formed laws guards = GuardsHold-load MayLookAtBody look_at_body before after (λ found first. refl) steps guards
