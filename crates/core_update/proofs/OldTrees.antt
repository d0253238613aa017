-- A body that an update is to give up is in none of the trees that the update replaces: who is, is in the broad phase, and is as
-- it was noted.
use Rattle.std.proofs.Common.{◌≡◌, ◌≢◌, ℕ, ◌≤◌, Contains, Option, Some, None, refl, ap, sym, ◌∙◌, subst, inl, inr, arith}
use Rattle.std.specs.Prelude.{IsNone, ◌-◌}
use Rattle.std.proofs.lemmas.Bool.{cases_eq}
use Rattle.std.proofs.lemmas.Option.{same_Some}
use Rattle.scene_model.specs.declared.body_view.Phase.{Phase as BodyPhase}
use Rattle.scene_model.specs.declared.body_view.Phase.TheVariants.{Out, Held, In}
use Rattle.scene_model.specs.Scene.{Record, record_at}
use Rattle.scene_model.specs.Step.{HasBody}
use Rattle.word_map.specs.declared.config.Config.{Config}
use Rattle.word_map.specs.declared.name.Name.TheVariants.{State, Phase, Layer, LocA, LocB, Slot}
use Rattle.word_map.specs.Names.{stripe_of}
use Rattle.core_state.specs.declared.view.Mode.TheVariants.{Write}
use Rattle.core_state.specs.declared.view.Noted.{Noted}
use Rattle.core_state.specs.declared.view.Rebuild.{Rebuild}
use Rattle.core_state.specs.declared.view.Task.{Task}
use Rattle.core_state.specs.declared.view.View.{View}
use Rattle.core_state.specs.View.{IsPass, Holds, known_word}
use Rattle.core_state.specs.Log.{word}
use Rattle.core_state.specs.Core.{Core, word_of, scene_of, IsViewAt}
use Rattle.core_state.specs.Encoding.{phase_join}
use Rattle.core_state.specs.Guards.{by_lock}
use Rattle.core_state.specs.Kind.{Kind, Step}
use Rattle.core_state.specs.Bodies.{phase_by}
use Rattle.core_state.specs.Parts.{update_on_cover}
use Rattle.core_state.specs.Placing.{MayGiveUp, is_out, is_elsewhere, is_another}
use Rattle.core_state.specs.Scope.{Sight, sight}
use Rattle.core_state.specs.Updates.{IsDone, IsOldTree, IsStillMerged}
use Rattle.core_state.specs.LocationsHold.{location_scope, IsRemoved, IsWhere, in_slot, in_main, in_old, in_merged, Removes}
use Rattle.core_state.specs.BodiesCovered.{cover_scope, IsInOldTree, LooksAsNoted}
use Rattle.core_state.proofs.Beginning.{record_body}
use Rattle.core_state.proofs.Guarding.{live-still}
use Rattle.core_guard.proofs.BodiesStep.{known-now}
use Rattle.core_guard.proofs.BodyTouch.{stripe-alone}
use Rattle.core_guard.proofs.Leaving.{Acts, IsHandled, out_in, old-stands, stands-in_tree, idle-unhandled}
use Rattle.core_guard.proofs.NodesLeft.{flat_from}
use Rattle.core_guard.proofs.OneUpdate.{second-placed}
use Rattle.core_guard.proofs.PlacesStay.{removes-handles, seen-task}
use Rattle.core_guard.proofs.Seats.{has-seat, seen_at}
use Rattle.core_guard.proofs.Settled.{sound, settled-still}
use Rattle.core_batch.proofs.HeldFacts.{mark-off}
use Rattle.core_state.specs.BodiesAgree.{body_scope}
use Rattle.core_update.proofs.OwnNotes.{Covering, own-notes, note-once}

module _ (core : Core) (step : Step) (a : Acts core step) where
  abbrev Old : Sight
  Old = sight cover_scope core

  -- a body that a batch holds is in no tree
  held-off : (i : ℕ) (r : Rebuild) → HasBody (scene_of core) i (λ b. b.phase ≡ Held) → ¬ IsInOldTree a.laws.nodes Old r i
  held-off i r held tree =
      let t = a.laws.bodies.held i held in
      let from_list = flat_from (λ (v : View). v.batches) (sight body_scope core).passes t.0 t.2 in
      let from = seen_at body_scope core from_list.0 from_list.1 in
      mark-off core a.formed a.laws from.seat from.number from.view from.at from.pass t.0 (subst (λ (v : View). Contains v.batches t.0) (sym from.is) from_list.2) t.1 t.3 tree.0 tree.1 tree.2
      (ap (λ (j : ℕ). word_of core (LocA j)) t.4 ∙ tree.3) (stands-in_tree (a.laws.nodes.home tree.0) (old-stands r (a.laws.nodes.home tree.0) tree.4))

  -- so one that nobody takes out is in the broad phase
  pub old-inside : (i : ℕ) (r : Rebuild) → ¬ IsRemoved (sight location_scope core) i → IsInOldTree a.laws.nodes Old r i → (b : Record) × (record_at (scene_of core) i ≡ Some b) × (b.phase ≡ In)
  old-inside i r kept tree = go (record_at (scene_of core) i) refl
    where
      away : word_of core (LocA i) ≢ 0
      away none = let at = tree.3 in absurd (omega arith)

      by-phase : (b : Record) (phase : BodyPhase) → record_at (scene_of core) i ≡ Some b → b.phase ≡ phase → (x : Record) × (record_at (scene_of core) i ≡ Some x) × (x.phase ≡ In)
      by-phase b Out e is = absurd (away (a.laws.locations.out i (record_body (record_at (scene_of core) i) (λ x. x.phase ≡ Out) b e is) kept).0)
      by-phase b Held e is = absurd (held-off i r (record_body (record_at (scene_of core) i) (λ x. x.phase ≡ Held) b e is) tree)
      by-phase b In e is = (b, e, is)

      go : (o : Option Record) → record_at (scene_of core) i ≡ o → (x : Record) × (record_at (scene_of core) i ≡ Some x) × (x.phase ≡ In)
      go None e = absurd (away (a.laws.locations.dead i (subst IsNone (sym e) refl)).0)
      go (Some b) e = by-phase b b.phase e refl

module _ (core : Core) (step : Step) (a : Acts core step) (index : ℕ) (asked : MayGiveUp index step.view step.name step.first step.second) where
  abbrev Past : Sight
  Past = sight cover_scope core

  abbrev i : ℕ
  i = asked.noted.index

  pub stripe : Holds step.view (stripe_of core.config i) Write
  stripe =
      subst (λ (c : Config). Holds step.view (stripe_of c i) Write) (sound core step a).config
      (subst (λ (j : ℕ). Holds step.view (stripe_of step.view.config j) Write) (sym asked.of_body) asked.stripe)

  -- nobody takes it out, or moves or places it
  pub alone : (kind : Kind) (seat number : ℕ) (view : View) → IsViewAt core seat view → IsPass view number → ¬ IsHandled view.call.task i
  alone kind = stripe-alone kind core step a i stripe (subst (λ (t : Task). ¬ IsHandled t i) (sym asked.idle) (λ no. no))

  pub unremoved : (kind : Kind) → ¬ IsRemoved (sight location_scope core) i
  unremoved kind h =
      let from = has-seat location_scope (λ k v. refl) core h.0 (λ v. Removes v.call.task i) h.1 in
      alone kind from.seat h.0 from.view from.at from.pass (removes-handles from.view.call.task i (seen-task (λ t. Removes t i) (λ t calm removes. idle-unhandled t i calm (removes-handles t i removes)) from.view.call from.holds))

  pub undone-yet : (view : View) → ¬ IsDone view (update_on_cover asked.r) i
  undone-yet view done =
      elim done [
        | inl t ↦ asked.unplaced (subst (λ (j : ℕ). Contains asked.r.placed j) asked.of_body t.0)
        | inr t ↦ asked.kept (subst (λ (j : ℕ). Contains asked.r.given_up j) asked.of_body t)
      ]

  -- it has no second location
  pub second-none : word_of core (LocB i) ≡ 0
  second-none =
      elim (cases_eq (word_of core (LocB i)) 0) [
        | inl none ↦ none
        | inr some ↦
            absurd
            (asked.unplaced
            (subst (λ (j : ℕ). Contains asked.r.placed j) asked.of_body
            (second-placed core a.formed a.laws.nodes a.laws.places a.laws.locations i some step.seat step.number step.view asked.r a.at a.pass asked.update)))
      ]

  phase-known : (kind : Kind) → word_of core (Phase i) ≡ known_word step.view (Phase i)
  phase-known kind = known-now kind core step a.at a.pass (Phase i) a.formed a.guards (by_lock (stripe_of core.config i) Write stripe refl)

  layer-known : 256 ≤ known_word step.view (State i) → word_of core (Layer i) ≡ known_word step.view (Layer i)
  layer-known live =
      let config = (sound core step a).config in
      live-still core step.seat step.number step.view i Write (Layer i) a.formed a.guards a.at a.pass stripe (subst (λ (c : Config). 256 ≤ word c step.view.known (State i)) config live) refl
      ∙ ap (λ (c : Config). word c step.view.known (Layer i)) (sym config)

  pub not-in_old : (kind : Kind) → ¬ IsInOldTree a.laws.nodes Past (update_on_cover asked.r) i
  not-in_old kind tree = go (old-inside core step a i (update_on_cover asked.r) (unremoved kind) tree)
    where
      elsewhere : (b : Record) (slot : ℕ) → word_of core (Phase i) ≡ phase_join slot → ((root : ℕ) → ¬ IsStillMerged asked.r b.layer slot root) → IsWhere a.laws.nodes (sight location_scope core) i b.layer tree.0 → ⊥
      elsewhere b slot joins none (in_slot t e home second) =
          let same : t ≡ slot = let x = e in let y = joins in omega arith in
          let old = subst (IsOldTree (update_on_cover asked.r)) home tree.4 in
          none old.0 (subst (λ (x : ℕ). IsStillMerged asked.r b.layer x old.0) same old.1)
      elsewhere b slot joins none (in_main e home second) = absurd (omega arith)
      elsewhere b slot joins none (in_old number name e some home of_layer) = absurd (omega arith)
      elsewhere b slot joins none (in_merged number t root e some home has) = absurd (omega arith)

      go : (b : Record) × (record_at (scene_of core) i ≡ Some b) × (b.phase ≡ In) → ⊥
      go b =
          elim (asked.gone) [
            | is_out out ↦
                let words = a.laws.bodies.live i b.0 b.1 in
                let phase : word_of core (Phase i) ≡ 0 = phase-known kind ∙ out in
                let says : Some Out ≡ Some b.0.phase = ap (λ (n : ℕ). phase_by n (word_of core (Slot b.0.layer (word_of core (Phase i) - 2)))) (sym phase) ∙ words.phase in
                out_in (same_Some Out b.0.phase says ∙ b.2)
            | is_elsewhere slot live joins none ↦
                elsewhere b.0 slot (phase-known kind ∙ joins)
                (λ root merged. none root (subst (λ (l : ℕ). IsStillMerged asked.r l slot root) (sym (a.laws.bodies.live i b.0 b.1).layer ∙ layer-known live) merged)) (a.laws.locations.first i b.0 tree.0 tree.1 b.1 b.2 tree.2 tree.3)
            | is_another settled other ↦
                let notes = own-notes core step a asked.r asked.update in
                let n = notes.all_noted i (notes.passed asked.noted asked.among, undone-yet (Covering core step a asked.r asked.update)) tree in
                let one : n.0 ≡ asked.noted = note-once asked.r.noted n.0 asked.noted notes.once n.1 asked.among n.2 in
                let looks = (subst (λ (x : Noted). LooksAsNoted Past x) one n.3.looks) in
                let known = settled-still core step a i settled in
                elim other [ inl state ↦ state (sym (known.words (State i) refl) ∙ looks.state) | inr location ↦ location (sym known.loc_a ∙ looks.location) ]
          ]
