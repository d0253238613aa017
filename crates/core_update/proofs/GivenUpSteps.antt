-- All laws hold after an update has given a body up: no walk comes to its entry, and it is in no tree that is replaced.
use Rattle.std.proofs.Common.{◌≡◌, ℕ, zero, suc, ◌<◌, ◌≤◌, [], ◌∷◌, ◌++◌, true, Option, Some, refl, ap, sym, ◌∙◌, subst, inl, inr, arith}
use Rattle.std.specs.Prelude.{IfSome, IsSomeAnd, option_map, ◌-◌}
use Rattle.std.proofs.lemmas.Bool.{false≢true, le-ltb}
use Rattle.std.proofs.lemmas.Option.{same_Some}
use Rattle.std.proofs.lemmas.List.Elements.{Contains-append_left, Contains-append_cases}
use Rattle.scene_model.specs.declared.body_view.Phase.TheVariants.{In}
use Rattle.scene_model.specs.Scene.{Record, record_at}
use Rattle.scene_model.specs.Step.{HasBody}
use Rattle.word_map.specs.declared.name.Name.{Name}
use Rattle.word_map.specs.declared.name.Name.TheVariants.{Phase, LocA, Child, Slot}
use Rattle.core_state.specs.declared.view.Rebuild.{Rebuild}
use Rattle.core_state.specs.declared.view.View.{View}
use Rattle.core_state.specs.Core.{Core, word_of, scene_of}
use Rattle.core_state.specs.Encoding.{place, phase_join, slot_tree}
use Rattle.core_state.specs.Kind.{Kind, Step, after_step}
use Rattle.core_state.specs.Nodes.{Nodes, under, Stands}
use Rattle.core_state.specs.Bodies.{phase_by, phase_by_slot}
use Rattle.core_state.specs.Parts.{call_at, task_on_pool, task_at_place, update_on_nodes, update_on_trees, update_on_cover, update_on_readers}
use Rattle.core_state.specs.Placing.{MayGiveUp, give_up}
use Rattle.core_state.specs.Scope.{Sight, sight, bare_view}
use Rattle.core_state.specs.Updates.{IsOldTree, IsStillMerged}
use Rattle.core_state.specs.LocksAgree.{lock_scope}
use Rattle.core_state.specs.BodiesAgree.{body_scope, BodiesAgreeIn}
use Rattle.core_state.specs.NodesInOnePlace.{node_scope, NodesInOnePlaceIn}
use Rattle.core_state.specs.TreesSound.{tree_scope, TreesSoundIn}
use Rattle.core_state.specs.LocationsHold.{location_scope, IsWhere, in_slot, in_main, in_old, in_merged}
use Rattle.core_state.specs.BodiesCovered.{BodiesCovered, BodiesCoveredIn, cover_scope, IsInOldTree}
use Rattle.core_state.specs.WalksLead.{walk_scope, WalksLeadIn}
use Rattle.core_state.specs.ReadersCounted.{reader_scope, ReadersCountedIn}
use Rattle.core_state.specs.Invariants.{Invariants}
use Rattle.core_state.proofs.Frames.{frame, step-same}
use Rattle.core_state.proofs.Beginning.{body_record}
use Rattle.core_state.proofs.Opening.{only}
use Rattle.core_state.proofs.Steps.{word-step-other}
use Rattle.core_guard.proofs.Cleared.{children_in, child-law, TreesSound-cleared, ReadersCounted-cleared}
use Rattle.core_guard.proofs.Holders.{keeps, IsGuarded, guarded}
use Rattle.core_guard.proofs.Leaving.{Acts, Last, lawful, scene-plain}
use Rattle.core_guard.proofs.LockSteps.{LocksAgree-other}
use Rattle.core_guard.proofs.Seats.{seen_of}
use Rattle.core_guard.proofs.Touched.{IsKept, kept}
use Rattle.core_guard.proofs.Unowned.{stands-unowned}
use Rattle.core_update.proofs.ClearedNew.{WalksLead-unreached}
use Rattle.core_update.proofs.GivenUpPlaces.{home, clears, live-same, LocationsHold-given_up}
use Rattle.core_update.proofs.OldTrees.{second-none, not-in_old}
use Rattle.core_update.proofs.SwappedCover.{own-right}
use Rattle.core_update.proofs.PlacingWidens.{unnoticed}
use Rattle.core_update.proofs.SwappedCover.{UpdateIsRight, FirstCover, SecondCover, BodiesCovered-swap, right-more, removed-again}

-- a phase that names the slot of a tree is that of a body in the broad phase
slot-in : (t slot : ℕ) (r : Record) → 1024 ≤ slot → phase_by (phase_join t) slot ≡ Some r.phase → r.phase ≡ In
slot-in t slot r high e = let two : phase_join t ≡ suc (suc t) = omega arith in go slot high (subst (λ (n : ℕ). phase_by n slot ≡ Some r.phase) two e)
  where
    go : (slot : ℕ) → 1024 ≤ slot → phase_by_slot slot ≡ Some r.phase → r.phase ≡ In
    go zero high e = absurd (omega arith)
    go (suc n) high e = sym (same_Some In r.phase (sym (rw (le-ltb (suc n) 1024 high) refl) ∙ e))

module _ (core : Core) (step : Step) (a : Acts core step) (index : ℕ) (asked : MayGiveUp index step.view step.name step.first step.second) where
  abbrev nodes : Nodes
  nodes = a.laws.nodes

  abbrev i : ℕ
  i = asked.noted.index

  abbrev kind : Kind
  kind = give_up index

  abbrev quiet : Kind
  quiet = record (give_up index) { leaves = unnoticed }

  abbrev u : Rebuild
  u = record asked.r { given_up = asked.r.given_up ++ index ∷ [] }

  abbrev with_more : Option Rebuild → Option Rebuild
  with_more o = option_map (λ (r : Rebuild). record r { given_up = r.given_up ++ index ∷ [] }) o

  -- a part of the update that does not read who was given up
  same-part : (part : Rebuild → Rebuild) → part u ≡ part asked.r → option_map part (with_more step.view.rebuild) ≡ option_map part step.view.rebuild
  same-part part same = ap (λ (o : Option Rebuild). option_map part (with_more o)) asked.update ∙ (ap Some same ∙ sym (ap (option_map part) asked.update))

  -- ---- cover

  abbrev Now : Sight
  Now = FirstCover kind unnoticed core step a nodes

  abbrev Then : Sight
  Then = SecondCover kind unnoticed core step a nodes

  abbrev v : View
  v = seen_of cover_scope step.number step.view

  abbrev w : View
  w = seen_of cover_scope step.number (Last kind core step)

  BodiesCovered-quiet : BodiesCovered nodes (after_step quiet core step)
  BodiesCovered-quiet =
      frame cover_scope (BodiesCoveredIn nodes) core (after_step quiet core step)
      (step-same cover_scope quiet core step a.at a.pass (record { name = λ stored. ap cover_scope.names asked.names; entry = λ reads value. refl; part = refl })) a.laws.cover

  same-word : (name : Name) → cover_scope.names name ≡ true → word_of (after_step quiet core step) name ≡ word_of core name
  same-word name reads = word-step-other quiet core step name (λ e. false≢true (sym (ap cover_scope.names (e ∙ asked.names)) ∙ reads))

  old-before : IsInOldTree nodes Now (update_on_cover asked.r) i → ⊥
  old-before t = not-in_old core step a index asked kind (t.0, t.1, t.2, sym (same-word (LocA i) refl) ∙ t.3, t.4)

  -- so its phase names no slot that is still to be merged
  unjoined : (l t root : ℕ) → IsStillMerged asked.r l t root → HasBody (scene_of core) i (λ b. b.layer ≡ l) → word_of core (Phase i) ≡ phase_join t → ⊥
  unjoined l t root merged body joins =
      let b = body_record (record_at (scene_of core) i) (λ x. x.layer ≡ l) body in
      let words = a.laws.bodies.live i b.0 b.1 in
      let slot = own-merged l t root merged in
      let less : t ≡ word_of core (Phase i) - 2 = omega arith in
      let phase : phase_by (phase_join t) (word_of core (Slot l t)) ≡ Some b.0.phase =
      (λ j. phase_by (sym joins j) (word_of core (Slot (sym b.2 j) (less j)))) ∙ words.phase
      in
      let inside = slot-in t (word_of core (Slot l t)) b.0 (omega arith) phase in
      let covered = a.laws.cover.covered i b.0 b.1 inside in
      elim (covered.2.1) [
        | inl e ↦ stands b.0 l t root b.2 joins merged covered.0 covered.1 covered.2.0 e (a.laws.locations.first i b.0 covered.0 covered.1 b.1 inside covered.2.0 e)
        | inr e ↦ let none = second-none core step a index asked in absurd (omega arith)
      ]
    where
      own-merged : (l t root : ℕ) → IsStillMerged asked.r l t root → word_of core (Slot l t) ≡ slot_tree root
      own-merged l t root merged = (own-right core step a asked.r asked.update).merged.stand l t root merged

      stands : (b : Record) (l t root : ℕ) → b.layer ≡ l → word_of core (Phase i) ≡ phase_join t → IsStillMerged asked.r l t root → (n k : ℕ) → k < 4 → word_of core (LocA i) ≡ place n k → IsWhere nodes (sight location_scope core) i b.layer n → ⊥
      stands b l t root layer joins merged n k below e (in_slot x phase at second) =
          let same : x ≡ t = let p = phase in let q = joins in omega arith in
          let here : IsOldTree (update_on_cover asked.r) (under (Slot b.layer x)) = (root, subst (λ (y : ℕ). IsStillMerged asked.r b.layer y root) (sym same) (subst (λ (y : ℕ). IsStillMerged asked.r y t root) (sym layer) merged)) in
          not-in_old core step a index asked kind (n, k, below, e, subst (IsOldTree (update_on_cover asked.r)) (sym at) here)
      stands b l t root layer joins merged n k below e (in_main phase at second) = absurd (omega arith)
      stands b l t root layer joins merged n k below e (in_old number name phase some at of_layer) = absurd (omega arith)
      stands b l t root layer joins merged n k below e (in_merged number x y phase some at has) = absurd (omega arith)

  BodiesCovered-given_up : BodiesCovered nodes (after_step kind core step)
  BodiesCovered-given_up =
      BodiesCovered-swap kind unnoticed core step a nodes BodiesCovered-quiet (λ j removes. removes)
      (λ right.
      subst (λ (o : Option Rebuild). IfSome (option_map update_on_cover (with_more o)) (λ r. UpdateIsRight nodes Then w r)) (sym asked.update)
      (right-more nodes Now Then.passes (removed-again kind unnoticed core step a nodes (λ j removes. removes)) v w (update_on_cover asked.r) asked.r.placed (asked.r.given_up ++ index ∷ [])
      (λ j done. elim done [ inl t ↦ inl t | inr given ↦ inr (Contains-append_left asked.r.given_up (index ∷ []) j given) ])
      (λ j l t root merged body joins done.
      elim done [
        | inl d ↦ inl d
        | inr given ↦
            elim (Contains-append_cases asked.r.given_up (index ∷ []) j given) [
              | inl old ↦ inr old
              | inr new ↦
                  let same : j ≡ i = sym (only index j new) ∙ sym asked.of_body in
                  absurd
                  (unjoined l t root merged
                  (subst (λ (x : ℕ). HasBody (scene_of core) x (λ b. b.layer ≡ l)) same (subst (λ (o : Option Record). IsSomeAnd o (λ b. b.layer ≡ l)) (scene-plain quiet core step (λ value. refl) j) body))
                  (ap (λ (x : ℕ). word_of core (Phase x)) (sym same) ∙ (sym (same-word (Phase j) refl) ∙ joins)))
            ]
      ])
      (λ j among. inl among)
      (λ j among.
      elim (Contains-append_cases asked.r.given_up (index ∷ []) j among) [
        | inl old ↦ inl old
        | inr new ↦ let same : j ≡ i = sym (only index j new) ∙ sym asked.of_body in inr (λ tree. old-before (subst (IsInOldTree nodes Now (update_on_cover asked.r)) same tree))
      ])
      (subst (λ (o : Option Rebuild). IfSome (option_map update_on_cover o) (λ r. UpdateIsRight nodes Now v r)) asked.update right)))

  -- ---- all of them

  pub Invariants-given_up : Invariants (after_step kind core step)
  Invariants-given_up =
      let law = child-law kind core step asked.node asked.child asked.names (λ value. refl) a in
      let kids = children_in kind core step asked.node asked.child asked.names (λ value. refl) in
      record {
        nodes = nodes;
        locks = LocksAgree-other core step (lawful a) kind (ap lock_scope.names asked.names) refl;
        bodies =
            frame body_scope BodiesAgreeIn core (after_step kind core step)
            (step-same body_scope kind core step a.at a.pass (record { name = λ stored. ap body_scope.names asked.names; entry = λ reads value. refl; part = refl })) a.laws.bodies;
        places =
            frame node_scope (NodesInOnePlaceIn nodes) core (after_step kind core step)
            (step-same node_scope kind core step a.at a.pass
            (record {
              name = λ stored. ap node_scope.names asked.names;
              entry = λ reads. absurd (false≢true reads);
              part = ap
                  (λ (o : Option Rebuild). record (bare_view step.number) { locks = step.view.locks; call = call_at (task_on_pool step.view.call.task); batches = step.view.batches; loose = step.view.loose; rebuild = o })
                  (same-part update_on_nodes refl);
            })) a.laws.places;
        trees = law tree_scope (TreesSoundIn nodes) (ap (λ (o : Option Rebuild). record (bare_view step.number) { written = step.view.written; rebuild = o }) (same-part update_on_trees refl))
            (TreesSound-cleared nodes (sight tree_scope core) (kids tree_scope) i (clears core step a index asked) a.laws.trees);
        locations = LocationsHold-given_up core step a index asked;
        cover = BodiesCovered-given_up;
        walks = law walk_scope WalksLeadIn refl (WalksLead-unreached core nodes a.laws.trees a.laws.readers a.laws.walks (kids walk_scope) (live-same core step a index asked));
        readers = law reader_scope (ReadersCountedIn nodes)
            (ap (λ (o : Option Rebuild). record (bare_view step.number) { walk = step.view.walk; call = call_at (task_at_place step.view.call.task); rebuild = o }) (same-part update_on_readers refl))
            (ReadersCounted-cleared nodes (sight reader_scope core) (kids reader_scope) i (clears core step a index asked) a.laws.readers);
      }

-- ---- kind 46

pub Invariants-give_up : (index : ℕ) → IsKept (MayGiveUp index) (give_up index)
Invariants-give_up index = kept (MayGiveUp index) (give_up index) (λ core step a asked. Invariants-given_up core step a index asked)

pub GuardsHold-give_up : (index : ℕ) → IsGuarded (MayGiveUp index) (give_up index)
GuardsHold-give_up index =
    guarded (MayGiveUp index) (give_up index)
    (λ core step a asked. keeps (give_up index) core step (Child asked.node asked.child) asked.names
    (λ stored seat number view apart found own. (
      stands-unowned core a.formed a.laws.nodes a.laws.places a.laws.trees seat number view found own asked.node (subst Stands (sym (home core step a index asked)) tt),
      tt,
    )))
