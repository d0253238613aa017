-- Clearing the second location of a body that has the same first one: it stands where it stood, and the update has promoted
-- it.
use Rattle.std.proofs.Common.{◌≡◌, ◌≢◌, ℕ, Option, option_map, Some, None, IsSomeAnd, refl, ap, sym, ◌∙◌, subst, inl, inr, arith}
use Rattle.std.proofs.lemmas.Bool.{cases_eq}
use Rattle.scene_model.specs.Scene.{Record}
use Rattle.word_map.specs.declared.name.Name.{Name}
use Rattle.word_map.specs.declared.name.Name.TheVariants.{State, Phase, Layer, LocA, LocB, Bound, Reader, Slot}
use Rattle.core_state.specs.declared.view.Rebuild.{Rebuild}
use Rattle.core_state.specs.declared.view.Task.{Task}
use Rattle.core_state.specs.declared.view.View.{View}
use Rattle.core_state.specs.View.{known_word}
use Rattle.core_state.specs.Core.{Core, word_of}
use Rattle.core_state.specs.Kind.{Kind, Step, learned, log_after, after_step}
use Rattle.core_state.specs.Nodes.{Nodes, superseded}
use Rattle.core_state.specs.Parts.{update_on_cover}
use Rattle.core_state.specs.Retiring.{MayClearSecond, clear_second, promoted_by, with_promoted}
use Rattle.core_state.specs.Scope.{Sight, sight}
use Rattle.core_state.specs.Updates.{IsOldTree}
use Rattle.core_state.specs.LocksAgree.{LocksAgreeIn, lock_scope}
use Rattle.core_state.specs.BodiesAgree.{body_scope}
use Rattle.core_state.specs.NodesInOnePlace.{NodesInOnePlaceIn, node_scope}
use Rattle.core_state.specs.TreesSound.{TreesSoundIn, tree_scope}
use Rattle.core_state.specs.BodiesCovered.{BodiesCovered, BodiesCoveredIn, cover_scope, IsInOldTree}
use Rattle.core_state.specs.WalksLead.{WalksLeadIn, walk_scope}
use Rattle.core_state.specs.ReadersCounted.{ReadersCountedIn, reader_scope, ClimbsInTrees}
use Rattle.core_state.specs.Invariants.{Invariants}
use Rattle.core_state.proofs.Frames.{step-history, passes-same}
use Rattle.core_state.proofs.Steps.{word-step, word-step-other}
use Rattle.core_guard.proofs.BodyAnew.{No_new, turn-leaves}
use Rattle.core_guard.proofs.CallsAgree.{BodiesAgree-goes, same_call}
use Rattle.core_guard.proofs.Holders.{IsGuarded, guarded}
use Rattle.core_guard.proofs.Leaving.{Acts, After, Last, Leaves, body_of, scene-plain, IsHandled}
use Rattle.core_guard.proofs.LivesGuarded.{IsStripeWord, stripe-guarded}
use Rattle.core_guard.proofs.ReadersLeft.{some-all, Counts, KeepsTargets, layers-kept, gives-kept, ReadersCounted-leaves}
use Rattle.core_guard.proofs.Touched.{IsKept, kept}
use Rattle.core_update.proofs.Beside.{still_kind, law-beside, law-stilled, part-kept}
use Rattle.core_update.proofs.CoverSecond.{SecondsChange, cover-second}
use Rattle.core_update.proofs.OwnUpdate.{own-all}
use Rattle.core_update.proofs.Promoting.{IsPromoted, promoted, known, unheld, alone}
use Rattle.core_update.proofs.Promotions.{Promotes, one-place, second-else, location-forth, where-else, main_old, LocationsHold-promoted}

module _ (core : Core) (step : Step) (a : Acts core step) (asked : MayClearSecond step.view step.name step.first step.second) where
  abbrev i : ℕ
  i = asked.index

  abbrev nodes : Nodes
  nodes = a.laws.nodes

  abbrev r : Rebuild
  r = asked.to_promote.r

  abbrev change : Rebuild → Rebuild
  change = with_promoted asked.index

  last : Last clear_second core step ≡ record step.view { rebuild = Some (change r); known = log_after clear_second core step; joined = None }
  last =
      ap (λ (n : Name). record (promoted_by (learned core step) n) { config = step.view.config; role = step.view.role; known = log_after clear_second core step; joined = None }) asked.names ∙
      ap (λ (o : Option Rebuild). record step.view { rebuild = option_map change o; known = log_after clear_second core step; joined = None }) asked.to_promote.update

  still : known_word step.view (LocB i) ≡ word_of core (LocB i)
  still = sym (known clear_second core step a i asked.to_promote asked.settled).loc_b

  one : IsPromoted clear_second core step a i asked.to_promote
  one = promoted clear_second core step a i asked.to_promote (λ none. asked.has_second (still ∙ none))

  both : word_of core (LocA i) ≡ word_of core (LocB i)
  both = (known clear_second core step a i asked.to_promote asked.settled).loc_a ∙ (asked.same ∙ still)

  promotes : Promotes clear_second core step a i asked.to_promote
  promotes = record {
    names = asked.names;
    plain = λ value. refl;
    last = last;
    none = ap (word_of (After clear_second core step)) (sym asked.names) ∙ (word-step clear_second core step ∙ asked.none);
    was = inr (one, both);
  }

  -- a word of another kind
  kept-word : (name : Name) → ((j : ℕ) → LocB j ≢ name) → word_of (After clear_second core step) name ≡ word_of core name
  kept-word name apart = word-step-other clear_second core step name (λ e. apart i (sym (e ∙ asked.names)))

  -- ---- cover

  abbrev Past : Sight
  Past = sight cover_scope core

  changes : SecondsChange nodes Past (sight cover_scope (After clear_second core step)).word
  changes = record {
    state = λ j. kept-word (State j) (λ x e. absurd cc);
    phase = λ j. kept-word (Phase j) (λ x e. absurd cc);
    layer = λ j. kept-word (Layer j) (λ x e. absurd cc);
    loc_a = λ j. kept-word (LocA j) (λ x e. absurd cc);
    slot = λ l t. kept-word (Slot l t) (λ x e. absurd cc);
    location = location-forth clear_second core step a i asked.to_promote promotes;
    superseded = λ j n k number name below at home some none.
        some (sym (where-else clear_second core step a i asked.to_promote promotes j n k (superseded number name) below at home (λ l. main_old l number name) some) ∙ none);
    replaced =
        own-all clear_second core step a r asked.to_promote.update cover_scope (λ k v. refl) update_on_cover (λ bare v. refl)
        (λ number v x. (j : ℕ) → IsInOldTree nodes Past x j → word_of (After clear_second core step) (LocB j) ≡ word_of core (LocB j))
        (λ j tree.
        elim (cases_eq j i) [
          | inr apart ↦ second-else clear_second core step a i asked.to_promote promotes j apart
          | inl same ↦
              let at = sym tree.3 ∙ (ap (λ (x : ℕ). word_of core (LocA x)) same ∙ (both ∙ one.at)) in
              let node = one-place tree.0 tree.1 one.node one.child tree.2 one.below at in
              let home = ap nodes.home node ∙ one.home in
              let old = subst (IsOldTree (update_on_cover r)) home tree.4 in
              let new = one.published in
              absurd (omega arith)
        ]);
  }

  BodiesCovered-cleared : BodiesCovered nodes (after_step clear_second core step)
  BodiesCovered-cleared =
      let seen : sight cover_scope (After clear_second core step) ≡ record Past { word = (sight cover_scope (After clear_second core step)).word } =
      λ j. record {
        config = core.config;
        word = (sight cover_scope (After clear_second core step)).word;
        history = step-history clear_second core step (λ value. refl) j;
        passes = passes-same cover_scope clear_second core step a.at a.pass
            (part-kept clear_second core step a r change asked.to_promote.update last cover_scope (λ bare view x known joined. refl)) j;
      }
      in
      subst (BodiesCoveredIn nodes) (sym seen) (cover-second nodes Past (sight cover_scope (After clear_second core step)).word changes a.laws.cover)

  -- ---- readers

  abbrev quiet : Kind
  quiet = still_kind clear_second

  leaves : Leaves quiet core step nodes nodes (No_new quiet core step)
  leaves = turn-leaves quiet core step nodes i (ap body_of asked.names) refl

  targets : KeepsTargets quiet core step a nodes (No_new quiet core step) leaves
  targets = record {
    targets = λ j q side target. inl target;
    bodies = λ seat number view found is j handled g l h. subst (λ (o : Option Record). IsSomeAnd o (λ b. (b.generation ≡ g) × (b.layer ≡ l))) (sym (scene-plain quiet core step (λ value. refl) j)) h;
  }

  counts : Counts quiet core step a nodes (No_new quiet core step) leaves
  counts = record {
    places = λ seat number view apart found is j handled.
        let other : j ≢ i = λ same. alone clear_second core step a i asked.to_promote asked.settled seat number view apart found is (subst (IsHandled view.call.task) same handled) in
        (kept-word (LocA j) (λ x e. absurd cc), second-else clear_second core step a i asked.to_promote promotes j other);
    climbs = subst (λ (t : Task). ClimbsInTrees nodes (sight reader_scope (After quiet core step)) t) (sym asked.to_promote.idle) tt;
    layers = layers-kept quiet core step a nodes (No_new quiet core step) leaves targets;
    gives = gives-kept quiet core step a nodes (No_new quiet core step) leaves targets;
    live = λ n k q l live layer. inl (kept-word (Bound n k q) (λ x e. absurd cc));
    fresh = λ number view among pass. some-all view.rebuild _ (λ x n k q l home. inl (kept-word (Bound n k q) (λ y e. absurd cc)));
    new = λ n k l none. absurd none;
    unmade = λ n number l none. absurd none;
  }

  -- ---- all laws

  Invariants-cleared : Invariants (after_step clear_second core step)
  Invariants-cleared =
      let h = a.laws in
      let update = asked.to_promote.update in
      let names = asked.names in
      record {
        nodes = h.nodes;
        locks = law-beside clear_second core step a r change update last lock_scope LocksAgreeIn (λ bare view x known joined. refl) (λ stored. ap lock_scope.names names) (λ value. refl) h.locks;
        bodies =
            BodiesAgree-goes clear_second core step a.at a.pass h.bodies (same_call (ap (λ (v : View). v.call) last)) (ap (λ (v : View). v.locks) last) (ap body_scope.names names) (λ value. refl)
            (ap (λ (v : View). v.batches) last);
        places = law-beside clear_second core step a r change update last node_scope (NodesInOnePlaceIn h.nodes) (λ bare view x known joined. refl) (λ stored. ap node_scope.names names) (λ value. refl) h.places;
        trees = law-beside clear_second core step a r change update last tree_scope (TreesSoundIn h.nodes) (λ bare view x known joined. refl) (λ stored. ap tree_scope.names names) (λ value. refl) h.trees;
        locations = LocationsHold-promoted clear_second core step a i asked.to_promote promotes;
        cover = BodiesCovered-cleared;
        walks = law-beside clear_second core step a r change update last walk_scope WalksLeadIn (λ bare view x known joined. refl) (λ stored. ap walk_scope.names names) (λ value. refl) h.walks;
        readers =
            law-stilled clear_second core step a r change update last reader_scope (ReadersCountedIn h.nodes) (λ bare view x known joined. refl) refl
            (ReadersCounted-leaves quiet core step a nodes (No_new quiet core step) leaves counts (record { reader = λ q. kept-word (Reader q) (λ x e. absurd cc); walk = refl }));
      }

-- ---- kind 50

pub Invariants-clear_second : IsKept MayClearSecond clear_second
Invariants-clear_second = kept MayClearSecond clear_second (λ core step a asked. Invariants-cleared core step a asked)

pub GuardsHold-clear_second : IsGuarded MayClearSecond clear_second
GuardsHold-clear_second =
    guarded MayClearSecond clear_second
    (λ core step a asked. stripe-guarded clear_second core step a asked.index asked.settled.stripe (unheld clear_second core step a asked.index asked.to_promote asked.settled) (subst (IsStripeWord asked.index) (sym asked.names) refl))
