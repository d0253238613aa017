-- Clearing an entry of a body that is taken out: it is at a location of that body, so nobody needs it any more.
use Rattle.std.proofs.Common.{◌≡◌, ◌≢◌, ℕ, List, [], ◌∷◌, ◌++◌, Some, false, refl, ap, sym, ◌∙◌, subst, inl, inr, arith}
use Rattle.std.specs.Prelude.{Contains}
use Rattle.std.proofs.lemmas.List.Folds.{list_any-append}
use Rattle.std.proofs.lemmas.Option.{same_Some}
use Rattle.word_map.specs.declared.name.Name.{Name}
use Rattle.word_map.specs.declared.name.Name.TheVariants.{Child, Bound}
use Rattle.core_state.specs.declared.item.Store.{Store}
use Rattle.core_state.specs.declared.view.Task.{Task}
use Rattle.core_state.specs.declared.view.Noted.{Noted}
use Rattle.core_state.specs.Core.{Core, word_of}
use Rattle.core_state.specs.Kind.{Step}
use Rattle.core_state.specs.Removing.{MayClearEntry, clear_entry}
use Rattle.core_state.specs.Encoding.{body_child, place}
use Rattle.core_state.specs.Nodes.{Nodes, made, node_in, IsLive, Stands}
use Rattle.core_state.specs.Parts.{call_on_places, update_on_places}
use Rattle.core_state.specs.Scope.{Sight, sight}
use Rattle.core_state.specs.Bodies.{MovesBody}
use Rattle.core_state.specs.Updates.{EachUpdate, IsPlacing, IsDone}
use Rattle.core_state.specs.LocationsHold.{location_scope, IsLocation, IsTakenOut, is_location_store, has_cleared_location}
use Rattle.core_state.proofs.Steps.{word-step}
use Rattle.core_guard.proofs.Holders.{IsGuarded, guarded}
use Rattle.core_guard.proofs.InPlace.{stays-in_place}
use Rattle.core_guard.proofs.Leaving.{Acts, After, Leaves, idle-unhandled, updates-at}
use Rattle.core_guard.proofs.OneUpdate.{second-placed}
use Rattle.core_guard.proofs.OnBody.{OnBody, IsOn, nobody-does}
use Rattle.core_guard.proofs.PlacesLeft.{SeenUpdate}
use Rattle.core_guard.proofs.PlacesStay.{PassIsPlaced, acting, seen-task, places-handles, taken-forth}
use Rattle.core_guard.proofs.ReadersLeft.{some-all}
use Rattle.core_guard.proofs.Touched.{IsKept, kept}
use Rattle.core_guard.proofs.TreeWords.{OnTree, IsTreeWord, Invariants-tree, tree-guarded, tree-stays, StaysOrCleared, child-other, cleared-boxes, cleared-leaves}
use Rattle.core_move.proofs.Removers.{stored_more, last-or, more-placed, taken, known-location, removes-on, not_in}

-- one store more, of no location
cleared-more : (stores : List Store) (new : Store) → is_location_store new.name ≡ false → has_cleared_location stores ≡ false → has_cleared_location (stores ++ new ∷ []) ≡ false
cleared-more stores new none h = list_any-append (λ (s : Store). is_location_store s.name) stores (new ∷ []) ∙ rw (h, none) refl

module _ (core : Core) (step : Step) (a : Acts core step) (asked : MayClearEntry step.view step.name step.first step.second) where
  abbrev nodes : Nodes
  nodes = a.laws.nodes

  abbrev Was : Sight
  Was = sight location_scope core

  abbrev Is : Sight
  Is = sight location_scope (After clear_entry core step)

  o : OnBody clear_entry core step asked.index (stored_more step)
  o = removes-on clear_entry core step a asked.index asked.task (stored_more step) (subst (IsOn asked.index) (sym asked.task) refl) refl

  was : IsTakenOut nodes Was (acting step.view.call (SeenUpdate clear_entry core step)) asked.index
  was = taken clear_entry core step a asked.index asked.task

  location : IsLocation Was asked.index asked.node asked.child
  location = known-location clear_entry core step a asked.index asked.task asked.node asked.child asked.location

  node-stands : (n : ℕ) → node_in step.name ≡ Some n → Stands (nodes.home n)
  node-stands n e = subst (λ (x : ℕ). Stands (nodes.home x)) (same_Some asked.node n (sym (ap node_in asked.names) ∙ e)) (was.cleared asked.node asked.child location).0

  none-after : word_of (After clear_entry core step) step.name ≡ 0
  none-after = word-step clear_entry core step ∙ asked.none

  -- an entry that an update planned is at the second location, so the update has placed the body; and nobody places it now
  done : EachUpdate Was (λ number view r. (noted : Noted) → Contains r.noted noted → noted.index ≡ asked.index → noted.place ≡ place asked.node asked.child → nodes.home asked.node ≡ made number noted.layer → IsDone view r asked.index)
  done = updates-at location_scope (λ k v. refl) update_on_places (λ b v. refl) core _ (λ seat number view found own r e noted among same at home.
      inl (
        second-placed core a.formed nodes a.laws.places a.laws.locations asked.index
            (λ none. elim (location.1) [ inl first ↦ subst IsLive home (was.live asked.node asked.child location.0 first) | inr second ↦ absurd (omega arith) ]) seat number view r found own e,
        λ places. nobody-does clear_entry core step asked.index (stored_more step) a o (λ t. IsPlacing t asked.index) (λ t. places-handles t asked.index) (λ h. subst (λ (t : Task). IsPlacing t asked.index) asked.task h) seat number view found own
            (seen-task (λ task. IsPlacing task asked.index) (λ task calm h. idle-unhandled task asked.index calm (places-handles task asked.index h)) view.call places),
      ))

  entry : StaysOrCleared clear_entry core step nodes asked.node asked.child asked.names asked.node asked.child
  entry =
      let none = ap (word_of (After clear_entry core step)) (sym asked.names) ∙ none-after in
      elim ((was.cleared asked.node asked.child location).1) [
        | inl e ↦ inl (none ∙ sym e)
        | inr e ↦ inr (record { none = none; index = asked.index; was = e.0; left = not_in clear_entry core step a asked.index asked.task; done = done })
      ]

  abbrev m : Leaves clear_entry core step nodes nodes (λ n. ⊥)
  m = cleared-leaves clear_entry core step nodes asked.node asked.child asked.names entry refl

  t : OnTree clear_entry core step a asked.index (stored_more step)
  t = record {
    on = o;
    word = subst IsTreeWord (sym asked.names) tt;
    node = node-stands;
    plain = λ value. refl;
    leaves = m;
    boxes = cleared-boxes clear_entry core step nodes asked.node asked.child asked.names;
    removes = (λ h. h, λ h. h);
    places = (λ h. h, λ h. h);
    between = λ between. absurd (subst (λ (t : Task). MovesBody t asked.index) asked.task between.0);
    targets = λ j q side target. target;
    stand = λ n k h. (was.cleared n k h).0;
    live = λ n k q l live layer. inl (child-other clear_entry core step nodes asked.node asked.child asked.names (Bound n k q) refl);
    fresh = λ number view among pass. some-all view.rebuild _ (λ r n k q l home. inl (child-other clear_entry core step nodes asked.node asked.child asked.names (Bound n k q) refl));
  }

  -- ---- the pass

  -- an entry that stands was not cleared: what is stored is 0
  uncleared : (n k : ℕ) → word_of (After clear_entry core step) (Child n k) ≡ body_child asked.index → ¬ Contains step.view.call.stores (record { name = Child n k; value = 0 }) → ¬ Contains (stored_more step).stores (record { name = Child n k; value = 0 })
  uncleared n k entry old among =
      elim (last-or step.view.call.stores _ (record { name = Child n k; value = 0 }) among) [
        | inl before ↦ old before
        | inr new ↦ let none = ap (λ (s : Store). word_of (After clear_entry core step) s.name) (sym new) ∙ none-after in absurd (omega arith)
      ]

  own-after : PassIsPlaced nodes Is (call_on_places (stored_more step)) (SeenUpdate clear_entry core step)
  own-after =
      let still = taken-forth clear_entry core step a nodes (λ n. ⊥) m (SeenUpdate clear_entry core step) step.view.call asked.index (stays-in_place clear_entry core step asked.index (tree-stays clear_entry core step a asked.index (stored_more step) t asked.index)) was in
      more-placed clear_entry core step a asked.index asked.task Is (λ n k q. subst (λ (name : Name). Bound n k q ≢ name) (sym asked.names) (λ e. absurd cc)) (record {
        out = still.out;
        cleared = λ n k at.
            let h = still.cleared n k at in
            (h.0, elim (h.1) [ inl e ↦ inl e | inr e ↦ inr (e.0, cleared-more step.view.call.stores _ (ap is_location_store asked.names) e.1, uncleared n k e.0 e.2) ]);
        live = still.live;
      })

-- ---- kind 40

pub Invariants-clear_entry : IsKept MayClearEntry clear_entry
Invariants-clear_entry = kept MayClearEntry clear_entry (λ core step a asked. Invariants-tree clear_entry core step a asked.index (stored_more step) (t core step a asked) (own-after core step a asked))

pub GuardsHold-clear_entry : IsGuarded MayClearEntry clear_entry
GuardsHold-clear_entry =
    guarded MayClearEntry clear_entry (λ core step a asked. tree-guarded clear_entry core step a asked.index (stored_more step) (t core step a asked).word (node-stands core step a asked))
