-- Storing a child, or a side of a bound, in a new tree keeps all laws: the node is the pass's own and stands in no tree. With
-- the entry of a body its place is noted, which no law reads before the trees are planned.
use Rattle.std.proofs.Common.{◌≡◌, ◌≢◌, ℕ, ◌∷◌, [], List, Bool, true, false, map, Contains, Option, Some, refl, ap, sym, ◌∙◌, subst, arith}
use Rattle.std.specs.Prelude.{◌/◌, ◌%◌, ◌==◌, if◌then◌else◌, IfSome, option_map}
use Rattle.std.proofs.lemmas.Bool.{false≢true}
use Rattle.std.proofs.lemmas.Option.{same_Some}
use Rattle.word_map.specs.declared.name.Name.{Name}
use Rattle.word_map.specs.declared.name.Name.TheVariants.{Bound}
use Rattle.core_state.specs.declared.view.Noted.{Noted}
use Rattle.core_state.specs.declared.view.Rebuild.{Rebuild}
use Rattle.core_state.specs.Batches.{also_written, store_node}
use Rattle.core_state.specs.Core.{Core}
use Rattle.core_state.specs.Encoding.{place}
use Rattle.core_state.specs.Kind.{Step, Steps, after_step}
use Rattle.core_state.specs.Nodes.{Nodes, owned, node_in, Stands}
use Rattle.core_state.specs.Noting.{MayStoreNewChild, store_new_child, MayStoreNewBound, store_new_bound, placed_note, noted_at, with_entry}
use Rattle.core_state.specs.Parts.{call_at, task_on_pool, update_on_nodes, update_on_trees, update_on_cover, update_on_readers}
use Rattle.core_state.specs.Scope.{IsOnce, bare_view}
use Rattle.core_state.specs.LocksAgree.{lock_scope, LocksAgreeIn}
use Rattle.core_state.specs.BodiesAgree.{body_scope, BodiesAgreeIn}
use Rattle.core_state.specs.NodesInOnePlace.{node_scope, NodesInOnePlaceIn}
use Rattle.core_state.specs.TreesSound.{tree_scope, TreesSoundIn, BoundsOnlyWiden}
use Rattle.core_state.specs.BodiesCovered.{cover_scope}
use Rattle.core_state.specs.WalksLead.{walk_scope, WalksLeadIn}
use Rattle.core_state.specs.ReadersCounted.{IsTight}
use Rattle.core_state.specs.Invariants.{Invariants}
use Rattle.core_state.specs.Formed.{IsFormed}
use Rattle.core_state.proofs.Steps.{word-step-other}
use Rattle.core_guard.proofs.Holders.{IsGuarded, guarded}
use Rattle.core_guard.proofs.Leaving.{Acts}
use Rattle.core_guard.proofs.Seats.{seen_of}
use Rattle.core_guard.proofs.Touched.{IsKept, kept}
use Rattle.core_batch.proofs.Lists.{contains_map, map_from}
use Rattle.core_update.proofs.EarlyUpdate.{owned-apart, own-home, LocationsHold-early}
use Rattle.core_update.proofs.OwnGuards.{own-guarded}
use Rattle.core_update.proofs.OwnNodes.{Invariants-own_node, LocksAgree-own_node, BodiesAgree-own_node, NodesInOnePlace-own_node, TreesSound-own_node, LocationsHold-own_node, BodiesCovered-own_node, WalksLead-own_node, ReadersCounted-own_node}
use Rattle.core_update.proofs.Swapped.{law-swap}
use Rattle.core_update.proofs.SwappedCover.{Renoted, UpdateIsRight, FirstCover, SecondCover, BodiesCovered-swap, right-renoted, removed-again}
use Rattle.core_update.proofs.SwappedReaders.{ReadersCounted-swap, SecondReaders, same-makes}

-- ---- notes with another place

note-placed : (index at : ℕ) (n : Noted) → (p : ℕ) × (placed_note index at n ≡ record n { place = p })
note-placed index at n = go (n.index == index)
  where
    go : (test : Bool) → (p : ℕ) × ((if test then record n { place = at } else n) ≡ record n { place = p })
    go true = (at, refl)
    go false = (n.place, refl)

same-indexes : (index at : ℕ) (xs : List Noted) → map (λ n. n.index) (noted_at index at xs) ≡ map (λ n. n.index) xs
same-indexes index at [] = refl
same-indexes index at (n ∷ xs) = λ i. ap (λ (m : Noted). m.index) (note-placed index at n).1 i ∷ same-indexes index at xs i

same-notes : (xs : List Noted) → Renoted xs xs
same-notes xs = record { forth = λ n among. (n.place, among); back = λ m among. (m, m.place, among, refl); once = λ once. once }

placed-notes : (index at : ℕ) (xs : List Noted) → Renoted xs (noted_at index at xs)
placed-notes index at xs = record {
  forth = λ n among. let p = note-placed index at n in (p.0, subst (Contains (noted_at index at xs)) p.1 (contains_map (placed_note index at) xs n among));
  back = λ m among. let t = map_from (placed_note index at) xs m among in let p = note-placed index at t.0 in (t.0, p.0, t.1, sym p.1 ∙ t.2);
  once = λ once. subst IsOnce (sym (same-indexes index at xs)) once;
}

-- ---- kind 20

module _ (core : Core) (step : Step) (a : Acts core step) (asked : MayStoreNewChild step.view step.name step.first step.second) where
  abbrev nodes : Nodes
  nodes = a.laws.nodes

  abbrev r : Rebuild
  r = asked.r

  home : nodes.home asked.node ≡ owned step.number
  home = own-home core step a asked.r asked.stores.update asked.stores.early asked.node asked.stores.owns

  of_node : node_in step.name ≡ Some asked.node
  of_node = ap node_in asked.names

  abbrev xs : List Noted
  xs = if step.first % 2 == 1 then noted_at (step.first / 2) (place asked.node asked.child) asked.r.noted else asked.r.noted

  renoted : Renoted asked.r.noted xs
  renoted = go (step.first % 2 == 1)
    where
      go : (test : Bool) → Renoted asked.r.noted (if test then noted_at (step.first / 2) (place asked.node asked.child) asked.r.noted else asked.r.noted)
      go true = placed-notes (step.first / 2) (place asked.node asked.child) asked.r.noted
      go false = same-notes asked.r.noted

  two : option_map (with_entry step.name step.first) step.view.rebuild ≡ Some (record asked.r { noted = xs })
  two = ap (option_map (with_entry step.name step.first)) asked.stores.update ∙ ap (λ (n : Name). Some (with_entry n step.first asked.r)) asked.names

  -- a part of the update in which no place is read
  same-part : (part : Rebuild → Rebuild) → part asked.r ≡ part (record asked.r { noted = xs }) → option_map part step.view.rebuild ≡ option_map part (option_map (with_entry step.name step.first) step.view.rebuild)
  same-part part same = ap (option_map part) asked.stores.update ∙ (ap Some same ∙ sym (ap (option_map part) two))

  pub Invariants-new_child : Invariants (after_step store_new_child core step)
  Invariants-new_child = record {
    nodes = nodes;
    locks = law-swap lock_scope (λ k v. refl) store_new_child store_node.leaves core step a.at a.pass LocksAgreeIn refl (LocksAgree-own_node core step a asked.node of_node home);
    bodies = law-swap body_scope (λ k v. refl) store_new_child store_node.leaves core step a.at a.pass BodiesAgreeIn refl (BodiesAgree-own_node core step a asked.node of_node home);
    places = law-swap node_scope (λ k v. refl) store_new_child store_node.leaves core step a.at a.pass (NodesInOnePlaceIn nodes)
        (ap
        (λ (o : Option Rebuild). record (bare_view step.number) { locks = step.view.locks; call = call_at (task_on_pool step.view.call.task); batches = step.view.batches; loose = step.view.loose; rebuild = o })
        (same-part update_on_nodes refl)) (NodesInOnePlace-own_node core step a asked.node of_node home);
    trees = law-swap tree_scope (λ k v. refl) store_new_child store_node.leaves core step a.at a.pass (TreesSoundIn nodes)
        (ap (λ (o : Option Rebuild). record (bare_view step.number) { written = also_written step.name step.first step.view.written; rebuild = o }) (same-part update_on_trees refl))
        (TreesSound-own_node core step a asked.node of_node home);
    locations = LocationsHold-early core step a asked.r asked.stores.update asked.stores.early store_new_child store_node.leaves asked.stores.idle (LocationsHold-own_node core step a asked.node of_node home)
        (record {
          u = record asked.r { noted = xs };
          one = asked.stores.update;
          two = two;
          one_call = refl;
          two_call = refl;
          batches = refl;
          unplanned = asked.stores.early.unplanned;
          swapped = refl;
          cleared = refl;
          merged = refl;
        });
    cover = BodiesCovered-swap store_new_child store_node.leaves core step a nodes (BodiesCovered-own_node core step a asked.node of_node home) (λ i removes. removes)
        (λ right.
        let v = seen_of cover_scope step.number step.view in
        let z = record v { rebuild = option_map update_on_cover (option_map (with_entry step.name step.first) step.view.rebuild) } in
        subst (λ (o : Option Rebuild). IfSome (option_map update_on_cover o) (λ u. UpdateIsRight nodes (SecondCover store_new_child store_node.leaves core step a nodes) z u)) (sym two)
        (right-renoted nodes (FirstCover store_new_child store_node.leaves core step a nodes) (SecondCover store_new_child store_node.leaves core step a nodes).passes
        (removed-again store_new_child store_node.leaves core step a nodes (λ i removes. removes)) v z (update_on_cover asked.r) xs (λ i done. done) (λ i done. done) renoted asked.stores.early.placed
        (subst (λ (o : Option Rebuild). IfSome (option_map update_on_cover o) (λ u. UpdateIsRight nodes (FirstCover store_new_child store_node.leaves core step a nodes) v u)) asked.stores.update right)));
    walks = law-swap walk_scope (λ k v. refl) store_new_child store_node.leaves core step a.at a.pass WalksLeadIn refl (WalksLead-own_node core step a asked.node of_node home);
    readers = ReadersCounted-swap store_new_child store_node.leaves core step a nodes nodes (same-makes nodes) (ReadersCounted-own_node core step a asked.node of_node home)
        (record {
          walk = refl;
          task = refl;
          readers = ap (option_map (λ (x : Rebuild). x.readers)) asked.stores.update ∙ sym (ap (option_map (λ (x : Rebuild). x.readers)) two);
          others = λ n number l apart e. e;
          tight = subst (λ (o : Option Rebuild). IfSome (option_map update_on_readers o) (λ x. x.is_planned ≡ true → IsTight nodes (SecondReaders store_new_child store_node.leaves core step a nodes nodes (same-makes nodes)) step.number x)) (sym two)
              (λ planned. absurd (false≢true (sym asked.stores.early.unplanned ∙ planned)));
        });
  }

pub Invariants-store_new_child : IsKept MayStoreNewChild store_new_child
Invariants-store_new_child = kept MayStoreNewChild store_new_child (λ core step a asked. Invariants-new_child core step a asked)

pub GuardsHold-store_new_child : IsGuarded MayStoreNewChild store_new_child
GuardsHold-store_new_child =
    guarded MayStoreNewChild store_new_child (λ core step a asked. own-guarded store_new_child core step a asked.node (of_node core step a asked) (home core step a asked))

-- ---- kind 21

pub Invariants-store_new_bound : IsKept MayStoreNewBound store_new_bound
Invariants-store_new_bound =
    kept MayStoreNewBound store_new_bound
    (λ core step a asked. Invariants-own_node core step a asked.node (ap node_in asked.names) (own-home core step a asked.r asked.stores.update asked.stores.early asked.node asked.stores.owns))

pub GuardsHold-store_new_bound : IsGuarded MayStoreNewBound store_new_bound
GuardsHold-store_new_bound =
    guarded MayStoreNewBound store_new_bound
    (λ core step a asked. own-guarded store_new_bound core step a asked.node (ap node_in asked.names) (own-home core step a asked.r asked.stores.update asked.stores.early asked.node asked.stores.owns))

-- no bound of a node that stands is stored
pub new_bound-widens : (before after : Core) (h : Invariants before) → Steps MayStoreNewBound store_new_bound before after → IsFormed before → BoundsOnlyWiden h.nodes before after
new_bound-widens before after h steps formed =
    let step = steps.step in
    let asked = steps.allowed.asked in
    let home = owned-apart before step steps.allowed.at steps.allowed.pass formed h asked.r asked.stores.update asked.stores.early asked.node asked.stores.owns in
    subst (BoundsOnlyWiden h.nodes before) (sym steps.result)
    (λ n k q stands.
    let other : Bound n k q ≢ step.name = λ e. subst Stands (ap h.nodes.home (same_Some n asked.node (ap node_in (e ∙ asked.names))) ∙ home) stands in
    let same = word-step-other store_new_bound before step (Bound n k q) other in
    (λ low. omega arith, λ high. omega arith))
