-- Storing a parent in a new tree keeps all laws: the node is the pass's own and stands in no tree, and that it is one of the new
-- tree, or its root, no law reads before the trees are planned.
use Rattle.std.proofs.Common.{◌≡◌, ℕ, List, Option, Some, refl, ap, sym, ◌∙◌, inl}
use Rattle.std.specs.Prelude.{option_map}
use Rattle.std.proofs.lemmas.Bool.{false≢true}
use Rattle.word_map.specs.declared.name.Name.{Name}
use Rattle.core_state.specs.declared.view.NewNode.{NewNode}
use Rattle.core_state.specs.declared.view.Rebuild.{Rebuild}
use Rattle.core_state.specs.Batches.{store_node}
use Rattle.core_state.specs.Core.{Core}
use Rattle.core_state.specs.Kind.{Kind, Step, after_step}
use Rattle.core_state.specs.Nodes.{Nodes, node_in, owned}
use Rattle.core_state.specs.Noting.{MayStoreNewParent, store_new_parent, made_with, roots_with, with_new_node}
use Rattle.core_state.specs.Parts.{call_at, call_on_places, task_on_cover, task_at_place, update_on_places, update_on_cover, update_on_readers}
use Rattle.core_state.specs.Scope.{bare_view}
use Rattle.core_state.specs.LocksAgree.{lock_scope, LocksAgreeIn}
use Rattle.core_state.specs.BodiesAgree.{body_scope, BodiesAgreeIn}
use Rattle.core_state.specs.LocationsHold.{location_scope, LocationsHoldIn}
use Rattle.core_state.specs.BodiesCovered.{cover_scope, BodiesCoveredIn}
use Rattle.core_state.specs.WalksLead.{walk_scope, WalksLeadIn}
use Rattle.core_state.specs.ReadersCounted.{reader_scope, ReadersCountedIn}
use Rattle.core_state.specs.Invariants.{Invariants}
use Rattle.core_guard.proofs.Holders.{IsGuarded, guarded}
use Rattle.core_guard.proofs.Leaving.{Acts}
use Rattle.core_guard.proofs.Touched.{IsKept, kept}
use Rattle.core_update.proofs.EarlyUpdate.{own-home, unmade}
use Rattle.core_update.proofs.OwnGuards.{own-guarded}
use Rattle.core_update.proofs.OwnNodes.{LocksAgree-own_node, BodiesAgree-own_node, NodesInOnePlace-own_node, TreesSound-own_node, LocationsHold-own_node, BodiesCovered-own_node, WalksLead-own_node, ReadersCounted-own_node}
use Rattle.core_update.proofs.PlanNodes.{MakesHomes, NodesInOnePlace-plan, owned-made}
use Rattle.core_update.proofs.PlanTrees.{PlansTrees, TreesSound-plan}
use Rattle.core_update.proofs.Swapped.{law-swap}

module _ (layer : ℕ) (core : Core) (step : Step) (a : Acts core step) (asked : MayStoreNewParent layer step.view step.name step.first step.second) where
  abbrev nodes : Nodes
  nodes = a.laws.nodes

  abbrev kind : Kind
  kind = store_new_parent layer

  abbrev r : Rebuild
  r = asked.r

  pub home : nodes.home asked.node ≡ owned step.number
  home = own-home core step a asked.r asked.stores.update asked.stores.early asked.node asked.stores.owns

  pub of_node : node_in step.name ≡ Some asked.node
  of_node = ap node_in asked.names

  abbrev M : List NewNode
  M = made_with layer asked.node asked.r.made

  abbrev R : List ℕ
  R = roots_with layer asked.node step.first asked.r.roots

  two : option_map (with_new_node layer step.name step.first) step.view.rebuild ≡ Some (record asked.r { made = M; roots = R; is_planned = asked.r.is_planned })
  two = ap (option_map (with_new_node layer step.name step.first)) asked.stores.update ∙ ap (λ (n : Name). Some (with_new_node layer n step.first asked.r)) asked.names

  -- a part of the update that reads neither
  same-part : (part : Rebuild → Rebuild) → part asked.r ≡ part (record asked.r { made = M; roots = R; is_planned = asked.r.is_planned })
      → option_map part step.view.rebuild ≡ option_map part (option_map (with_new_node layer step.name step.first) step.view.rebuild)
  same-part part same = ap (option_map part) asked.stores.update ∙ (ap Some same ∙ sym (ap (option_map part) two))

  makes : MakesHomes (with_new_node layer) core step a asked.r asked.stores.update asked.stores.early.unplanned M R asked.r.is_planned two nodes
  makes = record {
    homes = λ n. inl refl;
    own_made = λ n l. (λ e. absurd (unmade core step a asked.r asked.stores.update asked.stores.early n l e), λ t. absurd (false≢true (sym asked.stores.early.unplanned ∙ t.0)));
  }

  trees : PlansTrees (with_new_node layer) core step a asked.r asked.stores.update asked.stores.early M R asked.r.is_planned two nodes makes
  trees = record {
    depth = λ n inside. refl;
    sound = λ n l owns e. absurd (owned-made step.number step.number l (sym owns ∙ e));
    roots = λ l root is. absurd (false≢true (sym asked.stores.early.unplanned ∙ is));
  }

  pub Invariants-new_parent : Invariants (after_step kind core step)
  Invariants-new_parent = record {
    nodes = nodes;
    locks = law-swap lock_scope (λ k v. refl) kind store_node.leaves core step a.at a.pass LocksAgreeIn refl (LocksAgree-own_node core step a asked.node of_node home);
    bodies = law-swap body_scope (λ k v. refl) kind store_node.leaves core step a.at a.pass BodiesAgreeIn refl (BodiesAgree-own_node core step a asked.node of_node home);
    places = NodesInOnePlace-plan (with_new_node layer) core step a asked.r asked.stores.update asked.stores.early.unplanned M R asked.r.is_planned two nodes makes (NodesInOnePlace-own_node core step a asked.node of_node home);
    trees = TreesSound-plan (with_new_node layer) core step a asked.r asked.stores.update asked.stores.early M R asked.r.is_planned two nodes makes trees (TreesSound-own_node core step a asked.node of_node home);
    locations = law-swap location_scope (λ k v. refl) kind store_node.leaves core step a.at a.pass (LocationsHoldIn nodes)
        (ap (λ (o : Option Rebuild). record (bare_view step.number) { call = call_on_places step.view.call; batches = step.view.batches; rebuild = o }) (same-part update_on_places refl))
        (LocationsHold-own_node core step a asked.node of_node home);
    cover = law-swap cover_scope (λ k v. refl) kind store_node.leaves core step a.at a.pass (BodiesCoveredIn nodes)
        (ap (λ (o : Option Rebuild). record (bare_view step.number) { call = call_at (task_on_cover step.view.call.task); rebuild = o }) (same-part update_on_cover refl))
        (BodiesCovered-own_node core step a asked.node of_node home);
    walks = law-swap walk_scope (λ k v. refl) kind store_node.leaves core step a.at a.pass WalksLeadIn refl (WalksLead-own_node core step a asked.node of_node home);
    readers = law-swap reader_scope (λ k v. refl) kind store_node.leaves core step a.at a.pass (ReadersCountedIn nodes)
        (ap (λ (o : Option Rebuild). record (bare_view step.number) { walk = step.view.walk; call = call_at (task_at_place step.view.call.task); rebuild = o }) (same-part update_on_readers refl))
        (ReadersCounted-own_node core step a asked.node of_node home);
  }

-- ---- kind 22

pub Invariants-store_new_parent : (layer : ℕ) → IsKept (MayStoreNewParent layer) (store_new_parent layer)
Invariants-store_new_parent layer = kept (MayStoreNewParent layer) (store_new_parent layer) (λ core step a asked. Invariants-new_parent layer core step a asked)

pub GuardsHold-store_new_parent : (layer : ℕ) → IsGuarded (MayStoreNewParent layer) (store_new_parent layer)
GuardsHold-store_new_parent layer =
    guarded (MayStoreNewParent layer) (store_new_parent layer) (λ core step a asked. own-guarded (store_new_parent layer) core step a asked.node (of_node layer core step a asked) (home layer core step a asked))
