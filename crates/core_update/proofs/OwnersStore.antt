-- Words of nodes are stored, for a batch or for new trees, in nodes alone that are the pass's own and stand in no tree.
use Rattle.std.proofs.Common.{◌≡◌, ℕ, Some, ap, sym, ◌∙◌}
use Rattle.std.proofs.lemmas.Option.{same_Some}
use Rattle.core_state.specs.declared.view.Rebuild.{Rebuild}
use Rattle.core_state.specs.Batches.{MayStoreNode, store_node}
use Rattle.core_state.specs.Core.{Core}
use Rattle.core_state.specs.Formed.{IsFormed}
use Rattle.core_state.specs.Invariants.{Invariants}
use Rattle.core_state.specs.Kind.{Asking, Kind, Steps}
use Rattle.core_state.specs.Nodes.{node_in, owned}
use Rattle.core_state.specs.Noting.{StoresNew, MayStoreNewChild, store_new_child, MayStoreNewBound, store_new_bound, MayStoreNewParent, store_new_parent, MayFinishPlan, finish_plan}
use Rattle.core_batch.proofs.Owning.{batch-home}
use Rattle.core_update.proofs.EarlyUpdate.{owned-apart}

pub batch-stores : (before after : Core) (h : Invariants before) (steps : Steps MayStoreNode store_node before after) (node : ℕ) → node_in steps.step.name ≡ Some node → h.nodes.home node ≡ owned steps.step.number
batch-stores before after h steps node names =
    let s = steps.step in
    let asked = steps.allowed.asked in
    ap h.nodes.home (same_Some node asked.node (sym names ∙ asked.of_node)) ∙ batch-home before h.nodes h.places s.seat s.number s.view steps.allowed.at steps.allowed.pass asked.node asked.owns

module _ (before after : Core) (h : Invariants before) (formed : IsFormed before) where
  -- of a kind that stores a word of new trees
  new-stores : (asks : Asking) (kind : Kind) (steps : Steps asks kind before after) (r : Rebuild) (own node : ℕ) → StoresNew steps.step.view r own → node_in steps.step.name ≡ Some own → node_in steps.step.name ≡ Some node → h.nodes.home node ≡ owned steps.step.number
  new-stores asks kind steps r own node stores of names =
      ap h.nodes.home (same_Some node own (sym names ∙ of)) ∙ owned-apart before steps.step steps.allowed.at steps.allowed.pass formed h r stores.update stores.early own stores.owns

  pub child-stores : (steps : Steps MayStoreNewChild store_new_child before after) (node : ℕ) → node_in steps.step.name ≡ Some node → h.nodes.home node ≡ owned steps.step.number
  child-stores steps node = let asked = steps.allowed.asked in new-stores _ _ steps asked.r asked.node node asked.stores (ap node_in asked.names)

  pub bound-stores : (steps : Steps MayStoreNewBound store_new_bound before after) (node : ℕ) → node_in steps.step.name ≡ Some node → h.nodes.home node ≡ owned steps.step.number
  bound-stores steps node = let asked = steps.allowed.asked in new-stores _ _ steps asked.r asked.node node asked.stores (ap node_in asked.names)

  pub parent-stores : (layer : ℕ) (steps : Steps (MayStoreNewParent layer) (store_new_parent layer) before after) (node : ℕ) → node_in steps.step.name ≡ Some node → h.nodes.home node ≡ owned steps.step.number
  parent-stores layer steps node = let asked = steps.allowed.asked in new-stores _ _ steps asked.r asked.node node asked.stores (ap node_in asked.names)

  pub last-stores : (layer : ℕ) (steps : Steps (MayFinishPlan layer) (finish_plan layer) before after) (node : ℕ) → node_in steps.step.name ≡ Some node → h.nodes.home node ≡ owned steps.step.number
  last-stores layer steps node = let asked = steps.allowed.asked in new-stores _ _ steps asked.r asked.node node asked.stores (ap node_in asked.names)
