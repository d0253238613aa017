-- What an update does not take too early: a node that is free or spare, or to be given back, is reached by no pass that walks; and
-- with nothing left to give back no node is to be given back.
use Rattle.std.proofs.Common.{IfSome, Option, Some, [], refl, subst, sym, true, ℕ, ◌≡◌, ◌≢◌}
use Rattle.std.proofs.lemmas.List.Elements.{Contains-append_right}
use Rattle.std.specs.Prelude.{Contains, List}
use Rattle.core_state.specs.Batches.{batch_nodes_of}
use Rattle.core_state.specs.Noting.{StoresNew}
use Rattle.core_state.specs.Core.{Core, IsViewAt}
use Rattle.core_state.specs.Formed.{IsFormed}
use Rattle.core_state.specs.Invariants.{Invariants}
use Rattle.core_state.specs.Nodes.{IsLive, IsOwnedBy, free, nodes_in, returning, spare}
use Rattle.core_state.specs.ReadersCounted.{Reaches, reader_scope}
use Rattle.core_state.specs.Scope.{sight}
use Rattle.core_state.specs.View.{IsPass}
use Rattle.core_state.specs.Walking.{Follows, Query, position_of}
use Rattle.core_state.specs.declared.view.Rebuild.{Rebuild}
use Rattle.core_state.specs.declared.view.View.{View}
use Rattle.core_guard.proofs.Owners.{nodes_split, owned-by, same-view}
use Rattle.core_guard.proofs.Seats.{each-seat}
use Rattle.core_update.proofs.AtRest.{IsLeftEmpty, nothing-left}

pub walks-in-trees : (core : Core) (h : Invariants core) (seat number : ℕ) (view : View) → IsViewAt core seat view → IsPass view number → view.walk.is_on ≡ true → (query : Query)
    → Follows core.config query view.walk.loads → (node : ℕ) → Reaches (sight reader_scope core).word (position_of core.config query view.walk.loads) node
    → (h.nodes.home node ≢ free) × (h.nodes.home node ≢ spare) × ((giver : ℕ) → h.nodes.home node ≢ returning giver)
walks-in-trees core h seat number view at pass on query follows node reached =
    let live = ((each-seat reader_scope (λ k v. refl) core _ h.readers.stays seat number view at pass on query follows).live node reached).0 in
    (λ e. subst IsLive e live, λ e. subst IsLive e live, λ giver e. subst IsLive e live)

pub nothing-left-to-return : (core : Core) → IsFormed core → (h : Invariants core) (seat number : ℕ) (view : View) → IsViewAt core seat view → IsPass view number → (r : Rebuild) → view.rebuild ≡ Some r
    → r.returning ≡ [] → (node : ℕ) → h.nodes.home node ≢ returning number
nothing-left-to-return core formed h seat number view at pass r update none node =
    nothing-left core h number
    (λ other found own is.
    subst (λ (v : View). IfSome v.rebuild IsLeftEmpty) (same-view core formed seat other number view found at own pass is) (subst (λ (o : Option Rebuild). IfSome o IsLeftEmpty) (sym update) none)) node

-- a node in which an update stores words of new trees is its own
pub new-nodes-owned : (core : Core) (h : Invariants core) (seat number : ℕ) (view : View) → IsViewAt core seat view → IsPass view number → (r : Rebuild) (node : ℕ) → StoresNew view r node → IsOwnedBy number (h.nodes.home node)
new-nodes-owned core h seat number view at pass r node stores =
    owned-by core h.nodes h.places seat number view at pass node
    (subst (λ (l : List ℕ). Contains l node) (sym (nodes_split view))
    (Contains-append_right (batch_nodes_of view) (nodes_in view.rebuild) node (subst (λ (o : Option Rebuild). Contains (nodes_in o) node) (sym stores.update) stores.owns)))
