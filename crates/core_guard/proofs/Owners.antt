-- Who owns a node: a pass owns the nodes that it has, and those of its batches are batch nodes.
use Rattle.std.proofs.Common.{◌≡◌, ℕ, ◌<◌, List, ◌++◌, Contains, append_assoc, refl, sym, subst, inl, inr}
use Rattle.std.specs.Prelude.{flat_map}
use Rattle.std.proofs.lemmas.Bool.{cases_eq}
use Rattle.std.proofs.lemmas.List.Elements.{Contains-append_left, Contains-append_cases}
use Rattle.core_state.specs.declared.view.Role.{Role}
use Rattle.core_state.specs.declared.view.Role.TheVariants.{Pass}
use Rattle.core_state.specs.declared.view.Batch.{Batch}
use Rattle.core_state.specs.declared.view.View.{View}
use Rattle.core_state.specs.View.{IsPass}
use Rattle.core_state.specs.Core.{Core, IsViewAt}
use Rattle.core_state.specs.Formed.{IsFormed, AreApart}
use Rattle.core_state.specs.Nodes.{Nodes, IsOwnedBy, nodes_of, nodes_in}
use Rattle.core_state.specs.Batches.{batch_nodes_of}
use Rattle.core_state.specs.NodesInOnePlace.{NodesInOnePlace, node_scope}
use Rattle.core_state.specs.Scope.{sight}
use Rattle.core_state.proofs.Beginning.{contains_flat}
use Rattle.core_state.proofs.Forming.{pass_role}
use Rattle.core_state.proofs.Lookups.{at_one}
use Rattle.core_guard.proofs.Seats.{seat_seen, seat-has, each-seat}
use Rattle.core_guard.proofs.NodesLeft.{seen-nodes, flat_from}
use Rattle.core_guard.proofs.Leaving.{number-apart}

-- ---- numbers

-- two seats of one number are one seat
module _ (core : Core) (formed : IsFormed core) (seat other number : ℕ) (v w : View) (at : IsViewAt core seat v) (found : IsViewAt core other w) (pass : IsPass v number) (own : IsPass w number) where
  pub same-seat : seat ≡ other
  same-seat =
      elim (cases_eq seat other) [
        | inl same ↦ same
        | inr apart ↦
            let one = pass_role v.role number pass in
            let two = pass_role w.role number own in
            let parts = formed.apart seat other v w at found apart in
            absurd (number-apart number one.0 two.0 (subst (λ (r : Role). AreApart r (Pass number two.0)) one.1 (subst (λ (r : Role). AreApart v.role r) two.1 parts)))
      ]

  pub same-view : v ≡ w
  same-view = at_one core.views other v w (subst (λ (k : ℕ). IsViewAt core k v) same-seat at) found

-- ---- homes

-- the nodes of batches and loose ones are among all that a view has
pub nodes_split : (view : View) → nodes_of view ≡ batch_nodes_of view ++ nodes_in view.rebuild
nodes_split view = sym (append_assoc (flat_map (λ (b : Batch). b.nodes) view.batches) view.loose (nodes_in view.rebuild))

pub batch_among : (view : View) (n : ℕ) → Contains (batch_nodes_of view) n → Contains (nodes_of view) n
batch_among view n h = subst (λ (l : List ℕ). Contains l n) (sym (nodes_split view)) (Contains-append_left (batch_nodes_of view) (nodes_in view.rebuild) n h)

module _ (core : Core) (nodes : Nodes) (h : NodesInOnePlace nodes core) (seat number : ℕ) (view : View) (at : IsViewAt core seat view) (pass : IsPass view number) where
  -- a pass owns the nodes that it has
  pub owned-by : (n : ℕ) → Contains (nodes_of view) n → IsOwnedBy number (nodes.home n)
  owned-by n among =
      (h.owned n number).1
      (seat-has node_scope (λ k v. refl) core number (λ v. Contains (nodes_of v) n) (record { seat = seat; view = view; at = at; pass = pass; holds = subst (λ (l : List ℕ). Contains l n) (sym (seen-nodes number view)) among }))

  -- those of its batches, and loose ones, are batch nodes
  pub batch-below : (n : ℕ) → Contains (batch_nodes_of view) n → n < core.config.nodes
  batch-below n among =
      elim (Contains-append_cases (flat_map (λ b. b.nodes) view.batches) view.loose n among) [
        | inl batches ↦
            let t = flat_from (λ b. b.nodes) view.batches n batches in
            h.batches t.0 n (contains_flat (λ v. v.batches) (sight node_scope core).passes _ t.0 (seat_seen node_scope core seat number view at pass) t.1) t.2
        | inr loose ↦
            each-seat node_scope (λ k v. refl) core (λ k v. (m : ℕ) → Contains v.loose m → m < core.config.nodes) h.loose seat number view at pass n loose
      ]
