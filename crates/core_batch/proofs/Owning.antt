-- Who owns a node: the homes of the nodes of batches and of those that are to be given back.
use Rattle.std.proofs.Common.{◌≡◌, ◌≢◌, ℕ, ◌<◌, List, Contains, refl, ap, sym, ◌∙◌, subst, arith, suc}
use Rattle.core_state.specs.declared.view.View.{View}
use Rattle.core_state.specs.View.{IsPass}
use Rattle.core_state.specs.Core.{Core, IsViewAt, word_of}
use Rattle.core_state.specs.Formed.{IsFormed}
use Rattle.core_state.specs.Nodes.{Nodes, Home, owned, made, IsOwnedBy, nodes_of}
use Rattle.core_state.specs.Batches.{batch_nodes_of}
use Rattle.core_state.specs.NodesInOnePlace.{NodesInOnePlace, node_scope}
use Rattle.core_state.proofs.Forming.{pass_below, unspent_pass}
use Rattle.core_guard.proofs.Seats.{seat-has, has-seat}
use Rattle.core_guard.proofs.BodiesStep.{HoldsSlot}
use Rattle.core_state.specs.BodiesAgree.{BodiesAgree, body_scope}
use Rattle.core_state.specs.Encoding.{reserved_by}
use Rattle.word_map.specs.declared.name.Name.TheVariants.{Slot}
use Rattle.core_guard.proofs.NodesLeft.{seen-nodes}
pub use Rattle.core_guard.proofs.Owners.{same-seat, same-view, nodes_split, batch_among, owned-by, batch-below}

-- ---- who holds a slot

module _ (core : Core) (formed : IsFormed core) where
  -- numbers of passes are low
  pub number-low : (seat number : ℕ) (view : View) → IsViewAt core seat view → IsPass view number → suc number < 1024
  number-low seat number view at pass =
      let sound = formed.views seat view at (unspent_pass view.role number pass) in
      let below = pass_below core.config.passes number view.role pass sound.numbers in
      let most = formed.sizes.passes.1 in
      omega arith

  -- a pass that has a batch for a slot has reserved it
  pub slot-reserved : (h : BodiesAgree core) (seat number l t : ℕ) (view : View) → IsViewAt core seat view → IsPass view number → HoldsSlot l t view → word_of core (Slot l t) ≡ reserved_by number
  slot-reserved h seat number l t view at pass holds =
      (h.reserved l t number (number-low seat number view at pass)).1
      (seat-has body_scope (λ k v. refl) core number (HoldsSlot l t) (record { seat = seat; view = view; at = at; pass = pass; holds = holds }))

-- ---- homes

-- an owner is one
pub owner_one : (a b : ℕ) (home : Home) → IsOwnedBy a home → IsOwnedBy b home → a ≡ b
owner_one a b (owned p) h k = sym h ∙ k
owner_one a b (made p l) h k = sym h ∙ k
owner_one a b _ h k = absurd h

pub owned_home : (number : ℕ) (home : Home) → IsOwnedBy number home → ((p l : ℕ) → home ≢ made p l) → home ≡ owned number
owned_home number (owned p) h none = ap owned h
owned_home number (made p l) h none = absurd (none p l refl)
owned_home number _ h none = absurd h

module _ (core : Core) (nodes : Nodes) (h : NodesInOnePlace nodes core) (seat number : ℕ) (view : View) (at : IsViewAt core seat view) (pass : IsPass view number) where
  pub batch-home : (n : ℕ) → Contains (batch_nodes_of view) n → nodes.home n ≡ owned number
  batch-home n among =
      owned_home number (nodes.home n) (owned-by core nodes h seat number view at pass n (batch_among view n among))
      (λ p l e. let below = batch-below core nodes h seat number view at pass n among in let above = h.made_trees n p l e in absurd (omega arith))

-- and what a pass owns it has
pub owner-has : (core : Core) (nodes : Nodes) (h : NodesInOnePlace nodes core) → IsFormed core → (seat number : ℕ) (view : View) → IsViewAt core seat view → IsPass view number
    → (n : ℕ) → IsOwnedBy number (nodes.home n) → Contains (nodes_of view) n
owner-has core nodes h formed seat number view at pass n owns =
    let from = has-seat node_scope (λ k v. refl) core number (λ v. Contains (nodes_of v) n) ((h.owned n number).0 owns) in
    subst (λ (v : View). Contains (nodes_of v) n) (same-view core formed from.seat seat number from.view view from.at at from.pass pass)
    (subst (λ (l : List ℕ). Contains l n) (seen-nodes number from.view) from.holds)
