-- Who owns nodes after a step of a pass that has some more, or fewer.
use Rattle.std.proofs.Common.{◌≡◌, ◌≢◌, ◌↔◌, ℕ, ◌<◌, List, Some, Contains, refl, ap, sym, ◌∙◌, subst, inl, inr}
use Rattle.std.proofs.lemmas.Bool.{cases_eq}
use Rattle.core_state.specs.declared.view.View.{View}
use Rattle.core_state.specs.View.{IsPass}
use Rattle.core_state.specs.Kind.{Kind, Step, view_after, after_step}
use Rattle.core_state.specs.Core.{Core}
use Rattle.core_state.specs.Nodes.{Nodes, IsOwnedBy, nodes_of}
use Rattle.core_state.specs.Batches.{batch_nodes_of}
use Rattle.core_state.specs.NodesInOnePlace.{node_scope}
use Rattle.core_state.specs.Scope.{sight, IsOnce}
use Rattle.core_state.proofs.Steps.{view-step}
use Rattle.core_guard.proofs.Leaving.{Acts}
use Rattle.core_guard.proofs.NodesLeft.{OwnerPart, seen-nodes}
use Rattle.core_guard.proofs.Seats.{seen_of, each-seats, has-seat, seat-has, SeatAfter, stepped, stayed, seat-after, each-step, has-step, has-unstep}
use Rattle.core_batch.proofs.Owning.{same-seat, batch-below}

module _ (kind : Kind) (core : Core) (step : Step) (a : Acts core step) where
  abbrev Last : View
  Last = view_after kind core step

  -- what the stepping pass has afterwards it owns, each once, and for others nothing changes
  pub record OwnsAfter (later : Nodes) : Type 0 where
    pub others : (n number : ℕ) → number ≢ step.number → IsOwnedBy number (a.laws.nodes.home n) ↔ IsOwnedBy number (later.home n)
    pub own : (n : ℕ) → IsOwnedBy step.number (later.home n) ↔ Contains (nodes_of Last) n
    pub once : IsOnce (nodes_of Last)
    pub below : (n : ℕ) → Contains (batch_nodes_of Last) n → n < core.config.nodes

  seen : (number n : ℕ) (view : View) → Contains (nodes_of (seen_of node_scope number view)) n → Contains (nodes_of view) n
  seen number n view c = subst (λ (l : List ℕ). Contains l n) (seen-nodes number view) c

  unseen : (number n : ℕ) (view : View) → Contains (nodes_of view) n → Contains (nodes_of (seen_of node_scope number view)) n
  unseen number n view c = subst (λ (l : List ℕ). Contains l n) (sym (seen-nodes number view)) c

  pub owner-part : (later : Nodes) → OwnsAfter later → OwnerPart later (sight node_scope (after_step kind core step))
  owner-part later o =
      let h = a.laws.places in
      record {
        owned = λ n number.
            elim (cases_eq number step.number) [
              | inl same ↦ (
                λ owns.
                    seat-has node_scope (λ k v. refl) (after_step kind core step) number (λ v. Contains (nodes_of v) n)
                    (record {
                      seat = step.seat;
                      view = Last;
                      at = view-step kind core step a.at;
                      pass = a.pass ∙ ap Some (sym same);
                      holds = unseen number n Last ((o.own n).0 (subst (λ (k : ℕ). IsOwnedBy k (later.home n)) same owns));
                    }),
                λ has.
                    let from = has-seat node_scope (λ k v. refl) (after_step kind core step) number (λ v. Contains (nodes_of v) n) has in
                    subst (λ (k : ℕ). IsOwnedBy k (later.home n)) (sym same)
                    ((o.own n).1
                    (mine later o n number same from.seat from.view from.pass (seen number n from.view from.holds)
                    (seat-after node_scope (λ k v. refl) kind core step a.at a.pass from.seat number from.view from.at from.pass))),
              )
              | inr other ↦ (
                λ owns.
                    has-step node_scope (λ k v. refl) kind core step a.at a.pass number (λ v. Contains (nodes_of v) n) (λ v. Contains (nodes_of v) n) ((h.owned n number).0 ((o.others n number other).1 owns))
                    (λ seat view apart found own has. has) (λ same has. absurd (other (sym same))),
                λ has.
                    (o.others n number other).0
                    ((h.owned n number).1
                    (has-unstep node_scope (λ k v. refl) kind core step a.at a.pass number (λ v. Contains (nodes_of v) n) (λ v. Contains (nodes_of v) n) has
                    (λ seat view apart found own one. one) (λ same one. absurd (other (sym same))))),
              )
            ];
        owned_once = each-step node_scope (λ k v. refl) kind core step a.at a.pass (λ number view. IsOnce (nodes_of view)) (λ number view. IsOnce (nodes_of view)) h.owned_once
            (λ seat number view apart found own once. once) (λ once. subst IsOnce (sym (seen-nodes step.number Last)) o.once);
        below = each-seats node_scope (λ k v. refl) (after_step kind core step) (λ number view. (n : ℕ) → Contains (batch_nodes_of view) n → n < core.config.nodes)
            (λ seat number view found own n among.
            below later o seat number view own n among (seat-after node_scope (λ k v. refl) kind core step a.at a.pass seat number view found own));
      }
    where
      mine : (later : Nodes) → OwnsAfter later → (n number : ℕ) → number ≡ step.number → (seat : ℕ) (view : View) → IsPass view number → Contains (nodes_of view) n
          → SeatAfter node_scope (λ k v. refl) kind core step a.at a.pass seat number view → Contains (nodes_of Last) n
      mine later o n number same seat view own among (stepped here is two) = subst (λ (v : View). Contains (nodes_of v) n) (sym is) among
      mine later o n number same seat view own among (stayed apart old) = absurd (apart (same-seat core a.formed seat step.seat step.number view step.view old a.at (own ∙ ap Some same) a.pass))

      below : (later : Nodes) → OwnsAfter later → (seat number : ℕ) (view : View) → IsPass view number → (n : ℕ) → Contains (batch_nodes_of view) n
          → SeatAfter node_scope (λ k v. refl) kind core step a.at a.pass seat number view → n < core.config.nodes
      below later o seat number view own n among (stepped here is two) = o.below n (subst (λ (v : View). Contains (batch_nodes_of v) n) (sym is) among)
      below later o seat number view own n among (stayed apart old) = batch-below core a.laws.nodes a.laws.places seat number view old own n among
