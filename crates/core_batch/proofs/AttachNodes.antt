-- The nodes are in one place where a batch was attached.
use Rattle.std.proofs.Common.{◌≡◌, ◌≢◌, ℕ, ◌++◌, Contains, refl, sym, subst, inl, inr}
use Rattle.std.specs.Prelude.{flat_map}
use Rattle.std.proofs.lemmas.List.Elements.{Contains-append_left, Contains-append_right, Contains-append_cases}
use Rattle.core_state.specs.declared.view.Batch.{Batch}
use Rattle.core_state.specs.Core.{Core}
use Rattle.core_state.specs.Formed.{IsFormed}
use Rattle.core_state.specs.Nodes.{Nodes, free, spare, IsInTree, IsOwnedBy, nodes_of, nodes_in}
use Rattle.core_state.specs.Scope.{IsOnce}
use Rattle.core_state.specs.Bodies.{IsForSlot}
use Rattle.core_state.specs.NodesInOnePlace.{NodesInOnePlace, node_scope}
use Rattle.core_state.specs.Batches.{attach, batch_nodes_of}
use Rattle.core_state.specs.Invariants.{Invariants}
use Rattle.core_state.proofs.Beginning.{contains_flat}
use Rattle.core_guard.proofs.Leaving.{Acts, lawful}
use Rattle.core_guard.proofs.NodesLeft.{KeepsHomes, unseen-pool, unseen-update, pool-stays, tree-part, together, seen-nodes, flat_from}
use Rattle.core_guard.proofs.Seats.{each-seat}
use Rattle.core_batch.proofs.Lists.{pairs-left, pairs-across, flat-once, IsPartOf, part-refl, part-contains, part-pairs, part-append, part-flat}
use Rattle.core_batch.proofs.Attaching.{Attaching, step_of, only_own, batch_node, was_home}
use Rattle.core_batch.proofs.Attached.{nodes_after, node-after, attached_node, other_node, home-outside, home-back, home-forth, core_after}
use Rattle.core_batch.proofs.NodesStep.{OwnsAfter, owner-part}
use Rattle.core_batch.proofs.Owning.{owned-by, owner-has, batch-below}
use Rattle.core_batch.proofs.BatchesLeft.{left_view, left-from, left-there, left-part}

-- ---- the nodes that are left

module _ (core : Core) (a : Attaching core) where
  -- the nodes that the pass owns then are some of those that it owned
  pub left_nodes-part : IsPartOf (nodes_of (left_view core a)) (nodes_of a.view)
  left_nodes-part =
      part-append (flat_map (λ (b : Batch). b.nodes) (left_view core a).batches) (flat_map (λ (b : Batch). b.nodes) a.view.batches) (a.view.loose ++ nodes_in a.view.rebuild) (a.view.loose ++ nodes_in a.view.rebuild)
      (part-flat (λ (b : Batch). b.nodes) (left_view core a).batches a.view.batches (left-part core a)) (part-refl (a.view.loose ++ nodes_in a.view.rebuild))

module _ (core : Core) (a : Attaching core) (formed : IsFormed core) (h : Invariants core) where
  -- nodes that are left are none of the batch
  pub left_nodes-apart : (n : ℕ) → Contains (nodes_of (left_view core a)) n → ¬ Contains a.batch.nodes n
  left_nodes-apart n among inside =
      let once : IsOnce (nodes_of a.view) = subst IsOnce (seen-nodes a.number a.view) (each-seat node_scope (λ k v. refl) core (λ k v. IsOnce (nodes_of v)) h.places.owned_once a.seat a.number a.view a.at a.pass) in
      let rest = a.view.loose ++ nodes_in a.view.rebuild in
      let all = flat_map (λ (b : Batch). b.nodes) a.view.batches in
      elim (Contains-append_cases (flat_map (λ (b : Batch). b.nodes) (left_view core a).batches) rest n among) [
        | inl here ↦
            let t = flat_from (λ (b : Batch). b.nodes) (left_view core a).batches n here in
            let kept = left-from core a t.0 t.1 in
            let same : t.0 ≡ a.batch = flat-once (λ (b : Batch). b.nodes) a.view.batches t.0 a.batch n (pairs-left (λ (k : ℕ) (m : ℕ). k ≢ m) all rest once) kept.0 a.among t.2 inside in
            kept.1 (subst (IsForSlot a.layer a.slot) (sym same) a.for_slot)
        | inr later ↦ pairs-across (λ (k : ℕ) (m : ℕ). k ≢ m) all rest once n n (contains_flat (λ (b : Batch). b.nodes) a.view.batches a.batch n a.among inside) later refl
      ]

  -- and all others are left
  pub left_nodes-there : (n : ℕ) → Contains (nodes_of a.view) n → ¬ Contains a.batch.nodes n → Contains (nodes_of (left_view core a)) n
  left_nodes-there n among outside =
      let rest = a.view.loose ++ nodes_in a.view.rebuild in
      elim (Contains-append_cases (flat_map (λ (b : Batch). b.nodes) a.view.batches) rest n among) [
        | inl here ↦
            let t = flat_from (λ (b : Batch). b.nodes) a.view.batches n here in
            let other : ¬ IsForSlot a.layer a.slot t.0 = λ for. outside (subst (λ (b : Batch). Contains b.nodes n) (only_own core a formed h t.0 t.1 for) t.2) in
            Contains-append_left (flat_map (λ (b : Batch). b.nodes) (left_view core a).batches) rest n
            (contains_flat (λ (b : Batch). b.nodes) (left_view core a).batches t.0 n (left-there core a t.0 t.1 other) t.2)
        | inr later ↦ Contains-append_right (flat_map (λ (b : Batch). b.nodes) (left_view core a).batches) rest n later
      ]

-- ---- the law

module _ (core : Core) (a : Attaching core) (acts : Acts core (step_of core a)) where
  abbrev h : Invariants core
  h = acts.laws

  abbrev Later : Nodes
  Later = nodes_after h.nodes core a

  -- a node of the batch is in the tree of its slot now; all others are where they were
  pub attach-keeps : KeepsHomes core h.nodes Later
  attach-keeps = record {
    stays = λ n inside. home-outside h.nodes core a n (λ in_batch. subst IsInTree (was_home core a acts.formed h n in_batch) inside);
    stood = λ n inside.
        elim (node-after h.nodes core a n) [
          | attached_node in_batch home depth ↦ inr (a.layer, a.slot, home, batch_node core a acts.formed h n in_batch)
          | other_node outside home depth ↦ inl home
        ];
    spares = λ n. (
      λ e. (home-forth core a acts.formed h (λ x. x ≡ spare) n (λ e. absurd cc) e).1,
      λ e. (home-back h.nodes core a (λ x. x ≡ spare) n (λ e. absurd cc) e).1,
    );
  }

  -- the pass owns what is left
  owns : OwnsAfter attach core (step_of core a) acts Later
  owns = record {
    others = λ n number apart. (
      λ owns.
          let outside : ¬ Contains a.batch.nodes n = λ inside. apart (sym (subst (IsOwnedBy number) (was_home core a acts.formed h n inside) owns)) in
          subst (IsOwnedBy number) (sym (home-outside h.nodes core a n outside)) owns,
      λ owns. (home-back h.nodes core a (IsOwnedBy number) n (λ none. none) owns).1,
    );
    own = λ n. (
      λ owns.
          let back = home-back h.nodes core a (IsOwnedBy a.number) n (λ none. none) owns in
          left_nodes-there core a acts.formed h n (owner-has core h.nodes h.places acts.formed a.seat a.number a.view a.at a.pass n back.1) back.0,
      λ among.
          subst (IsOwnedBy a.number) (sym (home-outside h.nodes core a n (left_nodes-apart core a acts.formed h n among)))
          (owned-by core h.nodes h.places a.seat a.number a.view a.at a.pass n (part-contains (nodes_of (left_view core a)) (nodes_of a.view) n (left_nodes-part core a) among)),
    );
    once =
        part-pairs (λ (k : ℕ) (m : ℕ). k ≢ m) (nodes_of (left_view core a)) (nodes_of a.view) (left_nodes-part core a)
        (subst IsOnce (seen-nodes a.number a.view) (each-seat node_scope (λ k v. refl) core (λ k v. IsOnce (nodes_of v)) h.places.owned_once a.seat a.number a.view a.at a.pass));
    below = λ n among.
        batch-below core h.nodes h.places a.seat a.number a.view a.at a.pass n
        (part-contains (batch_nodes_of (left_view core a)) (batch_nodes_of a.view) n
        (part-append (flat_map (λ (b : Batch). b.nodes) (left_view core a).batches) (flat_map (λ (b : Batch). b.nodes) a.view.batches) a.view.loose a.view.loose
        (part-flat (λ (b : Batch). b.nodes) (left_view core a).batches a.view.batches (left-part core a)) (part-refl a.view.loose)) among);
  }

  pub NodesInOnePlace-attach : NodesInOnePlace Later (core_after core a)
  NodesInOnePlace-attach =
      together (core_after core a) Later
      (pool-stays attach core (step_of core a) (lawful acts) Later
      (λ n. (
        λ e. (home-forth core a acts.formed h (λ x. x ≡ free) n (λ e. absurd cc) e).1,
        λ e. (home-back h.nodes core a (λ x. x ≡ free) n (λ e. absurd cc) e).1,
      ))
      (unseen-pool attach core (step_of core a) refl refl (λ pooling holds. holds)))
      (owner-part attach core (step_of core a) acts Later owns) (tree-part attach core (step_of core a) (lawful acts) (unseen-update attach core (step_of core a) refl refl) Later attach-keeps)
