-- The nodes that a pass has taken for its newest batch are batch nodes, each another, and none that it had before.
use Rattle.std.specs.Prelude.{flat_map, nat_eq, All}
use Rattle.std.specs.List.{IsDistinct}
use Rattle.std.proofs.Common.{◌≡◌, ◌≢◌, ℕ, ◌<◌, List, [], ◌∷◌, ◌++◌, true, eqb, get_or, Contains, append_assoc, inl, inr, refl, ap, sym, ◌∙◌, subst}
use Rattle.std.proofs.lemmas.Bool.{eq-eqb, eqb-true}
use Rattle.std.proofs.lemmas.List.{append-nil}
use Rattle.std.proofs.lemmas.List.Elements.{Contains-get_or, Contains-append_left, Contains-append_right, Contains-append_cases}
use Rattle.std.proofs.lemmas.Map.Made.{IsDistinct-from_AllPairs}
use Rattle.core_state.specs.declared.view.Batch.{Batch}
use Rattle.core_state.specs.declared.view.View.{View}
use Rattle.core_state.specs.View.{IsPass}
use Rattle.core_state.specs.Core.{Core, IsViewAt}
use Rattle.core_state.specs.Nodes.{Nodes, nodes_of, nodes_in}
use Rattle.core_state.specs.Scope.{IsOnce}
use Rattle.core_state.specs.NodesInOnePlace.{NodesInOnePlace, node_scope}
use Rattle.core_state.specs.Batches.{change_newest, batch_nodes_of}
use Rattle.core_guard.proofs.Seats.{each-seat}
use Rattle.core_batch.proofs.Lists.{pairs-left, pairs-right, pairs-across}
use Rattle.core_batch.proofs.Owning.{batch-below}
use Rattle.core_guard.proofs.NodesLeft.{seen-nodes}
use Rattle.batch_add.specs.Parts.{IsNewest, with_nodes}
use Rattle.batch_add.specs.stages.TakingNodes.{with_more}

-- ---- the newest batch

-- a pass that prepares a batch has a newest one
pub some-newest : (batches : List Batch) → batches ≢ [] → (before : List Batch) × (batch : Batch) × (batches ≡ before ++ batch ∷ [])
some-newest [] some = absurd (some refl)
some-newest (b ∷ []) some = ([], b, refl)
some-newest (b ∷ c ∷ rest) some = let t = some-newest (c ∷ rest) (λ same. absurd cc) in (b ∷ t.0, t.1, ap (λ (l : List Batch). b ∷ l) t.2)

pub newest-some : (view : View) (before : List Batch) (batch : Batch) → IsNewest view before batch → view.batches ≢ []
newest-some view before batch newest none = go before (sym newest ∙ none)
  where
    go : (l : List Batch) → l ++ batch ∷ [] ≢ []
    go [] same = absurd cc
    go (b ∷ rest) same = absurd cc

-- no nodes more change nothing
pub with-none : (batches : List Batch) → with_more [] batches ≡ batches
with-none [] = refl
with-none (b ∷ []) = λ i. record b { nodes = append-nil b.nodes i } ∷ []
with-none (b ∷ c ∷ rest) = ap (λ (l : List Batch). b ∷ l) (with-none (c ∷ rest))

-- one node more
pub with-one : (nodes : List ℕ) (node : ℕ) (batches : List Batch) → change_newest (λ b. record b { nodes = b.nodes ++ node ∷ [] }) (with_more nodes batches) ≡ with_more (nodes ++ node ∷ []) batches
with-one nodes node [] = refl
with-one nodes node (b ∷ []) = λ i. record b { nodes = append_assoc b.nodes nodes (node ∷ []) i } ∷ []
with-one nodes node (b ∷ c ∷ []) = ap (λ (l : List Batch). b ∷ l) (with-one nodes node (c ∷ []))
with-one nodes node (b ∷ c ∷ d ∷ rest) = ap (λ (l : List Batch). b ∷ l) (with-one nodes node (c ∷ d ∷ rest))

-- some batch is the newest one still
pub with-some : (nodes : List ℕ) (batches : List Batch) → batches ≢ [] → with_more nodes batches ≢ []
with-some nodes [] some same = some refl
with-some nodes (b ∷ []) some same = absurd cc
with-some nodes (b ∷ c ∷ rest) some same = absurd cc

-- the newest batch has them, and the others are as they were
pub with-newest : (nodes : List ℕ) (before : List Batch) (batch : Batch) → with_more nodes (before ++ batch ∷ []) ≡ before ++ with_nodes batch nodes ∷ []
with-newest nodes [] batch = refl
with-newest nodes (b ∷ []) batch = refl
with-newest nodes (b ∷ c ∷ rest) batch = ap (λ (l : List Batch). b ∷ l) (with-newest nodes (c ∷ rest) batch)

-- they come after all nodes of batches that were there
pub with-flat : (nodes : List ℕ) (batches : List Batch) → batches ≢ [] → flat_map (λ (b : Batch). b.nodes) (with_more nodes batches) ≡ flat_map (λ (b : Batch). b.nodes) batches ++ nodes
with-flat nodes [] some = absurd (some refl)
with-flat nodes (b ∷ []) some = append-nil (b.nodes ++ nodes) ∙ ap (λ (l : List ℕ). l ++ nodes) (sym (append-nil b.nodes))
with-flat nodes (b ∷ c ∷ rest) some =
    ap (λ (l : List ℕ). b.nodes ++ l) (with-flat nodes (c ∷ rest) (λ same. absurd cc)) ∙ sym (append_assoc b.nodes (flat_map (λ (x : Batch). x.nodes) (c ∷ rest)) nodes)

-- ---- the nodes

same_numbers : (a b : ℕ) → (eqb a b ≡ true → a ≡ b) × (a ≡ b → eqb a b ≡ true)
same_numbers a b = (eqb-true a b, eq-eqb a b)

module _ (core : Core) (homes : Nodes) (places : NodesInOnePlace homes core) (seat number : ℕ) (view start : View) (nodes : List ℕ) (at : IsViewAt core seat view) (pass : IsPass view number) (some : start.batches ≢ [])
    (batches : view.batches ≡ with_more nodes start.batches) (loose : view.loose ≡ start.loose) where
  abbrev had : List ℕ
  had = flat_map (λ (b : Batch). b.nodes) start.batches

  flat : flat_map (λ (b : Batch). b.nodes) view.batches ≡ had ++ nodes
  flat = ap (λ (l : List Batch). flat_map (λ (b : Batch). b.nodes) l) batches ∙ with-flat nodes start.batches some

  -- all nodes that the pass has are different
  once : IsOnce ((had ++ nodes) ++ (start.loose ++ nodes_in view.rebuild))
  once =
      subst IsOnce (λ i. flat i ++ (loose i ++ nodes_in view.rebuild)) (subst IsOnce (seen-nodes number view) (each-seat node_scope (λ k v. refl) core (λ k v. IsOnce (nodes_of v)) places.owned_once seat number view at pass))

  once_batches : IsOnce (had ++ nodes)
  once_batches = pairs-left (λ a b. a ≢ b) (had ++ nodes) (start.loose ++ nodes_in view.rebuild) once

  pub taken-distinct : IsDistinct nat_eq nodes
  taken-distinct = IsDistinct-from_AllPairs same_numbers nodes (pairs-right (λ a b. a ≢ b) had nodes once_batches)

  pub taken-others : All (λ n. ¬ Contains (batch_nodes_of start) n) nodes
  taken-others k d below has =
      let node = get_or nodes k d in
      let new : Contains nodes node = Contains-get_or nodes k d below in
      elim (Contains-append_cases had start.loose node has) [
        | inl early ↦ pairs-across (λ a b. a ≢ b) had nodes once_batches node node early new refl
        | inr left ↦
            pairs-across (λ a b. a ≢ b) (had ++ nodes) (start.loose ++ nodes_in view.rebuild) once node node (Contains-append_right had nodes node new)
            (Contains-append_left start.loose (nodes_in view.rebuild) node left) refl
      ]

  pub taken-below : All (λ n. n < core.config.nodes) nodes
  taken-below k d below =
      let node = get_or nodes k d in
      let among : Contains (flat_map (λ (b : Batch). b.nodes) view.batches) node =
      subst (λ (l : List ℕ). Contains l node) (sym flat) (Contains-append_right had nodes node (Contains-get_or nodes k d below))
      in
      batch-below core homes places seat number view at pass node (Contains-append_left (flat_map (λ (b : Batch). b.nodes) view.batches) view.loose node among)
