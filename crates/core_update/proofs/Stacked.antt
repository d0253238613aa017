-- Of a merged tree that is given back, node by node with the children on a stack, only few nodes wait at once.
use Rattle.std.proofs.Common.{◌≡◌, ℕ, suc, ◌+◌, ◌*◌, ◌<◌, ◌≤◌, List, [], ◌∷◌, Contains, Option, None, Some, option_map, refl, ◌∙◌, arith}
use Rattle.std.specs.Prelude.{◌==◌, map, IsSomeAnd}
use Rattle.std.proofs.lemmas.Bool.{cond_both}
use Rattle.std.proofs.lemmas.Bool.Decides.{nat_tests}
use Rattle.word_map.specs.declared.name.Name.{Name}
use Rattle.core_state.specs.declared.view.Merged.{Merged}
use Rattle.core_state.specs.declared.view.Rebuild.{Rebuild}
use Rattle.core_state.specs.declared.view.View.{View}
use Rattle.core_state.specs.declared.view.Waiting.{Waiting}
use Rattle.core_state.specs.Core.{Core, IsViewAt}
use Rattle.core_state.specs.Invariants.{Invariants}
use Rattle.core_state.specs.Parts.{update_on_trees}
use Rattle.core_state.specs.Retiring.{tops_after, child_pushed, children_pushed}
use Rattle.core_state.specs.Scope.{sight}
use Rattle.core_state.specs.TreesSound.{AreTops, IsLeftNode, tree_scope}
use Rattle.core_state.specs.Updates.{HasUpdate}
use Rattle.core_state.specs.View.{IsPass}
use Rattle.core_state.specs.Walking.{waiting}
use Rattle.core_state.proofs.Beginning.{contains_first}
use Rattle.core_guard.proofs.Seats.{has-seat}
use Rattle.core_update.proofs.ReturnedTops.{child-pushed}
use Rattle.core_update.proofs.Updating.{own-says}
use Rattle.core_update.specs.Stacked.{begun, IsStacked}

-- one more waits
begun-more : (w : Waiting) (rest : List Waiting) → begun (w ∷ rest) ≤ suc (begun rest)
begun-more w rest = cond_both (w.level == 1) (begun rest) (suc (begun rest)) (λ many. many ≤ suc (begun rest)) (λ root. omega arith) (λ other. omega arith)

-- and none where that is a root, or where nothing of the tree waits behind it
begun-root : (w : Waiting) (rest : List Waiting) → w.level ≡ 1 → begun (w ∷ rest) ≡ begun rest
begun-root w rest e = cond_both (w.level == 1) (begun rest) (suc (begun rest)) (λ many. many ≡ begun rest) (λ root. refl) (λ other. absurd (grind (arith, nat_tests)))

-- the roots alone
pub roots-stacked : (merged : List Merged) → IsStacked (map (λ m. waiting m.root 1) merged) × (begun (map (λ m. waiting m.root 1) merged) ≡ 0)
roots-stacked [] = (tt, refl)
roots-stacked (m ∷ merged) =
    let h = roots-stacked merged in
    let none = h.1 in
    ((omega arith, h.0), begun-root (waiting m.root 1) (map (λ m. waiting m.root 1) merged) refl ∙ none)

-- ---- a node is given back

module _ (word : Name → ℕ) (n level : ℕ) where
  -- its first children were looked at, so many
  abbrev HasRoom : ℕ → List Waiting → Type 0
  HasRoom j tops = IsStacked tops × (begun tops + 3 ≤ 3 * level + j)

  one-pushed : (j : ℕ) (tops : List Waiting) → j < 4 → HasRoom j tops → HasRoom (suc j) (child_pushed word n level j tops)
  one-pushed j tops low h =
      let room = h.1 in
      child-pushed word n level j tops (HasRoom (suc j)) (λ none. (h.0, omega arith))
      (λ m e.
      let more = begun-more (waiting m (suc level)) tops in
      ((omega arith, h.0), omega arith))

  all-pushed : (rest : List Waiting) → IsStacked rest → begun rest + 3 ≤ 3 * level → IsStacked (children_pushed word n level rest)
  all-pushed rest h room = (one-pushed 3 _ (omega arith) (one-pushed 2 _ (omega arith) (one-pushed 1 _ (omega arith) (one-pushed 0 rest (omega arith) (h, omega arith))))).0

pub tops-stacked : (word : Name → ℕ) (tops : List Waiting) → IsStacked tops → IsStacked (tops_after word tops)
tops-stacked word [] h = h
tops-stacked word (w ∷ rest) h = all-pushed word w.node w.level rest h.1 h.0

-- ---- ten levels

module _ (core : Core) (h : Invariants core) (seat number : ℕ) (view : View) (r : Rebuild) (at : IsViewAt core seat view) (pass : IsPass view number) (has : view.rebuild ≡ Some r) where
  pub top-low : (w : Waiting) → Contains r.returning w → w.level ≤ 10
  top-low w among =
      let tops =
      own-says tree_scope (λ k v. refl) update_on_trees (λ k v. refl) core seat number view r at pass has (λ k v q. AreTops h.nodes (sight tree_scope core) k q) h.trees.tops
      in
      let top = tops.tops w among in
      let left = (has-seat tree_scope (λ k v. refl) core number (λ v. HasUpdate v (λ q. IsLeftNode h.nodes (sight tree_scope core) number q w.node)) (h.trees.left_nodes w.node number top.owned)).holds in
      let depth = height _ w.node left in
      let level = top.low in
      omega arith
    where
      height : (o : Option Rebuild) (n : ℕ) → IsSomeAnd (option_map update_on_trees o) (λ q. IsLeftNode h.nodes (sight tree_scope core) number q n) → h.nodes.depth n < 10
      height None n left = absurd left
      height (Some q) n left = left.height

  few : (tops : List Waiting) → ((w : Waiting) → Contains tops w → w.level ≤ 10) → IsStacked tops → begun tops ≤ 28
  few [] low stacked = omega arith
  few (w ∷ rest) low stacked =
      let more = begun-more w rest in
      let room = stacked.0 in
      let ten = low w (contains_first w rest) in
      omega arith

  pub begun-few : IsStacked r.returning → begun r.returning ≤ 28
  begun-few stacked = few r.returning top-low stacked
