-- The bounds in a drawn batch contain the boxes below, and reach no further than the boxes of the batch.
use Rattle.std.proofs.Common.{◌≡◌, ◌≢◌, ℕ, zero, suc, ◌+◌, ◌<◌, ◌≤◌, List, Option, Some, None, refl, ◌∙◌, ap, subst, arith}
use Rattle.fixed_box.specs.declared.fix_box.FixBox.{FixBox}
use Rattle.fixed_box.specs.FixBox.{words_of}
use Rattle.fixed_box.proofs.Words.{AreWords-of_box}
use Rattle.tree_plan.specs.declared.plan_child.PlanChild.{PlanChild}
use Rattle.tree_plan.specs.declared.plan_child.PlanChild.TheVariants.{Nothing, Body, Node}
use Rattle.tree_plan.specs.Plan.{Plan, node_count, child_at, parent_at}
use Rattle.tree_bounds.specs.Bounds.{side}
use Rattle.word_map.specs.declared.name.Name.{Name}
use Rattle.word_map.specs.declared.name.Name.TheVariants.{Parent}
use Rattle.core_state.specs.declared.view.Batch.{Batch}
use Rattle.core_state.specs.Encoding.{place, Sides, sides_of, IsBox, Covers, bound_in}
use Rattle.core_state.specs.Nodes.{Above, here, higher}
use Rattle.core_state.specs.Space.{IsInHull}
use Rattle.core_state.specs.Batches.{HasSide}
use Rattle.batch_add.specs.Drawing.{node_at, IsDrawn}
use Rattle.batch_add.proofs.Levels.{child-node}
use Rattle.batch_add.proofs.Drawn.{parent-said, marked-at}

-- the words of a box are a box
is_box : (b : FixBox) → IsBox (side b)
is_box b zero below = (AreWords-of_box b (words_of b) refl).0
is_box b (suc zero) below = (AreWords-of_box b (words_of b) refl).1
is_box b (suc (suc zero)) below = (AreWords-of_box b (words_of b) refl).2
is_box b (suc (suc (suc q))) below = absurd (omega arith)

-- a child that is a node is something
node_some : (e : PlanChild) (m : ℕ) → e ≡ Node m → e ≢ Nothing
node_some e m is none = cc

module _ {word : Name → ℕ} {bodies : List (ℕ × FixBox)} {plan : Plan} {bound : ℕ → ℕ → FixBox} {batch : Batch} (d : IsDrawn word bodies plan bound batch) where
  -- ---- words of bounds

  -- they are a box
  pub box-said : (n k : ℕ) → n < node_count plan → k < 4 → child_at plan n k ≢ Nothing → IsBox (bound_in word (node_at batch.nodes n) k)
  box-said n k made few some q below =
      let low = d.says.bounds n k q made few (omega arith) some in
      let high = d.says.bounds n k (3 + q) made few (omega arith) some in
      let b = is_box (bound n k) q below in
      let least = b.0 in
      let order = b.1 in
      let most = b.2 in
      (omega arith, omega arith, omega arith)

  -- and contain what the plan's bound contains
  covers-said : (n k : ℕ) (inner : Sides) → n < node_count plan → k < 4 → child_at plan n k ≢ Nothing → Covers (side (bound n k)) inner → Covers (bound_in word (node_at batch.nodes n) k) inner
  covers-said n k inner made few some covers q below =
      let low = d.says.bounds n k q made few (omega arith) some in
      let high = d.says.bounds n k (3 + q) made few (omega arith) some in
      let c = covers q below in
      let least = c.0 in
      let most = c.1 in
      (omega arith, omega arith)

  -- ---- upward

  -- what lies in the bound of a child that is a node's lies in the bound of that node
  covers-parent : (n k m j : ℕ) (inner : Sides) → m < node_count plan → j < 4 → child_at plan m j ≡ Node n → k < 4 → child_at plan n k ≢ Nothing → Covers (side (bound n k)) inner → Covers (side (bound m j)) inner
  covers-parent n k m j inner made few there few' some covers q below =
      let hull = (d.bounded.a_node m j n made few there).encloses k few' some q below in
      let outer_low = hull.0 in
      let outer_high = hull.1 in
      let c = covers q below in
      let least = c.0 in
      let most = c.1 in
      (omega arith, omega arith)

  -- so each bound from a place up to the root contains what the bound at that place contains
  pub encloses-above : (inner : Sides) (x k a b : ℕ) → Above word x k a b → (n : ℕ) → node_at batch.nodes n ≡ x → n < node_count plan → k < 4 → child_at plan n k ≢ Nothing → Covers (side (bound n k)) inner
      → Covers (bound_in word a b) inner
  encloses-above inner x k a b (here y c) n same made few some covers = subst (λ (z : ℕ). Covers (bound_in word z k) inner) same (covers-said n k inner made few some covers)
  encloses-above inner x k a b (higher y c m j e f up below rest) n same made few some covers =
      by (parent_at plan n) refl (λ p at less others. encloses-above inner m j a b rest p at less below others)
    where
      by : (o : Option (ℕ × ℕ)) → parent_at plan n ≡ o
          → ((p : ℕ) → node_at batch.nodes p ≡ m → p < node_count plan → child_at plan p j ≢ Nothing → Covers (side (bound p j)) inner → Covers (bound_in word a b) inner) → Covers (bound_in word a b) inner
      by None none further =
          let said = parent-said d n None made none in
          let at_parent : word (Parent (node_at batch.nodes n)) ≡ place m j = ap (λ (z : ℕ). word (Parent z)) same ∙ up in
          absurd (omega arith)
      by (Some above) e further =
          let p = above.0 in
          let tree = d.planned.parents in
          let is_above = tree.above n p above.1 e in
          let number_less = is_above.0 in
          let child_less = is_above.1 in
          let said = parent-said d n (Some above) made e in
          let at_parent : word (Parent (node_at batch.nodes n)) ≡ place m j = ap (λ (z : ℕ). word (Parent z)) same ∙ up in
          let at : node_at batch.nodes p ≡ m = omega arith in
          let child : above.1 ≡ j = omega arith in
          let less : p < node_count plan = omega arith in
          let there : child_at plan p j ≡ Node n = subst (λ (c : ℕ). child_at plan p c ≡ Node n) child ((tree.agree p above.1 n less child_less).0 e) in
          further p at less (node_some (child_at plan p j) n there) (covers-parent n k p j inner less below there few some covers)

  -- ---- downward

  -- each side of a bound is that of the box of some body
  has_side : (steps n k q : ℕ) → node_count plan ≤ n + steps → n < node_count plan → k < 4 → q < 6 → child_at plan n k ≢ Nothing → HasSide batch q (side (bound n k) q)
  has_side zero n k q deep made few sides some = absurd (omega arith)
  has_side (suc steps) n k q deep made few sides some =
      by (child_at plan n k) refl (λ m j less below few' some'. has_side steps m j q (omega arith) below few' sides some')
    where
      by : (e : PlanChild) → child_at plan n k ≡ e → ((m j : ℕ) → n < m → m < node_count plan → j < 4 → child_at plan m j ≢ Nothing → HasSide batch q (side (bound m j) q)) → HasSide batch q (side (bound n k) q)
      by Nothing none further = absurd (some none)
      by (Body index) there further =
          let t = marked-at d n k index made few there in
          (t.m, t.marked, ap (λ (w : List ℕ). sides_of w q) t.bounds)
      by (Node m) there further =
          let c = child-node d.planned.parents n k m made few there in
          let r = (d.bounded.a_node n k m made few there).reaches q sides in
          subst (HasSide batch q) r.3 (further m r.0 c.1 c.2 r.1 r.2)

  -- so a bound reaches no further than some bodies
  pub tight-said : (n k : ℕ) → n < node_count plan → k < 4 → child_at plan n k ≢ Nothing → IsInHull (HasSide batch) (bound_in word (node_at batch.nodes n) k)
  tight-said n k made few some q below =
      let side_of : (r : ℕ) → r < 6 → HasSide batch r (side (bound n k) r) = λ r less. has_side (node_count plan) n k r (omega arith) made few less some in
      let low = d.says.bounds n k q made few (omega arith) some in
      let high = d.says.bounds n k (3 + q) made few (omega arith) some in (
        (side (bound n k) q, side_of q (omega arith), omega arith),
        (side (bound n k) (3 + q), side_of (3 + q) (omega arith), omega arith),
      )
