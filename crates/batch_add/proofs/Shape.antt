-- The child words of a drawn batch say the stated tree over its bodies.
use Rattle.std.proofs.Common.{◌≡◌, ℕ, zero, suc, ◌/◌, ◌%◌, ◌<◌, ◌≤◌, Bool, cond, List, refl, ◌∙◌, ap, arith}
use Rattle.std.proofs.lemmas.Bool.{eq-eqb, ne_eqb}
use Rattle.fixed_box.specs.declared.fix_box.FixBox.{FixBox}
use Rattle.scene_model.specs.Tree.{Tree, body, tree}
use Rattle.scene_model.proofs.Trees.{same_node}
use Rattle.tree_plan.specs.declared.plan_child.PlanChild.{PlanChild}
use Rattle.tree_plan.specs.declared.plan_child.PlanChild.TheVariants.{Nothing, Body, Node}
use Rattle.tree_plan.specs.Plan.{Plan, node_count, child_at, tree_under, tree_from}
use Rattle.word_map.specs.declared.name.Name.{Name}
use Rattle.word_map.specs.declared.name.Name.TheVariants.{Child}
use Rattle.core_state.specs.declared.view.Batch.{Batch}
use Rattle.core_state.specs.Encoding.{body_child, node_child}
use Rattle.batch_add.specs.Drawing.{node_at, child_word, IsDrawn}
use Rattle.batch_add.specs.Shape.{tree_below, tree_at}
use Rattle.batch_add.proofs.Levels.{child-node, tree-read}
use Rattle.batch_add.proofs.Drawn.{root-made}

-- ---- what a child word says

says_body : (f : ℕ → Tree) (w index : ℕ) → w ≡ body_child index → tree_below f w ≡ body index
says_body f zero index e = absurd (omega arith)
says_body f (suc w) index e =
    let even : w % 2 ≡ 0 = omega arith in
    let half : w / 2 ≡ index = omega arith in
    ap (λ (b : Bool). cond b (body (w / 2)) (f (w / 2))) (eq-eqb (w % 2) 0 even) ∙ ap body half

says_node : (f : ℕ → Tree) (w n : ℕ) → w ≡ node_child n → tree_below f w ≡ f n
says_node f zero n e = absurd (omega arith)
says_node f (suc w) n e =
    let half : w / 2 ≡ n = omega arith in
    ap (λ (b : Bool). cond b (body (w / 2)) (f (w / 2))) (ne_eqb (w % 2) 0 (λ even. omega arith)) ∙ ap f half

says_child : (f g : ℕ → Tree) (nodes : List ℕ) (w : ℕ) (e : PlanChild) → w ≡ child_word nodes e → ((m : ℕ) → e ≡ Node m → f (node_at nodes m) ≡ g m) → tree_below f w ≡ tree_under g e
says_child f g nodes w Nothing is same = ap (tree_below f) is
says_child f g nodes w (Body index) is same = says_body f w index is
says_child f g nodes w (Node m) is same = says_node f w (node_at nodes m) is ∙ same m refl

-- ---- what is read from a node

module _ {word : Name → ℕ} {bodies : List (ℕ × FixBox)} {plan : Plan} {bound : ℕ → ℕ → FixBox} {batch : Batch} (d : IsDrawn word bodies plan bound batch) where
  -- from each node the plan's tree is read
  read-from : (levels n : ℕ) → n < node_count plan → tree_at word levels (node_at batch.nodes n) ≡ tree_from plan levels n
  read-from zero n made = refl
  read-from (suc levels) n made =
      let child : (k : ℕ) → k < 4 → tree_below (tree_at word levels) (word (Child (node_at batch.nodes n) k)) ≡ tree_under (tree_from plan levels) (child_at plan n k) =
      λ k few.
      says_child (tree_at word levels) (tree_from plan levels) batch.nodes (word (Child (node_at batch.nodes n) k)) (child_at plan n k) (d.says.child n k made few)
      (λ m e. read-from levels m (child-node d.planned.parents n k m made few e).2) in
      same_node _ _ _ _ _ _ _ _ (child 0 (omega arith)) (child 1 (omega arith)) (child 2 (omega arith)) (child 3 (omega arith))

-- the tree that is read from the root is the stated one, wherever it is read as far as trees are high
pub drawn-tree : (word : Name → ℕ) (bodies : List (ℕ × FixBox)) (plan : Plan) (bound : ℕ → ℕ → FixBox) (batch : Batch) → IsDrawn word bodies plan bound batch → (levels : ℕ) → 10 ≤ levels
    → tree_at word levels (node_at batch.nodes 0) ≡ tree bodies
drawn-tree word bodies plan bound batch d levels ten = read-from d levels 0 (root-made d) ∙ tree-read bodies plan levels d.planned d.some ten
