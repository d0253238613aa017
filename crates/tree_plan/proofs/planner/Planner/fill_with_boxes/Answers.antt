use Rattle.std.proofs.Common.{◌≡◌, ◌≤◌, ◌+◌, ◌*◌, ℕ, List, ◌++◌, length, take, drop, map, get_or, ap, sym, subst, ◌∙◌, arith}
use Rattle.std.proofs.lemmas.List.{take-append-le, take_all, length-map, length-take-le}
use Rattle.std.specs.List.Sorted.{IsPermutation}
use Rattle.fixed_box.specs.declared.fix_box.FixBox.{FixBox}
use Rattle.scene_model.specs.Need.{need}
use Rattle.tree_plan.specs.Arranged.{arranged}
use Rattle.tree_plan.specs.Plan.{Plan, IsPlanOf}
use Rattle.tree_plan.specs.declared.plan_child.PlanChild.{PlanChild}
use Rattle.tree_plan.specs.declared.run.Run.{Run}
use Rattle.tree_plan.proofs.Arrangement.{arranged-permutes}
use Rattle.tree_plan.proofs.Order.{AreApart-permutation}
use Rattle.tree_plan.proofs.Standing.{length-arranged}
use Rattle.tree_plan.proofs.Growth.{need-grows}
use Rattle.tree_plan.specs.declared.plan_child.PlanChild.TheVariants.{Nothing}
use Rattle.tree_plan.specs.Numbering.{HaveBoxes}
use Rattle.tree_plan.specs.Plan.{HaveBoxesOf}
use Rattle.tree_plan.proofs.Boxes.{all_boxes}
use Rattle.tree_plan.proofs.Plans.{IsPlanOf-numbered, IsPlanOf-empty}
use Rattle.tree_plan.proofs.planner.Planner.fill_with_boxes.Goals as goal

fits : (bodies old : List (ℕ × FixBox)) (nodes most : ℕ) → bodies ≡ arranged old → nodes ≡ need (length bodies) → length old ≤ most → nodes ≤ need most
fits bodies old nodes most e needed few =
    let size : length bodies ≡ length old = ap length e ∙ length-arranged old in
    omega (arith, need-grows (length bodies) most (omega arith))

same_bodies : (old bodies : List (ℕ × FixBox)) → bodies ≡ arranged old → IsPermutation old bodies
same_bodies old bodies e = subst (λ (ys : List (ℕ × FixBox)). IsPermutation old ys) (sym e) (arranged-permutes old)

pub number_nodes-requires-clause-room : goal.number_nodes-requires-clause-room
number_nodes-requires-clause-room c =
    omega (arith, fits c.arrange.new.bodies c.args.bodies.now c.need-nodes.result c.self.inside.most c.arrange.ensures c.need-nodes.ensures.exact (omega (arith, ap (λ (p : Plan). p.most) c.self.view_is)), ap length c.deref_mut-then-nodes-gt0.ensures.value)

pub number_nodes-requires-clause-places : goal.number_nodes-requires-clause-places
number_nodes-requires-clause-places c =
    omega (arith, fits c.arrange.new.bodies c.args.bodies.now c.need-nodes.result c.self.inside.most c.arrange.ensures c.need-nodes.ensures.exact (omega (arith, ap (λ (p : Plan). p.most) c.self.view_is)), ap length c.deref_mut-then-nodes-gt0-2.ensures.value)

pub invariant_of-self : goal.invariant_of-self
invariant_of-self c =
    let i = c.self.invariant in
    (i.0, fits c.arrange.new.bodies c.args.bodies.now c.need-nodes.result c.self.inside.most c.arrange.ensures c.need-nodes.ensures.exact (omega (arith, ap (λ (p : Plan). p.most) c.self.view_is)), i.2, i.3, i.4)

-- the items of a vector that is written over as a slice
refilled : {X : Type 0} (n : ℕ) (ws old : List X) → length ws ≡ n → take n (ws ++ drop (length ws) old) ≡ ws
refilled n ws old size = take-append-le n ws (drop (length ws) old) (omega arith) ∙ take_all n ws (omega arith)

plan_same : (old : List (ℕ × FixBox)) (most nodes : ℕ) (runs runs' : List Run) (children children' : List PlanChild) → runs' ≡ runs → children' ≡ children
    → IsPlanOf old (record { most = most; children = take (4 * nodes) children; parents = map (λ (r : Run). r.parent) (take nodes runs) })
    → IsPlanOf old (record { most = most; children = take (4 * nodes) children'; parents = map (λ (r : Run). r.parent) (take nodes runs') })
plan_same old most nodes runs runs' children children' p q h =
    subst (λ (rs : List Run). IsPlanOf old (record { most = most; children = take (4 * nodes) children'; parents = map (λ (r : Run). r.parent) (take nodes rs) })) (sym p)
    (subst (λ (cs : List PlanChild). IsPlanOf old (record { most = most; children = take (4 * nodes) cs; parents = map (λ (r : Run). r.parent) (take nodes runs) })) (sym q) h)

pub returns-then-nodes-gt0-clause-plan : goal.returns-then-nodes-gt0-clause-plan
returns-then-nodes-gt0-clause-plan c =
    plan_same c.args.bodies.now c.self.inside.most c.need-nodes.result c.number_nodes.new.runs _ c.number_nodes.new.children _
    (refilled c.self.inside.runs.len c.number_nodes.new.runs c.self.inside.runs.items (omega (arith, c.deref_mut-then-nodes-gt0.ensures.len)))
    (refilled c.self.inside.children.len c.number_nodes.new.children c.self.inside.children.items (omega (arith, c.deref_mut-then-nodes-gt0-2.ensures.len)))
    (IsPlanOf-numbered c.arrange.new.bodies c.args.bodies.now c.number_nodes.new.runs c.number_nodes.new.children c.self.inside.most c.need-nodes.result c.arrange.ensures c.if-nodes-gt0.true
    c.need-nodes.ensures.exact (omega (arith, c.self.invariant.0, ap (λ (p : Plan). p.most) c.self.view_is)) c.number_nodes.ensures.numbered)

pub returns-then-nodes-gt0-clause-bodies : goal.returns-then-nodes-gt0-clause-bodies
returns-then-nodes-gt0-clause-bodies c = same_bodies c.args.bodies.now c.arrange.new.bodies c.arrange.ensures

pub returns-else-nodes-gt0-clause-plan : goal.returns-else-nodes-gt0-clause-plan
returns-else-nodes-gt0-clause-plan c =
    IsPlanOf-empty c.arrange.new.bodies c.args.bodies.now c.self.inside.runs.items c.self.inside.children.items c.self.inside.most c.need-nodes.result c.arrange.ensures c.need-nodes.ensures.exact c.if-nodes-gt0.false

pub returns-else-nodes-gt0-clause-bodies : goal.returns-else-nodes-gt0-clause-bodies
returns-else-nodes-gt0-clause-bodies c = same_bodies c.args.bodies.now c.arrange.new.bodies c.arrange.ensures

pub returns-then-nodes-gt0-clause-still_apart : goal.returns-then-nodes-gt0-clause-still_apart
returns-then-nodes-gt0-clause-still_apart c = AreApart-permutation c.args.bodies.now c.arrange.new.bodies (same_bodies c.args.bodies.now c.arrange.new.bodies c.arrange.ensures) c.requires.apart

pub returns-else-nodes-gt0-clause-still_apart : goal.returns-else-nodes-gt0-clause-still_apart
returns-else-nodes-gt0-clause-still_apart c = AreApart-permutation c.args.bodies.now c.arrange.new.bodies (same_bodies c.args.bodies.now c.arrange.new.bodies c.arrange.ensures) c.requires.apart

boxes_same : (old bodies : List (ℕ × FixBox)) (most nodes : ℕ) (runs runs' : List Run) (children children' : List PlanChild) (boxes : List FixBox) → nodes ≤ length runs → runs' ≡ runs → children' ≡ children → IsPermutation old bodies
    → HaveBoxes bodies children boxes (4 * nodes) → HaveBoxesOf old (record { most = most; children = take (4 * nodes) children'; parents = map (λ (r : Run). r.parent) (take nodes runs') }) boxes
boxes_same old bodies most nodes runs runs' children children' boxes room same_runs same permuted h = λ n k index d made few inside is.
    let count : length (map (λ (r : Run). r.parent) (take nodes runs')) ≡ nodes = length-map (take nodes runs') (λ (r : Run). r.parent) ∙ length-take-le nodes runs' (subst (λ (rs : List Run). nodes ≤ length rs) (sym same_runs) room) in
    all_boxes bodies old children boxes nodes n k index d permuted h (omega arith) few inside (ap (λ (cs : List PlanChild). get_or (take (4 * nodes) cs) (4 * n + k) Nothing) (sym same) ∙ is)

pub returns-then-nodes-gt0-clause-boxes : goal.returns-then-nodes-gt0-clause-boxes
returns-then-nodes-gt0-clause-boxes c =
    boxes_same c.args.bodies.now c.arrange.new.bodies c.self.inside.most c.need-nodes.result c.number_nodes.new.runs _ c.number_nodes.new.children _ c.number_nodes.new.boxes c.number_nodes.ensures.numbered.room
    (refilled c.self.inside.runs.len c.number_nodes.new.runs c.self.inside.runs.items (omega (arith, c.deref_mut-then-nodes-gt0.ensures.len)))
    (refilled c.self.inside.children.len c.number_nodes.new.children c.self.inside.children.items (omega (arith, c.deref_mut-then-nodes-gt0-2.ensures.len))) (same_bodies c.args.bodies.now c.arrange.new.bodies c.arrange.ensures)
    c.number_nodes.ensures.boxes
