use Rattle.std.proofs.Common.{◌≡◌, ℕ, List, refl, sym, ◌∙◌, subst, arith}
use Rattle.std.specs.Vec.{with_items}
use Rattle.std.proofs.lemmas.List.{with_items_is}
use Rattle.std.proofs.lemmas.List.Sorted.{length_permutation}
use Rattle.std.specs.List.Sorted.{IsPermutation}
use Rattle.fixed_box.specs.declared.fix_box.FixBox.{FixBox}
use Rattle.tree_plan.specs.Plan.{IsPlanOf}
use Rattle.tree_bounds.specs.Bounds.{AreBoundsOf}
use Rattle.tree_bounds.specs.Held.{bound_of}
use Rattle.tree_bounds.proofs.Sets.{AreBoundsOf-permutation}
use Rattle.pass_table.specs.Passes.{view_of}
use Rattle.batch_add.specs.stages.DrawStages.{before_child, HasDrawnUpTo}
use Rattle.batch_add.proofs.DrawBegun.{drawing-begun, first-node}
use Rattle.batch_add.proofs.tree_drawing.TreeDrawing.new.Goals as goal

pub returns-clause-under_way : goal.returns-clause-under_way
returns-clause-under_way c =
    let bodies = c.args.bodies.items in
    let sorted = c.plan.new.bodies in
    let plan = c.plan.new.planner in
    let bounds = c.plan.new.self in
    let view = view_of c.args.pass.now in
    let to = c.requires.batch in
    let is : c.deref_mut.result.now ≡ bodies = c.deref_mut.ensures.value in
    let same = subst (λ (l : List (ℕ × FixBox)). IsPermutation l sorted) is c.plan.ensures.bodies in
    let planned = subst (λ (l : List (ℕ × FixBox)). IsPlanOf l plan) is c.plan.ensures.plan in
    let bounded = AreBoundsOf-permutation bodies sorted plan (bound_of bounds) same (subst (λ (l : List (ℕ × FixBox)). AreBoundsOf l plan (bound_of bounds)) is c.plan.ensures.bounds) in
    let kept : (with_items c.args.bodies sorted).items ≡ sorted = with_items_is c.args.bodies sorted (length_permutation bodies sorted same ∙ sym c.args.bodies.ok.0) in (
      refl,
      (
        (first-node view bodies sorted c.args.nodes.items plan bounds to c.requires.rest same planned bounded c.plan.ensures.nodes, omega arith),
        subst (λ (l : List (ℕ × FixBox)). HasDrawnUpTo (record { plan = plan; bound = bound_of bounds; bounded = bounds.nodes; nodes = c.args.nodes.items; bodies = l }) view view (before_child 0 0)) (sym kept)
            (drawing-begun view bodies sorted c.args.nodes.items plan bounds to c.requires.rest same planned bounded c.plan.ensures.nodes c.args.pass.now.number c.args.pass.now.numbered),
      ),
    )
