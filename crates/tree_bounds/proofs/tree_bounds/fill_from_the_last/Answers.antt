use Rattle.std.proofs.Common.{◌≡◌, ℕ, ◌+◌, ◌-◌, ◌*◌, ◌/◌, ◌%◌, ◌<◌, ◌∙◌, length, refl, subst, arith}
use Rattle.std.proofs.lemmas.List.{length-set}
use Rattle.tree_plan.specs.Plan.{node_count}
use Rattle.tree_bounds.specs.Held.{bound_in}
use Rattle.tree_bounds.proofs.Filling.{AreBoundsFrom, AreBoundsFrom-none, AreBoundsFrom-more, HaveBoxesOf-more, box_stays}
use Rattle.tree_bounds.proofs.tree_bounds.fill_from_the_last.Goals as goal

pub loop-done-init : goal.loop-done-init
loop-done-init c = (AreBoundsFrom-none c.args.bodies.now c.args.planner.now (bound_in c.args.bounds.now) _ (omega (arith, c.len.ensures)), c.requires.boxes, refl)

pub loop-done-preserved : goal.loop-done-preserved
loop-done-preserved c =
    let bodies = c.args.bodies.now in
    let plan = c.args.planner.now in
    let boxes = c.loop-done.bounds in
    let size : length boxes ≡ length c.args.bounds.now = c.loop-done.invariant.2 in
    let bound = c.bound_of_child-bound.result in
    let place : ℕ = 4 * c.len.result - 1 - c.loop-done.done in
    let within : place < length boxes = omega (arith, c.len.ensures, size, c.requires.room) in
    let made : place / 4 < node_count plan = omega (arith, c.len.ensures) in
    let inside : 4 * (place / 4) + place % 4 < length boxes = omega arith in
    let after : 4 * c.len.result - c.loop-done.done ≡ place + 1 = omega arith in
    let before : place ≡ 4 * c.len.result - (c.loop-done.done + 1) = omega arith in
    let right = subst (AreBoundsFrom bodies plan (bound_in boxes)) after c.loop-done.invariant.0 in
    let body = box_stays bodies plan boxes (place / 4) (place % 4) bound made (omega arith) inside c.loop-done.invariant.1 c.bound_of_child-bound.ensures.a_body in (
      subst (AreBoundsFrom bodies plan _) before
          (AreBoundsFrom-more bodies plan c.requires.planned boxes place within bound (place / 4) (place % 4) (omega arith) (omega arith) body c.bound_of_child-bound.ensures.a_node right),
      HaveBoxesOf-more bodies plan boxes place (place / 4) (place % 4) bound within (omega arith) (omega arith) body c.loop-done.invariant.1,
      length-set boxes place bound ∙ size,
    )
