use Rattle.std.proofs.Common.{arith}
use Rattle.std.proofs.lemmas.List.Sorted.{IsPermutation-sym, Contains-permutation}
use Rattle.tree_bounds.proofs.Sets.{IsPlanOf-permutation, AreBoundsOf-permutation}
use Rattle.tree_bounds.proofs.tree_bounds.plan_with_bounds.Goals as goal

pub fill_from_the_last-requires-clause-planned : goal.fill_from_the_last-requires-clause-planned
fill_from_the_last-requires-clause-planned c =
    IsPlanOf-permutation c.args.bodies.now c.fill_with_boxes.new.bodies c.fill_with_boxes.new.self c.requires.apart c.fill_with_boxes.ensures.bodies c.fill_with_boxes.ensures.plan

pub fill_from_the_last-requires-clause-boxes : goal.fill_from_the_last-requires-clause-boxes
fill_from_the_last-requires-clause-boxes c = λ n k index d made few inside e.
    Contains-permutation c.args.bodies.now c.fill_with_boxes.new.bodies _ c.fill_with_boxes.ensures.bodies (c.fill_with_boxes.ensures.boxes n k index d made few inside e)

pub fill_from_the_last-requires-clause-room : goal.fill_from_the_last-requires-clause-room
fill_from_the_last-requires-clause-room c = omega (arith, c.fill_with_boxes.ensures.plan.nodes, c.fill_with_boxes.ensures.boxes_room, c.requires.room)

pub returns-clause-bounds : goal.returns-clause-bounds
returns-clause-bounds c =
    AreBoundsOf-permutation c.fill_with_boxes.new.bodies c.args.bodies.now c.fill_with_boxes.new.self _ (IsPermutation-sym c.args.bodies.now c.fill_with_boxes.new.bodies c.fill_with_boxes.ensures.bodies)
    c.fill_from_the_last.ensures.bounds
