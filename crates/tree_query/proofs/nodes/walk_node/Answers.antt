use Rattle.std.proofs.Common.{◌≡◌, subst, arith}
use Rattle.pass_table.specs.Passes.{view_of}
use Rattle.tree_query.specs.Collecting.{IsAtChild}
use Rattle.tree_query.proofs.nodes.walk_node.Goals as goal

pub read_child-requires-clause-at : goal.read_child-requires-clause-at
read_child-requires-clause-at c = let at = c.requires.at in (at.0, at.1, c.loop-child.invariant.on at.0 at.1 at.2)

pub loop-child-preserved : goal.loop-child-preserved
loop-child-preserved c =
    let so_far = c.loop-child.invariant in
    let read = c.read_child.ensures in
    record { of = read.of; room = omega arith; more = omega arith; on = λ trip rest at. read.on trip rest (so_far.on trip rest at) }

pub returns-clause-on : goal.returns-clause-on
returns-clause-on c = λ trip rest at.
    let last : c.loop-child.child ≡ 4 = omega arith in
    let h = subst (IsAtChild trip rest c.args.shape.now c.loop-child.finder c.loop-child.stack.items (view_of c.loop-child.pass) c.args.node) last (c.loop-child.invariant.on trip rest at) in
    (h.1, h.2, h.3)
