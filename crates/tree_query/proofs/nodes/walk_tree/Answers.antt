use Rattle.std.proofs.Common.{ℕ, ap, sym, ◌∙◌, subst, arith}
use Rattle.arrayvec.specs.ArrayVec.{ArrayVec}
use Rattle.word_map.specs.Limits.{IsConfig}
use Rattle.pass_table.specs.Passes.{view_of}
use Rattle.tree_query.proofs.NodeStacks.{at-node, none-left, no-nodes, nodes-few}
use Rattle.tree_query.proofs.nodes.walk_tree.Goals as goal

pub walk_node-requires-clause-at : goal.walk_node-requires-clause-at
walk_node-requires-clause-at c =
    let at = c.requires.at in
    let loop = c.loop-node in (
      at.0,
      at.1,
      at-node at.0 at.1 c.args.shape.now loop.finder (view_of loop.pass) loop.stack.items c.pop.new.self.items c.in-Some.node c.in-Some.ensures.items (loop.invariant.on at.0 at.1 at.2),
    )

pub loop-node-preserved : goal.loop-node-preserved
loop-node-preserved c =
    let so_far = c.loop-node.invariant in
    let walked = c.walk_node.ensures in
    record {
      of = walked.of;
      room = omega arith;
      on = λ trip rest at.
          walked.on trip rest
          (at-node trip rest c.args.shape.now c.loop-node.finder (view_of c.loop-node.pass) c.loop-node.stack.items c.pop.new.self.items c.in-Some.node c.in-Some.ensures.items (so_far.on trip rest at));
    }

pub loop-node-smaller : goal.loop-node-smaller
loop-node-smaller c =
    let at = c.requires.at in
    let loop = c.loop-node in
    let limits = subst IsConfig (sym loop.invariant.of.sizes) c.args.world.now.in_limits in
    let few = nodes-few at.0 at.1 c.args.shape.now loop.finder (view_of loop.pass) loop.stack.items loop.pass.current limits (loop.invariant.on at.0 at.1 at.2) in
    let more = c.walk_node.ensures.more in
    omega arith

pub returns-clause-empty : goal.returns-clause-empty
returns-clause-empty c = ap (λ (s : ArrayVec ℕ). s.items) c.in_default.ensures.empty ∙ none-left c.loop-node.stack.items c.in_default.ensures.variant.1

pub returns-clause-on : goal.returns-clause-on
returns-clause-on c = λ trip rest at. no-nodes trip rest c.args.shape.now c.loop-node.finder (view_of c.loop-node.pass) c.loop-node.stack.items (none-left c.loop-node.stack.items c.in_default.ensures.variant.1) (c.loop-node.invariant.on trip rest at)
