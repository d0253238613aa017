use Rattle.std.proofs.Common.{◌≡◌, ◌<◌, ◌+◌, ◌-◌, ℕ, subst, arith}
use Rattle.pass_table.specs.Passes.{view_of}
use Rattle.pass_table.specs.Turning.{IsUnderWay}
use Rattle.tree_plan.specs.Plan.{node_count}
use Rattle.batch_add.specs.declared.draw_stage.DrawStage.TheVariants.{Child, Parent}
use Rattle.batch_add.specs.stages.DrawStages.{at_stage, Draws, IsDrawing}
use Rattle.batch_add.proofs.WholeTree.{under-at, goes-at, draws-turn, draws-then, under-draws}
use Rattle.batch_add.proofs.tree_drawing.TreeDrawing.draw_all.Goals as goal

pub loop-node-init : goal.loop-node-init
loop-node-init c = (c.requires.of, λ first start goes. goes)

pub draw_children-requires-clause-under_way : goal.draw_children-requires-clause-under_way
draw_children-requires-clause-under_way c =
    let view = view_of c.args.pass.now in
    under-draws c.args.self.now (Child 0 0) (Child c.loop-node.node 0) view (view_of c.loop-node.pass) c.loop-node.invariant.1 (under-at c.args.self.now (Child 0 0) view c.requires.first c.requires.under_way)

pub put_parent-requires-clause-under_way : goal.put_parent-requires-clause-under_way
put_parent-requires-clause-under_way c =
    let view = view_of c.args.pass.now in
    let mid = view_of c.loop-node.pass in
    under-draws c.args.self.now (Child c.loop-node.node 0) (Parent c.loop-node.node) mid (view_of c.draw_children.new.pass) c.draw_children.ensures.draws
    (under-draws c.args.self.now (Child 0 0) (Child c.loop-node.node 0) view mid c.loop-node.invariant.1 (under-at c.args.self.now (Child 0 0) view c.requires.first c.requires.under_way))

pub put_parent-requires-clause-more : goal.put_parent-requires-clause-more
put_parent-requires-clause-more c = let count = c.len-last.ensures in omega arith

pub loop-node-preserved : goal.loop-node-preserved
loop-node-preserved c =
    let operation = c.args.self.now in
    let n = c.loop-node.node in
    let begun = view_of c.args.pass.now in
    let view = view_of c.loop-node.pass in
    let mid = view_of c.draw_children.new.pass in
    let next = view_of c.put_parent.new.pass in (
      c.put_parent.ensures.of,
      draws-then operation (Child 0 0) (Child n 0) (Child (n + 1) 0) begun view next c.loop-node.invariant.1
          (draws-then operation (Child n 0) (Parent n) (Child (n + 1) 0) view mid next c.draw_children.ensures.draws (draws-turn operation (Parent n) (Child (n + 1) 0) mid next c.put_parent.ensures.turn)),
    )

pub draw_children-requires-2-clause-under_way : goal.draw_children-requires-2-clause-under_way
draw_children-requires-2-clause-under_way c =
    let view = view_of c.args.pass.now in
    let last : c.loop-node.node ≡ c.len-last.result - 1 = omega arith in
    subst (λ (n : ℕ). IsUnderWay IsDrawing (at_stage c.args.self.now (Child n 0)) (view_of c.loop-node.pass)) last
    (under-draws c.args.self.now (Child 0 0) (Child c.loop-node.node 0) view (view_of c.loop-node.pass) c.loop-node.invariant.1 (under-at c.args.self.now (Child 0 0) view c.requires.first c.requires.under_way))

pub put_last_parent-requires-clause-under_way : goal.put_last_parent-requires-clause-under_way
put_last_parent-requires-clause-under_way c =
    let operation = c.args.self.now in
    let begun = view_of c.args.pass.now in
    let view = view_of c.loop-node.pass in
    let last : ℕ = c.len-last.result - 1 in
    let all : c.loop-node.node ≡ last = omega arith in
    let here =
    subst (λ (n : ℕ). IsUnderWay IsDrawing (at_stage operation (Child n 0)) view) all
    (under-draws operation (Child 0 0) (Child c.loop-node.node 0) begun view c.loop-node.invariant.1 (under-at operation (Child 0 0) begun c.requires.first c.requires.under_way)) in
    under-draws operation (Child last 0) (Parent last) view (view_of c.draw_children-2.new.pass) c.draw_children-2.ensures.draws here

pub put_last_parent-requires-clause-last : goal.put_last_parent-requires-clause-last
put_last_parent-requires-clause-last c =
    let some : 0 < node_count c.args.self.now.planner = (under-at c.args.self.now (Child 0 0) (view_of c.args.pass.now) c.requires.first c.requires.under_way).goes.1.0.0 in
    let count = c.len-last.ensures in
    omega arith

pub returns-clause-answers : goal.returns-clause-answers
returns-clause-answers c = λ first start goes.
    let operation = c.args.self.now in
    let begun = view_of c.args.pass.now in
    let view = view_of c.loop-node.pass in
    let last : c.loop-node.node ≡ c.len-last.result - 1 = omega arith in
    let so = subst (λ (n : ℕ). Draws operation (Child 0 0) begun (Child n 0) view) last c.loop-node.invariant.1 in
    c.put_last_parent.ensures.turn.answered first start (c.draw_children-2.ensures.draws first start (so first start (goes-at operation (Child 0 0) first start begun c.requires.first goes)))
