use Rattle.std.proofs.Common.{◌<◌, ◌+◌, arith}
use Rattle.tree_plan.specs.Plan.{node_count}
use Rattle.pass_table.specs.Passes.{view_of}
use Rattle.batch_add.specs.declared.draw_stage.DrawStage.TheVariants.{Child, Parent}
use Rattle.batch_add.proofs.WholeTree.{under-at, turn-at}
use Rattle.batch_add.proofs.tree_drawing.TreeDrawing.store_parent.Goals as goal

pub put_last_parent-requires-clause-under_way : goal.put_last_parent-requires-clause-under_way
put_last_parent-requires-clause-under_way c = under-at c.args.self.now (Parent c.args.node) (view_of c.args.pass.now) c.requires.stage c.requires.under_way

pub put_parent-requires-clause-under_way : goal.put_parent-requires-clause-under_way
put_parent-requires-clause-under_way c = under-at c.args.self.now (Parent c.args.node) (view_of c.args.pass.now) c.requires.stage c.requires.under_way

pub put_parent-requires-clause-more : goal.put_parent-requires-clause-more
put_parent-requires-clause-more c =
    let below : c.args.node < node_count c.args.self.now.planner = (under-at c.args.self.now (Parent c.args.node) (view_of c.args.pass.now) c.requires.stage c.requires.under_way).goes.1.0 in
    omega arith

pub overflow_add-node : goal.overflow_add-node
overflow_add-node c =
    let below : c.args.node < node_count c.args.self.now.planner = (under-at c.args.self.now (Parent c.args.node) (view_of c.args.pass.now) c.requires.stage c.requires.under_way).goes.1.0 in
    let count = c.len-count.ensures in
    omega arith

pub returns-clause-turn : goal.returns-clause-turn
returns-clause-turn c =
    turn-at c.go_on.result c.args.self.now c.go_on.new.self (Parent c.args.node) (Child (c.args.node + 1) 0) (view_of c.args.pass.now) (view_of c.put_parent.new.pass) c.go_on.ensures.more c.go_on.ensures.stage c.requires.stage
    c.put_parent.ensures.turn
