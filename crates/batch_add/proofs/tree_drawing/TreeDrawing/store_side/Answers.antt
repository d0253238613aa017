use Rattle.std.proofs.Common.{ap, ◌∙◌}
use Rattle.tree_plan.specs.Plan.{child_at}
use Rattle.pass_table.specs.Passes.{view_of}
use Rattle.batch_add.specs.declared.draw_stage.DrawStage.TheVariants.{Side}
use Rattle.batch_add.specs.stages.DrawStages.{at_stage, after_side}
use Rattle.batch_add.proofs.WholeTree.{under-at, turn-at}
use Rattle.batch_add.proofs.tree_drawing.TreeDrawing.store_side.Goals as goal

pub put_side-requires-clause-under_way : goal.put_side-requires-clause-under_way
put_side-requires-clause-under_way c = under-at c.args.self.now (Side c.args.node c.args.child c.args.side) (view_of c.args.pass.now) c.requires.stage c.requires.under_way

pub returns-clause-turn : goal.returns-clause-turn
returns-clause-turn c =
    let operation = c.args.self.now in
    turn-at c.go_on.result operation c.go_on.new.self (Side c.args.node c.args.child c.args.side) (after_side c.args.node c.args.child c.args.side (child_at operation.planner c.args.node c.args.child)) (view_of c.args.pass.now)
    (view_of c.put_side.new.pass) c.go_on.ensures.more (c.go_on.ensures.stage ∙ ap (at_stage operation) c.after_side-next.ensures) c.requires.stage c.put_side.ensures.turn
