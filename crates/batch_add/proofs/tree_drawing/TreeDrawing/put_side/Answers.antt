use Rattle.std.proofs.Common.{Some, refl, ap}
use Rattle.word_map.specs.declared.name.Name.TheVariants.{Bound as BoundWord}
use Rattle.tree_plan.specs.Plan.{child_at}
use Rattle.pass_table.specs.Passes.{view_of}
use Rattle.pass_table.specs.declared.turn.Turn.TheVariants.{More}
use Rattle.batch_add.specs.declared.draw_stage.DrawStage.TheVariants.{Side}
use Rattle.batch_add.specs.stages.DrawStages.{at_stage, planned_of, after_side, reached}
use Rattle.batch_add.proofs.DrawTurns.{may-store, side-turn}
use Rattle.batch_add.proofs.tree_drawing.TreeDrawing.put_side.Goals as goal

pub step_21-requires-clause-asks : goal.step_21-requires-clause-asks
step_21-requires-clause-asks c =
    let at = c.requires.under_way.goes.1 in
    may-store (planned_of c.args.self.now) c.requires.under_way.start (view_of c.args.pass.now) (reached (Side c.args.node c.args.child c.args.number)) (BoundWord c.node-at.result c.args.child c.args.number) c.args.word c.args.node at.1 at.0.0
    (ap Some c.node-at.ensures)

pub returns-clause-turn : goal.returns-clause-turn
returns-clause-turn c =
    let operation = c.args.self.now in
    let at = c.requires.under_way.goes.1 in
    let after = after_side c.args.node c.args.child c.args.number (child_at operation.planner c.args.node c.args.child) in
    side-turn More (at_stage operation (Side c.args.node c.args.child c.args.number)) (at_stage operation after) (view_of c.args.pass.now) (view_of c.step_21.new.pass) c.args.pass.now.number c.args.pass.now.numbered after refl refl
    c.args.node c.args.child c.args.number c.node-at.result c.args.word c.node-at.ensures c.requires.word refl refl at.0.1 at.0.2 c.step_21.ensures.step
