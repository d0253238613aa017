use Rattle.tree_plan.specs.Plan.{child_at}
use Rattle.pass_table.specs.Passes.{view_of, IsOf}
use Rattle.batch_add.specs.declared.draw_stage.DrawStage.TheVariants.{Side}
use Rattle.batch_add.specs.stages.DrawStages.{sides_done, Draws}
use Rattle.batch_add.proofs.tree_drawing.TreeDrawing.draw_sides.Given as goal

abbrev pub invariant-loop-number : goal.invariant-loop-number
invariant-loop-number l =
    IsOf l.world l.pass × Draws l.self (Side l.node l.child 0) (view_of l.initial.pass) (sides_done l.node l.child l.number (child_at l.self.planner l.node l.child)) (view_of l.pass)
