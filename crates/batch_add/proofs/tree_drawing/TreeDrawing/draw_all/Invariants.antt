use Rattle.pass_table.specs.Passes.{view_of, IsOf}
use Rattle.batch_add.specs.declared.draw_stage.DrawStage.TheVariants.{Child}
use Rattle.batch_add.specs.stages.DrawStages.{Draws}
use Rattle.batch_add.proofs.tree_drawing.TreeDrawing.draw_all.Given as goal

abbrev pub invariant-loop-node : goal.invariant-loop-node
invariant-loop-node l = IsOf l.world l.pass × Draws l.self (Child 0 0) (view_of l.initial.pass) (Child l.node 0) (view_of l.pass)
