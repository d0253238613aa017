use Rattle.std.proofs.Common.{◌+◌, Some, refl, ap}
use Rattle.word_map.specs.declared.name.Name.TheVariants.{Parent as ParentWord}
use Rattle.pass_table.specs.Passes.{view_of}
use Rattle.pass_table.specs.declared.turn.Turn.TheVariants.{More}
use Rattle.batch_add.specs.declared.draw_stage.DrawStage.TheVariants.{Child, Parent}
use Rattle.batch_add.specs.stages.DrawStages.{at_stage, planned_of, reached}
use Rattle.batch_add.proofs.DrawTurns.{may-store, parent-turn}
use Rattle.batch_add.proofs.tree_drawing.TreeDrawing.put_parent.Goals as goal

pub step_22-requires-clause-asks : goal.step_22-requires-clause-asks
step_22-requires-clause-asks c =
    let at = c.requires.under_way.goes.1 in
    may-store (planned_of c.args.self.now) c.requires.under_way.start (view_of c.args.pass.now) (reached (Parent c.args.node)) (ParentWord c.node-at.result) c.parent_word-word.result c.args.node at.1 at.0 (ap Some c.node-at.ensures)

pub returns-clause-turn : goal.returns-clause-turn
returns-clause-turn c =
    let operation = c.args.self.now in
    parent-turn More (at_stage operation (Parent c.args.node)) (at_stage operation (Child (c.args.node + 1) 0)) (view_of c.args.pass.now) (view_of c.step_22.new.pass) c.args.pass.now.number c.args.pass.now.numbered (Child (c.args.node + 1) 0) refl refl
    c.args.node c.node-at.result c.parent_word-word.result c.node-at.ensures c.parent_word-word.ensures refl refl c.requires.more c.step_22.ensures.step
