use Rattle.std.proofs.Common.{Some, refl, sym, ap, ◌∙◌, arith}
use Rattle.word_map.specs.declared.name.Name.TheVariants.{Child as ChildWord}
use Rattle.pass_table.specs.Passes.{view_of}
use Rattle.pass_table.specs.declared.turn.Turn.TheVariants.{More}
use Rattle.batch_add.specs.declared.draw_stage.DrawStage.TheVariants.{Child}
use Rattle.batch_add.specs.Drawing.{child_word}
use Rattle.batch_add.specs.stages.DrawStages.{at_stage, planned_of, after_child, reached}
use Rattle.batch_add.proofs.Levels.{child-node}
use Rattle.batch_add.proofs.DrawTurns.{may-store, child-turn}
use Rattle.batch_add.proofs.tree_drawing.TreeDrawing.put_child.Goals as goal

pub child_word-word-requires : goal.child_word-word-requires
child_word-word-requires c = record {
  below = λ m e.
      let at = c.requires.under_way.goes.1 in
      let begun = at.1.begun_so in
      let below = (child-node begun.planned.parents c.args.node c.args.number m at.0.0 at.0.1 (sym c.requires.child ∙ e)).2 in
      omega (arith, begun.many);
}

pub step_20-requires-clause-asks : goal.step_20-requires-clause-asks
step_20-requires-clause-asks c =
    let at = c.requires.under_way.goes.1 in
    may-store (planned_of c.args.self.now) c.requires.under_way.start (view_of c.args.pass.now) (reached (Child c.args.node c.args.number)) (ChildWord c.node-at.result c.args.number) c.child_word-word.result c.args.node at.1 at.0.0
    (ap Some c.node-at.ensures)

pub returns-clause-turn : goal.returns-clause-turn
returns-clause-turn c =
    let operation = c.args.self.now in
    let at = c.requires.under_way.goes.1 in
    child-turn More (at_stage operation (Child c.args.node c.args.number)) (at_stage operation (after_child c.args.node c.args.number c.args.child)) (view_of c.args.pass.now) (view_of c.step_20.new.pass) c.args.pass.now.number c.args.pass.now.numbered
    (after_child c.args.node c.args.number c.args.child) refl refl c.args.node c.args.number c.node-at.result c.child_word-word.result c.node-at.ensures (c.child_word-word.ensures ∙ ap (child_word operation.nodes.items) c.requires.child)
    (ap (after_child c.args.node c.args.number) c.requires.child) refl at.0.1 c.step_20.ensures.step
