use Rattle.std.proofs.Common.{ap, ◌∙◌}
use Rattle.pass_table.specs.Passes.{view_of}
use Rattle.batch_add.specs.declared.draw_stage.DrawStage.TheVariants.{Child}
use Rattle.batch_add.specs.stages.DrawStages.{at_stage, after_child}
use Rattle.batch_add.proofs.WholeTree.{under-at, turn-at}
use Rattle.batch_add.proofs.tree_drawing.TreeDrawing.store_child.Goals as goal

pub put_child-requires-clause-under_way : goal.put_child-requires-clause-under_way
put_child-requires-clause-under_way c = under-at c.args.self.now (Child c.args.node c.args.child) (view_of c.args.pass.now) c.requires.stage c.requires.under_way

pub returns-clause-turn : goal.returns-clause-turn
returns-clause-turn c =
    turn-at c.go_on.result c.args.self.now c.go_on.new.self (Child c.args.node c.args.child) (after_child c.args.node c.args.child c.child-here.result) (view_of c.args.pass.now) (view_of c.put_child.new.pass) c.go_on.ensures.more
    (c.go_on.ensures.stage ∙ ap (at_stage c.args.self.now) c.after_child.ensures) c.requires.stage c.put_child.ensures.turn
