use Rattle.std.proofs.Common.{ap, ◌∙◌}
use Rattle.pass_table.specs.Passes.{view_of}
use Rattle.batch_add.specs.declared.draw_stage.DrawStage.TheVariants.{Placing}
use Rattle.batch_add.specs.stages.DrawStages.{at_stage, next_child}
use Rattle.batch_add.proofs.WholeTree.{under-at, turn-at}
use Rattle.batch_add.proofs.tree_drawing.TreeDrawing.place_body.Goals as goal

pub put_place-requires-clause-under_way : goal.put_place-requires-clause-under_way
put_place-requires-clause-under_way c = under-at c.args.self.now (Placing c.args.node c.args.child c.args.index) (view_of c.args.pass.now) c.requires.stage c.requires.under_way

pub returns-clause-turn : goal.returns-clause-turn
returns-clause-turn c =
    turn-at c.go_on.result c.args.self.now c.go_on.new.self (Placing c.args.node c.args.child c.args.index) (next_child c.args.node c.args.child) (view_of c.args.pass.now) (view_of c.put_place.new.pass) c.go_on.ensures.more
    (c.go_on.ensures.stage ∙ ap (at_stage c.args.self.now) c.next_child.ensures) c.requires.stage c.put_place.ensures.turn
