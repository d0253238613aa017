use Rattle.pass_table.specs.Passes.{view_of}
use Rattle.batch_add.specs.declared.draw_stage.DrawStage.TheVariants.{Child, Parent}
use Rattle.batch_add.proofs.WholeTree.{draws-then, under-draws}
use Rattle.batch_add.proofs.tree_drawing.TreeDrawing.draw_children.Goals as goal

pub draw_child-requires-2-clause-under_way : goal.draw_child-requires-2-clause-under_way
draw_child-requires-2-clause-under_way c =
    under-draws c.args.self.now (Child c.args.node 0) (Child c.args.node 1) (view_of c.args.pass.now) (view_of c.draw_child.new.pass) c.draw_child.ensures.draws c.requires.under_way

pub draw_child-requires-3-clause-under_way : goal.draw_child-requires-3-clause-under_way
draw_child-requires-3-clause-under_way c =
    under-draws c.args.self.now (Child c.args.node 1) (Child c.args.node 2) (view_of c.draw_child.new.pass) (view_of c.draw_child-2.new.pass) c.draw_child-2.ensures.draws
    (under-draws c.args.self.now (Child c.args.node 0) (Child c.args.node 1) (view_of c.args.pass.now) (view_of c.draw_child.new.pass) c.draw_child.ensures.draws c.requires.under_way)

pub draw_child-requires-4-clause-under_way : goal.draw_child-requires-4-clause-under_way
draw_child-requires-4-clause-under_way c =
    let operation = c.args.self.now in
    let n = c.args.node in
    let begun = view_of c.args.pass.now in
    let one = view_of c.draw_child.new.pass in
    let two = view_of c.draw_child-2.new.pass in
    under-draws operation (Child n 2) (Child n 3) two (view_of c.draw_child-3.new.pass) c.draw_child-3.ensures.draws
    (under-draws operation (Child n 1) (Child n 2) one two c.draw_child-2.ensures.draws (under-draws operation (Child n 0) (Child n 1) begun one c.draw_child.ensures.draws c.requires.under_way))

pub returns-clause-draws : goal.returns-clause-draws
returns-clause-draws c =
    let operation = c.args.self.now in
    let n = c.args.node in
    let begun = view_of c.args.pass.now in
    let one = view_of c.draw_child.new.pass in
    let two = view_of c.draw_child-2.new.pass in
    let three = view_of c.draw_child-3.new.pass in
    let four = view_of c.draw_child-4.new.pass in
    draws-then operation (Child n 0) (Child n 1) (Parent n) begun one four c.draw_child.ensures.draws
    (draws-then operation (Child n 1) (Child n 2) (Parent n) one two four c.draw_child-2.ensures.draws
    (draws-then operation (Child n 2) (Child n 3) (Parent n) two three four c.draw_child-3.ensures.draws c.draw_child-4.ensures.draws))
