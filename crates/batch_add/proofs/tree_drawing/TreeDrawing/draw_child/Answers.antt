use Rattle.pass_table.specs.Passes.{view_of}
use Rattle.batch_add.specs.declared.draw_stage.DrawStage.TheVariants.{Child, Side, Placing}
use Rattle.batch_add.specs.stages.DrawStages.{next_child}
use Rattle.batch_add.proofs.WholeTree.{draws-turn, draws-then, under-draws, child-nothing, child-body, child-node, sides-body, sides-node}
use Rattle.batch_add.proofs.tree_drawing.TreeDrawing.draw_child.Goals as goal

pub returns-in-Nothing-clause-draws : goal.returns-in-Nothing-clause-draws
returns-in-Nothing-clause-draws c =
    child-nothing c.args.self.now c.args.node c.args.number c.child-child.result (view_of c.args.pass.now) (view_of c.put_child.new.pass) c.put_child.ensures.turn c.in-Nothing.is

pub draw_sides-requires-clause-under_way : goal.draw_sides-requires-clause-under_way
draw_sides-requires-clause-under_way c =
    let view = view_of c.args.pass.now in
    let mid = view_of c.put_child.new.pass in
    let n = c.args.node in
    let k = c.args.number in
    under-draws c.args.self.now (Child n k) (Side n k 0) view mid (child-body c.args.self.now n k c.child-child.result view mid c.put_child.ensures.turn c.in-Body.index c.in-Body.is) c.requires.under_way

pub put_place-requires-clause-under_way : goal.put_place-requires-clause-under_way
put_place-requires-clause-under_way c =
    let view = view_of c.args.pass.now in
    let mid = view_of c.put_child.new.pass in
    let later = view_of c.draw_sides.new.pass in
    let n = c.args.node in
    let k = c.args.number in
    under-draws c.args.self.now (Child n k) (Placing n k c.in-Body.index) view later
    (sides-body c.args.self.now n k c.child-child.result view mid c.put_child.ensures.turn later _ c.child-child.ensures c.draw_sides.ensures.draws c.in-Body.index c.in-Body.is) c.requires.under_way

pub returns-in-Body-clause-draws : goal.returns-in-Body-clause-draws
returns-in-Body-clause-draws c =
    let view = view_of c.args.pass.now in
    let mid = view_of c.put_child.new.pass in
    let later = view_of c.draw_sides.new.pass in
    let next = view_of c.put_place.new.pass in
    let n = c.args.node in
    let k = c.args.number in
    draws-then c.args.self.now (Child n k) (Placing n k c.in-Body.index) (next_child n k) view later next
    (sides-body c.args.self.now n k c.child-child.result view mid c.put_child.ensures.turn later _ c.child-child.ensures c.draw_sides.ensures.draws c.in-Body.index c.in-Body.is)
    (draws-turn c.args.self.now (Placing n k c.in-Body.index) (next_child n k) later next c.put_place.ensures.turn)

pub draw_sides-requires-in-Node-clause-under_way : goal.draw_sides-requires-in-Node-clause-under_way
draw_sides-requires-in-Node-clause-under_way c =
    let view = view_of c.args.pass.now in
    let mid = view_of c.put_child.new.pass in
    let n = c.args.node in
    let k = c.args.number in
    under-draws c.args.self.now (Child n k) (Side n k 0) view mid (child-node c.args.self.now n k c.child-child.result view mid c.put_child.ensures.turn c.in-Node.field-0 c.in-Node.is) c.requires.under_way

pub returns-in-Node-clause-draws : goal.returns-in-Node-clause-draws
returns-in-Node-clause-draws c =
    let view = view_of c.args.pass.now in
    let mid = view_of c.put_child.new.pass in
    let later = view_of c.draw_sides-in-Node.new.pass in
    let n = c.args.node in
    let k = c.args.number in
    sides-node c.args.self.now n k c.child-child.result view mid c.put_child.ensures.turn later _ c.child-child.ensures c.draw_sides-in-Node.ensures.draws c.in-Node.field-0 c.in-Node.is
