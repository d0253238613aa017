use Rattle.batch_add.specs.stages.Preparing.{stage_label}
use Rattle.batch_add.proofs.PrepareLabel.{label-still}
use Rattle.pass_table.specs.declared.turn.Turn.TheVariants.{Done, More, Again}
use Rattle.std.proofs.Common.{refl, ap, Ok, inr, arith}
use Rattle.std.proofs.lemmas.Option.{same_Some}
use Rattle.pass_table.specs.Passes.{view_of}
use Rattle.batch_add.specs.declared.tree_drawing.TreeDrawing.{TreeDrawing}
use Rattle.batch_add.proofs.PrepareDraws.{draws-begun, draws-more, draws-again, draws-done}
use Rattle.batch_add.proofs.prepare_op.PrepareOp.draw_tree.Goals as goal

pub turn-requires-clause-under_way : goal.turn-requires-clause-under_way
turn-requires-clause-under_way c =
    let view = view_of c.args.pass.now in
    draws-begun c.args.self.now c.in-Some.drawing c.in-Some.drawing view view c.requires.stage c.in-Some.is c.requires.under_way

pub returns-in-Some-replace-clause-turn : goal.returns-in-Some-replace-clause-turn
returns-in-Some-replace-clause-turn c =
    let before = c.args.self.now in
    let drawn = c.in-Some-replace.drawn in
    draws-done before c.in-Some.drawing c.turn.new.self (view_of c.args.pass.now) (view_of c.turn.new.pass) c.requires.stage c.in-Some.is c.in-Done.ensures.answers
    (record { number = c.number.result; layer = before.layer; slot = before.slot; indexes = c.replace-indexes.result; nodes = drawn.nodes }) c.number.ensures refl refl
    (ap (λ v. v.items) c.replace-indexes.ensures.value) (ap (λ (d : TreeDrawing). d.nodes.items) (same_Some drawn c.turn.new.self c.in-Some-replace.ensures.value)) _ c.requires.stage c.turn.ensures.step c.turn.ensures.made

pub returns-in-More-clause-turn : goal.returns-in-More-clause-turn
returns-in-More-clause-turn c =
    draws-more c.args.self.now c.in-Some.drawing c.turn.new.self (view_of c.args.pass.now) (view_of c.turn.new.pass) c.requires.stage c.in-Some.is c.turn.ensures.step
    c.turn.ensures.made c.in-More.ensures.keeps c.in-More.ensures.turned

pub returns-in-Again-clause-turn : goal.returns-in-Again-clause-turn
returns-in-Again-clause-turn c =
    draws-again c.args.self.now c.in-Some.drawing c.turn.new.self (view_of c.args.pass.now) (view_of c.turn.new.pass) c.requires.stage c.in-Some.is c.turn.ensures.step
    c.turn.ensures.made c.in-Again.ensures.keeps c.in-Again.lock c.in-Again.word c.in-Again.ensures.turned

pub returns-in-Some-replace-clause-label : goal.returns-in-Some-replace-clause-label
returns-in-Some-replace-clause-label c =
    label-still (Done (Ok _)) c.args.self.now _ (view_of c.args.pass.now) (view_of c.turn.new.pass) (inr (omega arith)) (ap stage_label c.requires.stage) (ap stage_label c.requires.stage)

pub returns-in-More-clause-label : goal.returns-in-More-clause-label
returns-in-More-clause-label c = label-still More c.args.self.now _ (view_of c.args.pass.now) (view_of c.turn.new.pass) tt (ap stage_label c.requires.stage) (ap stage_label c.requires.stage)

pub returns-in-Again-clause-label : goal.returns-in-Again-clause-label
returns-in-Again-clause-label c =
    label-still (Again c.in-Again.lock c.in-Again.word) c.args.self.now _ (view_of c.args.pass.now) (view_of c.turn.new.pass) tt (ap stage_label c.requires.stage) (ap stage_label c.requires.stage)
