use Rattle.std.proofs.Common.{refl, ap, sym, ◌∙◌}
use Rattle.std.proofs.lemmas.Option.{same_Some}
use Rattle.pass_table.specs.Passes.{view_of}
use Rattle.batch_add.specs.declared.tree_drawing.TreeDrawing.{TreeDrawing}
use Rattle.batch_add.proofs.PrepareDraws.{draws-begun, draws-answers}
use Rattle.batch_add.proofs.prepare_op.PrepareOp.draw_all.Goals as goal

pub draw_all-requires-clause-under_way : goal.draw_all-requires-clause-under_way
draw_all-requires-clause-under_way c =
    let view = view_of c.args.pass.now in
    draws-begun c.args.self.now c.in-Some.drawing c.in-Some.drawing view view c.requires.to_draw.stage (sym c.replace.ensures.value ∙ c.in-Some.is) c.requires.under_way

pub draw_all-requires-clause-first : goal.draw_all-requires-clause-first
draw_all-requires-clause-first c =
    let to = c.requires.to_draw in
    ap (λ (d : TreeDrawing). d.stage) (same_Some c.in-Some.drawing to.drawing (sym (sym c.replace.ensures.value ∙ c.in-Some.is) ∙ to.is)) ∙ to.first

pub returns-clause-answers : goal.returns-clause-answers
returns-clause-answers c = λ first start preparing.
    let before = c.args.self.now in
    let drawing = c.in-Some.drawing in
    draws-answers before drawing drawing (view_of c.args.pass.now) (view_of c.draw_all.new.pass) c.requires.to_draw.stage (sym c.replace.ensures.value ∙ c.in-Some.is) c.draw_all.ensures.answers
    (record { number = c.number.result; layer = before.layer; slot = before.slot; indexes = c.replace-indexes.result; nodes = drawing.nodes }) c.number.ensures refl refl
    (ap (λ v. v.items) c.replace-indexes.ensures.value) refl first start preparing
