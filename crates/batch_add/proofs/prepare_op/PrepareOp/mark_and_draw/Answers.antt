use Rattle.std.proofs.Common.{subst}
use Rattle.pass_table.specs.Passes.{view_of}
use Rattle.batch_add.specs.stages.Marking.{HasMadeMarks}
use Rattle.batch_add.proofs.PrepareMarks.{marks-begun, all-rest, all-plans, all-to_draw, undoing-begun, undone-refused, tree_begun}
use Rattle.batch_add.proofs.prepare_op.PrepareOp.mark_and_draw.Goals as goal

pub mark_all-requires-clause-under_way : goal.mark_all-requires-clause-under_way
mark_all-requires-clause-under_way g c = marks-begun c.args.self.now c.args.self.now.marking (view_of c.args.pass.now) (view_of c.args.pass.now) c.requires.stage c.requires.under_way

-- all are marked
pub begin_tree-requires-clause-rest : goal.begin_tree-requires-clause-rest
begin_tree-requires-clause-rest g c =
    let next = view_of c.mark_all.new.pass in
    all-rest c.args.self.now c.mark_all.new.self (view_of c.args.pass.now) next c.requires.stage
    (λ first start goes. subst (HasMadeMarks first start c.mark_all.new.self next) c.in-Ok.is (c.mark_all.ensures.answers first start goes)) c.requires.under_way

pub begin_tree-requires-clause-plans : goal.begin_tree-requires-clause-plans
begin_tree-requires-clause-plans g c =
    let next = view_of c.mark_all.new.pass in
    all-plans c.args.self.now c.mark_all.new.self (view_of c.args.pass.now) next c.requires.stage
    (λ first start goes. subst (HasMadeMarks first start c.mark_all.new.self next) c.in-Ok.is (c.mark_all.ensures.answers first start goes)) c.requires.under_way

pub begin_tree-requires-clause-batch : goal.begin_tree-requires-clause-batch
begin_tree-requires-clause-batch g c =
    let next = view_of c.mark_all.new.pass in
    all-to_draw c.args.self.now c.mark_all.new.self (view_of c.args.pass.now) next c.requires.stage
    (λ first start goes. subst (HasMadeMarks first start c.mark_all.new.self next) c.in-Ok.is (c.mark_all.ensures.answers first start goes)) c.requires.under_way

pub draw_all-requires-clause-under_way : goal.draw_all-requires-clause-under_way
draw_all-requires-clause-under_way g c =
    let next = view_of c.mark_all.new.pass in
    let under = c.requires.under_way in
    record {
      first = under.first;
      start = under.start;
      goes =
          tree_begun c.args.self.now c.mark_all.new.self c.begin_tree.new.self (view_of c.args.pass.now) next c.requires.stage
          (λ first start goes. subst (HasMadeMarks first start c.mark_all.new.self next) c.in-Ok.is (c.mark_all.ensures.answers first start goes)) c.begin_tree.ensures.begins under.first under.start under.goes;
    }

pub draw_all-requires-clause-to_draw : goal.draw_all-requires-clause-to_draw
draw_all-requires-clause-to_draw g c =
    let begins = c.begin_tree.ensures.begins in
    record { stage = begins.stage; drawing = begins.drawing; is = begins.is; first = begins.first }

pub returns-in-Ok-clause-answers : goal.returns-in-Ok-clause-answers
returns-in-Ok-clause-answers g c = λ first start preparing.
    let next = view_of c.mark_all.new.pass in
    c.draw_all.ensures.answers first start
    (tree_begun c.args.self.now c.mark_all.new.self c.begin_tree.new.self (view_of c.args.pass.now) next c.requires.stage
    (λ first start goes. subst (HasMadeMarks first start c.mark_all.new.self next) c.in-Ok.is (c.mark_all.ensures.answers first start goes)) c.begin_tree.ensures.begins first start preparing)

-- one is refused
pub undo-requires-clause-begun : goal.undo-requires-clause-begun
undo-requires-clause-begun g c =
    let next = view_of c.mark_all.new.pass in
    undoing-begun c.args.self.now c.mark_all.new.self (view_of c.args.pass.now) next c.in-Err.refused c.requires.stage
    (λ first start goes. subst (HasMadeMarks first start c.mark_all.new.self next) c.in-Err.is (c.mark_all.ensures.answers first start goes)) c.requires.under_way

pub returns-in-Err-clause-answers : goal.returns-in-Err-clause-answers
returns-in-Err-clause-answers g c = λ first start preparing.
    let next = view_of c.mark_all.new.pass in
    undone-refused c.args.self.now c.mark_all.new.self (view_of c.args.pass.now) next c.in-Err.refused c.requires.stage
    (λ first start goes. subst (HasMadeMarks first start c.mark_all.new.self next) c.in-Err.is (c.mark_all.ensures.answers first start goes)) (view_of c.undo.new.pass) c.undo.ensures.given_up c.undo.result
    c.undo.ensures.refusal first start preparing
