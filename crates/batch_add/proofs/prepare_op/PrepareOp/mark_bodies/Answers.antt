use Rattle.batch_add.proofs.PrepareLabel.{label-none, label-reached}
use Rattle.std.proofs.Common.{ap, sym, subst}
use Rattle.core_state.specs.declared.view.View.{View}
use Rattle.pass_table.specs.Passes.{view_of}
use Rattle.pass_table.specs.declared.turn.Turn.TheVariants.{More, Again}
use Rattle.batch_add.specs.stages.Marking.{HasMadeMarks}
use Rattle.batch_add.specs.stages.Preparing.{IsPrepareTurn, stage_label}
use Rattle.batch_add.proofs.PrepareMarks.{marks-begun, marks-more, marks-again, all-rest, all-plans, all-to_draw, marks-done, undoing-begun, marks-refused}
use Rattle.batch_add.proofs.prepare_op.PrepareOp.mark_bodies.Goals as goal

pub turn-requires-clause-under_way : goal.turn-requires-clause-under_way
turn-requires-clause-under_way c = marks-begun c.args.self.now c.args.self.now.marking (view_of c.args.pass.now) (view_of c.args.pass.now) c.requires.stage c.requires.under_way

-- all are marked
pub begin_tree-requires-clause-rest : goal.begin_tree-requires-clause-rest
begin_tree-requires-clause-rest c =
    let next = view_of c.turn.new.pass in
    all-rest c.args.self.now c.turn.new.self (view_of c.args.pass.now) next c.requires.stage
    (λ first start goes. subst (HasMadeMarks first start c.turn.new.self next) c.in-Done-Ok.field-0-is (c.in-Done-Ok.ensures.answers first start goes)) c.requires.under_way

pub begin_tree-requires-clause-plans : goal.begin_tree-requires-clause-plans
begin_tree-requires-clause-plans c =
    let next = view_of c.turn.new.pass in
    all-plans c.args.self.now c.turn.new.self (view_of c.args.pass.now) next c.requires.stage
    (λ first start goes. subst (HasMadeMarks first start c.turn.new.self next) c.in-Done-Ok.field-0-is (c.in-Done-Ok.ensures.answers first start goes)) c.requires.under_way

pub begin_tree-requires-clause-batch : goal.begin_tree-requires-clause-batch
begin_tree-requires-clause-batch c =
    let next = view_of c.turn.new.pass in
    all-to_draw c.args.self.now c.turn.new.self (view_of c.args.pass.now) next c.requires.stage
    (λ first start goes. subst (HasMadeMarks first start c.turn.new.self next) c.in-Done-Ok.field-0-is (c.in-Done-Ok.ensures.answers first start goes)) c.requires.under_way

pub begin_undoing-requires-clause-begun : goal.begin_undoing-requires-clause-begun
begin_undoing-requires-clause-begun c =
    let next = view_of c.turn.new.pass in
    undoing-begun c.args.self.now c.turn.new.self (view_of c.args.pass.now) next c.in-Done-Err.refused c.requires.stage
    (λ first start goes. subst (HasMadeMarks first start c.turn.new.self next) c.in-Done-Err.field-0-is (c.in-Done-Err.ensures.answers first start goes)) c.requires.under_way

pub returns-in-Done-Ok-clause-turn : goal.returns-in-Done-Ok-clause-turn
returns-in-Done-Ok-clause-turn c =
    let next = view_of c.turn.new.pass in
    marks-done c.args.self.now c.turn.new.self c.begin_tree.new.self (view_of c.args.pass.now) next c.requires.stage
    (λ first start goes. subst (HasMadeMarks first start c.turn.new.self next) c.in-Done-Ok.field-0-is (c.in-Done-Ok.ensures.answers first start goes)) c.begin_tree.ensures.begins c.requires.under_way
    c.turn.ensures.step c.turn.ensures.made

-- one is refused
pub returns-in-Done-Err-clause-turn : goal.returns-in-Done-Err-clause-turn
returns-in-Done-Err-clause-turn c =
    let view = view_of c.args.pass.now in
    let next = view_of c.turn.new.pass in
    subst (λ (v : View). IsPrepareTurn More c.args.self.now c.begin_undoing.new.self view v) (sym (ap view_of c.begin_undoing.ensures.pass))
    (marks-refused c.args.self.now c.turn.new.self view next c.in-Done-Err.refused c.requires.stage
    (λ first start goes. subst (HasMadeMarks first start c.turn.new.self next) c.in-Done-Err.field-0-is (c.in-Done-Err.ensures.answers first start goes)) c.begin_undoing.new.self
    c.begin_undoing.ensures.begins c.requires.under_way c.turn.ensures.step c.turn.ensures.made)

-- it goes on
pub returns-in-More-clause-turn : goal.returns-in-More-clause-turn
returns-in-More-clause-turn c =
    marks-more c.args.self.now c.turn.new.self (view_of c.args.pass.now) (view_of c.turn.new.pass) c.requires.stage c.in-More.ensures.keeps c.requires.under_way c.turn.ensures.step c.turn.ensures.made
    c.in-More.ensures.turned c.in-More.ensures.loads

pub returns-in-Again-clause-turn : goal.returns-in-Again-clause-turn
returns-in-Again-clause-turn c =
    marks-again c.args.self.now c.turn.new.self (view_of c.args.pass.now) (view_of c.turn.new.pass) c.requires.stage c.in-Again.ensures.keeps c.requires.under_way c.turn.ensures.step c.turn.ensures.made
    c.in-Again.lock c.in-Again.word c.in-Again.ensures.turned c.in-Again.ensures.loads

pub returns-in-Done-Ok-clause-label : goal.returns-in-Done-Ok-clause-label
returns-in-Done-Ok-clause-label c =
    let next = view_of c.turn.new.pass in
    label-reached c.args.self.now c.turn.new.self c.begin_tree.new.self (view_of c.args.pass.now) next c.requires.stage
    (λ first start goes. subst (HasMadeMarks first start c.turn.new.self next) c.in-Done-Ok.field-0-is (c.in-Done-Ok.ensures.answers first start goes)) c.begin_tree.ensures.begins

pub returns-in-Done-Err-clause-label : goal.returns-in-Done-Err-clause-label
returns-in-Done-Err-clause-label c =
    label-none More c.args.self.now c.begin_undoing.new.self (view_of c.args.pass.now) (view_of c.begin_undoing.new.pass) tt (ap stage_label c.begin_undoing.ensures.begins.stage)

pub returns-in-More-clause-label : goal.returns-in-More-clause-label
returns-in-More-clause-label c = label-none More c.args.self.now (record c.args.self.now { marking = c.turn.new.self }) (view_of c.args.pass.now) (view_of c.turn.new.pass) tt (ap stage_label c.requires.stage)

pub returns-in-Again-clause-label : goal.returns-in-Again-clause-label
returns-in-Again-clause-label c =
    label-none (Again c.in-Again.lock c.in-Again.word) c.args.self.now (record c.args.self.now { marking = c.turn.new.self }) (view_of c.args.pass.now) (view_of c.turn.new.pass) tt (ap stage_label c.requires.stage)
