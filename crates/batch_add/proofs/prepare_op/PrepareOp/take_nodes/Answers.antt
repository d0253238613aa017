use Rattle.batch_add.proofs.PrepareLabel.{label-none}
use Rattle.std.proofs.Common.{◌<◌, All, Ok, ap, sym, subst}
use Rattle.word_map.specs.declared.config.Config.{Config}
use Rattle.core_state.specs.declared.view.View.{View}
use Rattle.pass_table.specs.declared.turn.Turn.TheVariants.{More, Again}
use Rattle.pass_table.specs.Passes.{view_of}
use Rattle.batch_add.specs.declared.prepare_op.PrepareOp.{PrepareOp}
use Rattle.batch_add.specs.stages.Preparing.{ids_of, IsPrepareTurn, label_of, stage_label}
use Rattle.batch_add.proofs.NodeParts.{nodes-inside, nodes-count, nodes-room, nodes-answers, nodes-rest, nodes-below, nodes-newest, nodes-end, few-begun, nodes-few, nodes-more, nodes-again}
use Rattle.batch_add.proofs.prepare_op.PrepareOp.take_nodes.Goals as goal

pub turn-requires-clause-under_way : goal.turn-requires-clause-under_way
turn-requires-clause-under_way c = nodes-inside c.args.self.now (view_of c.args.pass.now) c.requires.stage c.requires.under_way

pub begin_marks-requires-clause-some : goal.begin_marks-requires-clause-some
begin_marks-requires-clause-some c = nodes-count c.args.self.now (view_of c.args.pass.now) c.requires.stage c.requires.under_way

pub begin_marks-requires-clause-room : goal.begin_marks-requires-clause-room
begin_marks-requires-clause-room c = nodes-room c.args.self.now (view_of c.args.pass.now) c.requires.stage c.requires.under_way

pub begin_marks-requires-clause-below : goal.begin_marks-requires-clause-below
begin_marks-requires-clause-below c =
    let told = c.in-Done-Ok.ensures in
    subst (λ (s : Config). All (λ id. id.index < s.bodies) (ids_of c.args.self.now)) told.of.sizes
    (nodes-below c.args.self.now (view_of c.args.pass.now) c.requires.stage c.turn.new.self (view_of c.turn.new.pass) _
    (nodes-answers c.args.self.now (view_of c.args.pass.now) c.requires.stage c.turn.new.self (view_of c.turn.new.pass) _ (Ok tt) c.in-Done-Ok.field-0-is told.answers) c.requires.under_way)

pub begin_marks-requires-clause-rest : goal.begin_marks-requires-clause-rest
begin_marks-requires-clause-rest c =
    nodes-rest c.args.self.now (view_of c.args.pass.now) c.requires.stage c.turn.new.self (view_of c.turn.new.pass) _
    (nodes-answers c.args.self.now (view_of c.args.pass.now) c.requires.stage c.turn.new.self (view_of c.turn.new.pass) _ (Ok tt) c.in-Done-Ok.field-0-is c.in-Done-Ok.ensures.answers) c.requires.under_way

pub begin_marks-requires-clause-newest : goal.begin_marks-requires-clause-newest
begin_marks-requires-clause-newest c =
    nodes-newest c.args.self.now (view_of c.args.pass.now) c.requires.stage c.turn.new.self (view_of c.turn.new.pass) _
    (nodes-answers c.args.self.now (view_of c.args.pass.now) c.requires.stage c.turn.new.self (view_of c.turn.new.pass) _ (Ok tt) c.in-Done-Ok.field-0-is c.in-Done-Ok.ensures.answers) c.requires.under_way

pub begin_undoing-requires-clause-begun : goal.begin_undoing-requires-clause-begun
begin_undoing-requires-clause-begun c =
    few-begun c.args.self.now (view_of c.args.pass.now) c.requires.stage c.turn.new.self (view_of c.turn.new.pass) c.in-Done-Err.free
    (nodes-answers c.args.self.now (view_of c.args.pass.now) c.requires.stage c.turn.new.self (view_of c.turn.new.pass) _ _ c.in-Done-Err.field-0-is c.in-Done-Err.ensures.answers) c.requires.under_way

pub returns-in-Done-Ok-clause-turn : goal.returns-in-Done-Ok-clause-turn
returns-in-Done-Ok-clause-turn c =
    let op = c.args.self.now in
    let view = view_of c.args.pass.now in
    let next = view_of c.turn.new.pass in
    let begins = c.begin_marks.ensures.begins in
    let told = c.in-Done-Ok.ensures in
    subst (λ (v : View). IsPrepareTurn More op c.begin_marks.new.self view v) (sym (ap view_of c.begin_marks.ensures.pass))
    (subst (λ (o : PrepareOp). IsPrepareTurn More op o view next) (sym begins.is)
    (nodes-end op view c.requires.stage c.turn.new.self next _ (nodes-answers op view c.requires.stage c.turn.new.self next _ (Ok tt) c.in-Done-Ok.field-0-is told.answers) told.step told.made begins.marking begins.layer
    begins.slot begins.ids begins.made begins.left begins.goes begins.unloaded c.requires.under_way))

pub returns-in-Done-Err-clause-turn : goal.returns-in-Done-Err-clause-turn
returns-in-Done-Err-clause-turn c =
    let op = c.args.self.now in
    let view = view_of c.args.pass.now in
    let next = view_of c.turn.new.pass in
    let told = c.in-Done-Err.ensures in
    subst (λ (v : View). IsPrepareTurn More op c.begin_undoing.new.self view v) (sym (ap view_of c.begin_undoing.ensures.pass))
    (nodes-few op view c.requires.stage c.turn.new.self next c.in-Done-Err.free (nodes-answers op view c.requires.stage c.turn.new.self next _ _ c.in-Done-Err.field-0-is told.answers) told.step told.made
    c.begin_undoing.new.self c.begin_undoing.ensures.begins c.requires.under_way)

pub returns-in-More-clause-turn : goal.returns-in-More-clause-turn
returns-in-More-clause-turn c =
    let told = c.in-More.ensures in
    nodes-more c.args.self.now (view_of c.args.pass.now) c.requires.stage c.turn.new.self (view_of c.turn.new.pass) told.step told.made told.keeps told.turned told.loads

pub returns-in-Again-clause-turn : goal.returns-in-Again-clause-turn
returns-in-Again-clause-turn c =
    let told = c.in-Again.ensures in
    nodes-again c.args.self.now (view_of c.args.pass.now) c.requires.stage c.turn.new.self (view_of c.turn.new.pass) told.step told.made told.keeps c.in-Again.lock c.in-Again.word told.turned told.loads

pub returns-in-Done-Ok-clause-label : goal.returns-in-Done-Ok-clause-label
returns-in-Done-Ok-clause-label c =
    label-none More c.args.self.now c.begin_marks.new.self (view_of c.args.pass.now) (view_of c.begin_marks.new.pass) tt (ap (λ (o : PrepareOp). label_of o) c.begin_marks.ensures.begins.is)

pub returns-in-Done-Err-clause-label : goal.returns-in-Done-Err-clause-label
returns-in-Done-Err-clause-label c =
    label-none More c.args.self.now c.begin_undoing.new.self (view_of c.args.pass.now) (view_of c.begin_undoing.new.pass) tt (ap stage_label c.begin_undoing.ensures.begins.stage)

pub returns-in-More-clause-label : goal.returns-in-More-clause-label
returns-in-More-clause-label c = label-none More c.args.self.now (record c.args.self.now { taking = c.turn.new.self }) (view_of c.args.pass.now) (view_of c.turn.new.pass) tt (ap stage_label c.requires.stage)

pub returns-in-Again-clause-label : goal.returns-in-Again-clause-label
returns-in-Again-clause-label c =
    label-none (Again c.in-Again.lock c.in-Again.word) c.args.self.now (record c.args.self.now { taking = c.turn.new.self }) (view_of c.args.pass.now) (view_of c.turn.new.pass) tt (ap stage_label c.requires.stage)
