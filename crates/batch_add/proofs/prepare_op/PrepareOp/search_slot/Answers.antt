use Rattle.batch_add.proofs.PrepareLabel.{label-none}
use Rattle.std.proofs.Common.{◌<◌, ap, sym, ◌∙◌, subst, inl, Err}
use Rattle.core_state.specs.declared.view.View.{View}
use Rattle.pass_table.specs.declared.turn.Turn.TheVariants.{More, Done, Again}
use Rattle.pass_table.specs.Passes.{view_of}
use Rattle.batch_add.specs.declared.prepare_op.PrepareOp.{PrepareOp}
use Rattle.batch_add.specs.stages.Preparing.{IsPrepareTurn, label_of, stage_label}
use Rattle.batch_add.proofs.Searching.{reserved-newest}
use Rattle.batch_add.proofs.TakenNodes.{newest-some}
use Rattle.batch_add.proofs.PartsLeft.{need-some}
use Rattle.batch_add.proofs.SearchParts.{search-inside, search-count, search-nodes, search-room, search-answers, search-reserved, search-ends, no-slot, search-more, search-again}
use Rattle.batch_add.proofs.prepare_op.PrepareOp.search_slot.Goals as goal

pub turn-requires-clause-under_way : goal.turn-requires-clause-under_way
turn-requires-clause-under_way c = search-inside c.args.self.now (view_of c.args.pass.now) c.requires.stage c.requires.under_way

pub begin_nodes-requires-clause-some : goal.begin_nodes-requires-clause-some
begin_nodes-requires-clause-some c =
    let op = c.args.self.now in
    let view = view_of c.args.pass.now in
    let h = c.requires.under_way in
    subst (λ n. 0 < n) (sym (search-nodes op view c.requires.stage h)) (need-some _ (search-count op view c.requires.stage h))

pub begin_nodes-requires-clause-nodes : goal.begin_nodes-requires-clause-nodes
begin_nodes-requires-clause-nodes c =
    let op = c.args.self.now in
    let view = view_of c.args.pass.now in
    let h = c.requires.under_way in
    search-room op view c.requires.stage h ∙ sym (search-nodes op view c.requires.stage h)

pub begin_nodes-requires-clause-preparing : goal.begin_nodes-requires-clause-preparing
begin_nodes-requires-clause-preparing c =
    let op = c.args.self.now in
    let view = view_of c.args.pass.now in
    let next = view_of c.turn.new.pass in
    let h = c.requires.under_way in
    let slot = c.in-Done-Some.slot in
    let reserved = search-reserved op view c.requires.stage c.turn.new.self next slot (search-answers op view c.requires.stage c.turn.new.self next _ _ c.in-Done-Some.field-0-is c.in-Done-Some.ensures.answers) h.first h.start h.goes in
    newest-some next h.start.batches _ (reserved-newest op.layer slot h.start next reserved)

pub begin_nodes-requires-clause-rest : goal.begin_nodes-requires-clause-rest
begin_nodes-requires-clause-rest c =
    let op = c.args.self.now in
    let view = view_of c.args.pass.now in
    let next = view_of c.turn.new.pass in
    let h = c.requires.under_way in
    (search-reserved op view c.requires.stage c.turn.new.self next c.in-Done-Some.slot (search-answers op view c.requires.stage c.turn.new.self next _ _ c.in-Done-Some.field-0-is c.in-Done-Some.ensures.answers) h.first h.start h.goes).done.rest

pub returns-in-Done-Some-clause-turn : goal.returns-in-Done-Some-clause-turn
returns-in-Done-Some-clause-turn c =
    let op = c.args.self.now in
    let view = view_of c.args.pass.now in
    let next = view_of c.turn.new.pass in
    let begins = c.begin_nodes.ensures.begins in
    let told = c.in-Done-Some.ensures in
    subst (λ (v : View). IsPrepareTurn More op c.begin_nodes.new.self view v) (sym (ap view_of c.begin_nodes.ensures.pass))
    (subst (λ (o : PrepareOp). IsPrepareTurn More op o view next) (sym begins.is)
    (search-ends op view c.requires.stage c.turn.new.self next told.step told.made c.in-Done-Some.slot (search-answers op view c.requires.stage c.turn.new.self next _ _ c.in-Done-Some.field-0-is told.answers) begins.taking begins.count begins.goes begins.unloaded c.requires.under_way))

pub returns-in-Done-None-clause-turn : goal.returns-in-Done-None-clause-turn
returns-in-Done-None-clause-turn c =
    let told = c.in-Done-None.ensures in
    let op = c.args.self.now in
    let view = view_of c.args.pass.now in
    let next = view_of c.turn.new.pass in
    no-slot op view c.requires.stage c.turn.new.self next told.step told.made (search-answers op view c.requires.stage c.turn.new.self next _ _ c.in-Done-None.field-0-is told.answers) c.new-in-Done-None.result
    (ap (λ w. w.items) (c.new-in-Done-None.ensures ∙ c.replace-words.ensures.value)) _

pub returns-in-More-clause-turn : goal.returns-in-More-clause-turn
returns-in-More-clause-turn c =
    let told = c.in-More.ensures in
    search-more c.args.self.now (view_of c.args.pass.now) c.requires.stage c.turn.new.self (view_of c.turn.new.pass) told.step told.made told.keeps told.turned

pub returns-in-Again-clause-turn : goal.returns-in-Again-clause-turn
returns-in-Again-clause-turn c =
    let told = c.in-Again.ensures in
    search-again c.args.self.now (view_of c.args.pass.now) c.requires.stage c.turn.new.self (view_of c.turn.new.pass) told.step told.made told.keeps c.in-Again.lock c.in-Again.word told.turned

pub returns-in-Done-Some-clause-label : goal.returns-in-Done-Some-clause-label
returns-in-Done-Some-clause-label c =
    label-none More c.args.self.now c.begin_nodes.new.self (view_of c.args.pass.now) (view_of c.begin_nodes.new.pass) tt (ap (λ (o : PrepareOp). label_of o) c.begin_nodes.ensures.begins.is)

pub returns-in-Done-None-clause-label : goal.returns-in-Done-None-clause-label
returns-in-Done-None-clause-label c = label-none (Done (Err _)) c.args.self.now _ (view_of c.args.pass.now) (view_of c.turn.new.pass) (inl tt) (ap stage_label c.requires.stage)

pub returns-in-More-clause-label : goal.returns-in-More-clause-label
returns-in-More-clause-label c = label-none More c.args.self.now (record c.args.self.now { search = c.turn.new.self }) (view_of c.args.pass.now) (view_of c.turn.new.pass) tt (ap stage_label c.requires.stage)

pub returns-in-Again-clause-label : goal.returns-in-Again-clause-label
returns-in-Again-clause-label c =
    label-none (Again c.in-Again.lock c.in-Again.word) c.args.self.now (record c.args.self.now { search = c.turn.new.self }) (view_of c.args.pass.now) (view_of c.turn.new.pass) tt (ap stage_label c.requires.stage)
