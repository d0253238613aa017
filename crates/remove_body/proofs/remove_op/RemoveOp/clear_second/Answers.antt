use Rattle.core_state.specs.declared.view.Task.TheVariants.{Removing as RemovingTask}
use Rattle.std.proofs.Common.{refl, ap, sym, ◌∙◌, subst, arith}
use Rattle.body_ident.specs.Id.{Id}
use Rattle.pass_table.specs.Passes.{view_of}
use Rattle.remove_body.specs.declared.remove_op.RemoveStage.TheVariants.{HalfCleared, Cleared}
use Rattle.remove_body.specs.stages.Removing.{AtRemove, IsLocationOf}
use Rattle.remove_body.proofs.RemoveTurns.{remove-on}
use Rattle.remove_body.proofs.RemoveSteps.{clear-step, clear-made, cleared-out, cleared-here, cleared-there, out-location}
use Rattle.remove_body.proofs.remove_op.RemoveOp.clear_second.Goals as goal

pub clear_entry-requires-clause-removing : goal.clear_entry-requires-clause-removing
clear_entry-requires-clause-removing c =
    let view = view_of c.args.pass.now in
    let way = c.requires.under_way in
    let at = subst (AtRemove way.first.id way.start view c.args.self.now.look) c.requires.stage way.goes.2 in
    at.0.calling.doing ∙ ap (λ (i : Id). RemovingTask i.index) (sym way.goes.0)

pub clear_entry-requires-clause-at : goal.clear_entry-requires-clause-at
clear_entry-requires-clause-at c =
    let view = view_of c.args.pass.now in
    let way = c.requires.under_way in
    let at = subst (AtRemove way.first.id way.start view c.args.self.now.look) c.requires.stage way.goes.2 in
    subst (λ (i : Id). IsLocationOf i.index view c.args.second) (sym way.goes.0) (out-location way.first.id way.start view c.args.first c.args.second at.0 c.args.pass.now.current).1

pub returns-clause-turn : goal.returns-clause-turn
returns-clause-turn c =
    let view = view_of c.args.pass.now in
    let next = view_of c.clear_entry.new.pass in
    let clears = c.clear_entry.ensures.clears in
    let w = c.args.second in
    remove-on c.go_on.result c.args.self.now c.go_on.new.self (HalfCleared c.args.first c.args.second) (Cleared c.args.first c.args.second) view next c.go_on.ensures.more c.go_on.ensures.stage c.requires.stage
    (clear-step view next w clears) (clear-made view next w c.args.pass.now.number c.args.pass.now.numbered clears) (omega arith) tt refl
    (λ first start removing at. (cleared-out view next w first.id start c.args.first c.args.second removing.1.rest clears at.0, cleared-there view next w c.args.first clears at.1, cleared-here view next w clears))
