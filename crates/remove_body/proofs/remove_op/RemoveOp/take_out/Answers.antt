use Rattle.std.proofs.Common.{ℕ, ◌≡◌, Some, ap, sym, ◌∙◌, subst}
use Rattle.body_ident.specs.Id.{Id}
use Rattle.word_map.specs.declared.name.Name.TheVariants.{Phase}
use Rattle.pass_table.specs.Passes.{view_of}
use Rattle.pass_table.specs.Stepping.{Stored}
use Rattle.core_state.specs.Removing.{MayRemove, remove}
use Rattle.core_state.specs.declared.view.View.{View}
use Rattle.core_state.specs.View.{IsPass, number_of}
use Rattle.scene_model.specs.declared.entry.Entry.TheVariants.{Remove}
use Rattle.pass_table.specs.declared.turn.Turn.TheVariants.{More}
use Rattle.remove_body.specs.declared.remove_op.RemoveStage.TheVariants.{TakenOut}
use Rattle.remove_body.specs.stages.Removing.{AtRemove, IsRemoveTurn}
use Rattle.remove_body.proofs.RemoveSteps.{asks_remove, remove-turn}
use Rattle.remove_body.proofs.remove_op.RemoveOp.take_out.Goals as goal

pub step_39-requires-clause-asks : goal.step_39-requires-clause-asks
step_39-requires-clause-asks c =
    let view = view_of c.args.pass.now in
    let way = c.requires.under_way in
    let id = way.first.id in
    let at = subst (AtRemove id way.start view c.args.self.now.look) c.requires.stage way.goes.2 in
    let same : c.index-index.result ≡ id.index = c.index-index.ensures.value ∙ ap (λ (i : Id). i.index) way.goes.0 in
    subst (λ (n : ℕ). MayRemove view (Phase n) 0 0) (sym same) (asks_remove id way.start view c.args.first c.args.second way.goes.1.rest at.0 at.1 at.2 c.args.pass.now.current)

pub returns-clause-turn : goal.returns-clause-turn
returns-clause-turn c =
    let before = c.args.self.now in
    let under_way = c.requires.under_way in
    let view = view_of c.args.pass.now in
    let next = view_of c.step_39.new.pass in
    let index = c.index-index.ensures.value in
    let pass : IsPass view c.number.result = ap (λ (v : View). number_of v) (sym c.step_39.ensures.step.1.leaves) ∙ c.number.ensures in
    subst (λ (n : ℕ). IsRemoveTurn More before (record before { stage = TakenOut c.args.first c.args.second; made = Some (record { pass = c.number.result; entry = Remove n }) }) view next) (sym index)
    (remove-turn before under_way.first under_way.start view next c.number.result c.args.first c.args.second under_way.goes pass c.requires.stage
    (subst (λ (n : ℕ). Stored MayRemove remove view (Phase n) 0 next) index c.step_39.ensures.step))
