use Rattle.std.proofs.Common.{ℕ, Some, sym, ◌∙◌, ap, subst}
use Rattle.scene_model.specs.declared.entry.Entry.TheVariants.{Destroy}
use Rattle.word_map.specs.declared.name.Name.TheVariants.{State}
use Rattle.core_state.specs.declared.view.View.{View}
use Rattle.core_state.specs.View.{IsPass, number_of}
use Rattle.core_state.specs.Lives.{MayDestroy, destroy}
use Rattle.pass_table.specs.Stepping.{Stored}
use Rattle.pass_table.specs.declared.turn.Turn.TheVariants.{More}
use Rattle.pass_table.specs.Passes.{view_of}
use Rattle.body_slots.specs.declared.destroy_op.DestroyStage.TheVariants.{Destroyed}
use Rattle.body_slots.specs.stages.Destroying.{IsDestroyTurn}
use Rattle.body_slots.proofs.DestroyEnds.{destroy-turn}
use Rattle.body_slots.proofs.destroy_op.DestroyOp.store_state.Goals as goal

pub returns-clause-turn : goal.returns-clause-turn
returns-clause-turn c =
    let before = c.args.self.now in
    let under_way = c.requires.under_way in
    let view = view_of c.args.pass.now in
    let next = view_of c.step_14.new.pass in
    let index = c.index-index.ensures.value in
    let pass : IsPass view c.number.result = ap (λ (v : View). number_of v) (sym c.step_14.ensures.step.1.leaves) ∙ c.number.ensures in
    subst (λ (n : ℕ). IsDestroyTurn More before (record before { stage = Destroyed; made = Some (record { pass = c.number.result; entry = Destroy n }) }) view next) (sym index)
    (destroy-turn before under_way.first under_way.start view next c.number.result c.from.result under_way.goes pass c.requires.stage (c.from.ensures ∙ c.seq.ensures)
    (subst (λ (n : ℕ). Stored MayDestroy destroy view (State n) c.from.result next) index c.step_14.ensures.step))
