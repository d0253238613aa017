use Rattle.std.proofs.Common.{ℕ, Some, Ok, ap, sym, ◌∙◌, subst}
use Rattle.scene_model.specs.declared.entry.Entry.TheVariants.{Move}
use Rattle.core_state.specs.declared.view.View.{View}
use Rattle.core_state.specs.View.{IsPass, number_of}
use Rattle.pass_table.specs.declared.turn.Turn.TheVariants.{More}
use Rattle.pass_table.specs.Passes.{view_of}
use Rattle.widen_bounds.specs.declared.move_op.MoveStage.TheVariants.{Leaving}
use Rattle.widen_bounds.specs.stages.Moving.{IsMoveTurn}
use Rattle.widen_bounds.proofs.MoveSteps.{boxing-last, last-turn}
use Rattle.widen_bounds.proofs.move_op.MoveOp.store_last.Goals as goal

pub store_last-requires-clause-boxing : goal.store_last-requires-clause-boxing
store_last-requires-clause-boxing c = boxing-last c.args.self.now (view_of c.args.pass.now) c.args.side c.requires.under_way c.requires.stage c.requires.last

pub returns-clause-turn : goal.returns-clause-turn
returns-clause-turn c =
    let before = c.args.self.now in
    let way = c.requires.under_way in
    let view = view_of c.args.pass.now in
    let next = view_of c.store_last.new.pass in
    let pass : IsPass view c.number.result = ap (λ (v : View). number_of v) (sym c.store_last.ensures.stores.1.leaves) ∙ c.number.ensures in
    subst (λ (n : ℕ). IsMoveTurn More before (record before { stage = Leaving (Ok tt); made = Some (record { pass = c.number.result; entry = Move n before.to }) }) view next) (sym c.index.ensures.value)
    (last-turn before way.first way.start view next c.number.result c.args.side way.goes pass c.requires.stage c.requires.last c.args.pass.now.current c.store_last.ensures.stores)
