use Rattle.std.proofs.Common.{ℕ, ◌+◌, ◌%◌, ap, sym, ◌∙◌}
use Rattle.core_state.specs.declared.view.View.{View}
use Rattle.core_state.specs.View.{IsPass, number_of}
use Rattle.pass_table.specs.Passes.{view_of}
use Rattle.body_slots.proofs.CreateEnds.{next-state, may-create, create-turn}
use Rattle.body_slots.proofs.create_op.CreateOp.store_state.Goals as goal

pub step_13-requires-clause-asks : goal.step_13-requires-clause-asks
step_13-requires-clause-asks c =
    let under_way = c.requires.under_way in
    may-create c.args.self.now under_way.first under_way.start (view_of c.args.pass.now) c.args.index c.args.state _ under_way.goes c.requires.stage (next-state c.args.state _ _ c.sequence_of-sequence.ensures c.to_word-word.ensures)

pub returns-clause-turn : goal.returns-clause-turn
returns-clause-turn c =
    let under_way = c.requires.under_way in
    let view = view_of c.args.pass.now in
    let next = view_of c.step_13.new.pass in
    let pass : IsPass view c.number.result = ap (λ (v : View). number_of v) (sym c.step_13.ensures.step.1.leaves) ∙ c.number.ensures in
    create-turn c.args.self.now under_way.first under_way.start view next c.number.result c.args.index c.args.state _ c.new.result under_way.goes pass c.requires.stage
    (next-state c.args.state _ _ c.sequence_of-sequence.ensures c.to_word-word.ensures) c.step_13.ensures.step c.new.ensures.index (c.new.ensures.seq ∙ ap (λ (n : ℕ). (n + 1) % 256) c.sequence_of-sequence.ensures)
