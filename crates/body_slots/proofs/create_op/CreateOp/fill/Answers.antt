use Rattle.std.proofs.Common.{ℕ, ◌+◌, ◌%◌, ap, refl, ◌∙◌}
use Rattle.core_state.specs.Lives.{under_list}
use Rattle.pass_table.specs.Passes.{view_of}
use Rattle.body_slots.specs.declared.create_op.CreateStage.TheVariants.{Taken, Filled}
use Rattle.body_slots.specs.stages.Creating.{at_stage}
use Rattle.body_slots.specs.stages.Later.{list-held}
use Rattle.body_slots.proofs.CreateEnds.{next-state, may-create}
use Rattle.body_slots.proofs.WholeCreate.{now-at, state-on, created-on}
use Rattle.body_slots.proofs.create_op.CreateOp.fill.Goals as goal

pub step_15-state-requires-clause-asks : goal.step_15-state-requires-clause-asks
step_15-state-requires-clause-asks c =
    let view = view_of c.args.pass.now in
    let way = c.requires.under_way in
    let at = now-at way.first way.start (at_stage c.args.self.now (Taken c.args.index)) (Taken c.args.index) view refl way.goes in
    under_list c.args.index refl (list-held way.start view _ _ way.goes.0.rest at.calling)

pub store_fields-requires-clause-under_way : goal.store_fields-requires-clause-under_way
store_fields-requires-clause-under_way c =
    let state = c.step_15-state.result in
    let way = c.requires.under_way in (
      state,
      record {
        first = way.first;
        start = way.start;
        goes = state-on c.args.self.now c.args.index state (view_of c.args.pass.now) (view_of c.step_15-state.new.pass) c.step_15-state.ensures.step way.first way.start way.goes;
      },
    )

pub step_13-requires-clause-asks : goal.step_13-requires-clause-asks
step_13-requires-clause-asks c =
    let operation = c.args.self.now in
    let index = c.args.index in
    let state = c.step_15-state.result in
    let way = c.requires.under_way in
    let loaded = state-on operation index state (view_of c.args.pass.now) (view_of c.step_15-state.new.pass) c.step_15-state.ensures.step way.first way.start way.goes in
    may-create (at_stage operation (Filled index state)) way.first way.start (view_of c.store_fields.new.pass) index state _ (c.store_fields.ensures.keeps state way.first way.start loaded) refl
    (next-state state _ _ c.sequence_of-sequence.ensures c.to_word-word.ensures)

pub returns-clause-keeps : goal.returns-clause-keeps
returns-clause-keeps c = λ first start making.
    let operation = c.args.self.now in
    let index = c.args.index in
    let state = c.step_15-state.result in
    let loaded = state-on operation index state (view_of c.args.pass.now) (view_of c.step_15-state.new.pass) c.step_15-state.ensures.step first start making in
    created-on operation index state _ c.new.result (view_of c.store_fields.new.pass) (view_of c.step_13.new.pass) (next-state state _ _ c.sequence_of-sequence.ensures c.to_word-word.ensures) c.step_13.ensures.step
    c.new.ensures.index (c.new.ensures.seq ∙ ap (λ (n : ℕ). (n + 1) % 256) c.sequence_of-sequence.ensures) first start (c.store_fields.ensures.keeps state first start loaded)
