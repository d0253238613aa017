use Rattle.std.proofs.Common.{◌≡◌, ℕ, sym, subst, arith}
use Rattle.word_map.specs.declared.name.Name.{Name}
use Rattle.core_state.specs.Lives.{MayStoreField, store_field}
use Rattle.pass_table.specs.Stepping.{Stored}
use Rattle.pass_table.specs.Passes.{view_of}
use Rattle.body_slots.specs.stages.Creating.{field_name}
use Rattle.body_slots.proofs.CreateTurns.{may-field}
use Rattle.body_slots.proofs.WholeCreate.{FillsOn, fills-none, fills-next, fills-all}
use Rattle.body_slots.proofs.create_op.CreateOp.store_fields.Goals as goal

pub loop-number-init : goal.loop-number-init
loop-number-init c = (c.requires.of, fills-none c.args.self.now c.args.index (view_of c.args.pass.now))

pub step_12-requires-clause-asks : goal.step_12-requires-clause-asks
step_12-requires-clause-asks c =
    let view = view_of c.loop-number.pass in
    let number = c.loop-number.number in
    let way = c.requires.under_way.1 in
    let now = c.loop-number.invariant.1 c.requires.under_way.0 way.first way.start way.goes in
    subst (λ (name : Name). MayStoreField view name c.field-name.result.1 0) (sym c.field-name.ensures.name)
    (subst (λ (value : ℕ). MayStoreField view (field_name c.args.index number) value 0) (sym c.field-name.ensures.value)
    (may-field way.first c.args.self.now way.start view c.args.index number now.begun now.taken (omega arith)))

pub loop-number-preserved : goal.loop-number-preserved
loop-number-preserved c =
    let view = view_of c.loop-number.pass in
    let next = view_of c.step_12.new.pass in
    let number = c.loop-number.number in
    let named = subst (λ (name : Name). Stored MayStoreField store_field view name c.field-name.result.1 next) c.field-name.ensures.name c.step_12.ensures.step in
    let stored = subst (λ (value : ℕ). Stored MayStoreField store_field view (field_name c.args.index number) value next) c.field-name.ensures.value named in
    (c.step_12.ensures.of, fills-next c.args.self.now c.args.index (view_of c.args.pass.now) number view next (omega arith) c.loop-number.invariant.1 stored)

pub returns-clause-keeps : goal.returns-clause-keeps
returns-clause-keeps c =
    let view = view_of c.loop-number.pass in
    let begun = view_of c.args.pass.now in
    let all : c.loop-number.number ≡ 8 = omega arith in
    fills-all c.args.self.now c.args.index begun view (subst (λ (k : ℕ). FillsOn c.args.self.now c.args.index begun k view) all c.loop-number.invariant.1)
