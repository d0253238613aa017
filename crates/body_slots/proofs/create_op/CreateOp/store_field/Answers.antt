use Rattle.std.proofs.Common.{ℕ, ◌+◌, ◌<◌, sym, ◌∙◌, subst, arith}
use Rattle.word_map.specs.declared.name.Name.{Name}
use Rattle.core_state.specs.Lives.{MayStoreField, store_field}
use Rattle.pass_table.specs.Stepping.{Stored}
use Rattle.pass_table.specs.Passes.{view_of}
use Rattle.body_slots.specs.declared.create_op.CreateStage.TheVariants.{Fields, Filled}
use Rattle.body_slots.specs.stages.Creating.{field_name, AtCreate}
use Rattle.pass_table.proofs.Stages.{went-on}
use Rattle.body_slots.proofs.CreateTurns.{create_stages, may-field, field-step, field-made, field-next, field-last, value-begun}
use Rattle.body_slots.proofs.create_op.CreateOp.store_field.Goals as goal

pub step_12-requires-clause-asks : goal.step_12-requires-clause-asks
step_12-requires-clause-asks c =
    let operation = c.args.self.now in
    let view = view_of c.args.pass.now in
    let under_way = c.requires.under_way in
    let at = subst (AtCreate under_way.first under_way.start view) c.requires.stage under_way.goes.1 in
    subst (λ (name : Name). MayStoreField view name c.field-name.result.1 0) (sym c.field-name.ensures.name)
    (subst (λ (value : ℕ). MayStoreField view (field_name c.args.index c.args.stored) value 0) (sym c.field-name.ensures.value)
    (may-field under_way.first operation under_way.start view c.args.index c.args.stored under_way.goes.0 at.0 at.2))

pub returns-then-stored-eq-FIELDS-clause-turn : goal.returns-then-stored-eq-FIELDS-clause-turn
returns-then-stored-eq-FIELDS-clause-turn c =
    let operation = c.args.self.now in
    let view = view_of c.args.pass.now in
    let next = view_of c.step_12.new.pass in
    let index = c.args.index in
    let state = c.args.state in
    let number = c.args.stored in
    let value = c.field-name.result.1 in
    let stored = subst (λ (name : Name). Stored MayStoreField store_field view name value next) c.field-name.ensures.name c.step_12.ensures.step in
    went-on create_stages c.go_on.result operation c.go_on.new.self (Fields index state number) (Filled index state) view next c.go_on.ensures.more c.go_on.ensures.stage c.requires.stage
    (field-step view next index number value stored) (field-made view next index number value stored c.args.pass.now.number c.args.pass.now.numbered) (let all = c.if-stored-eq-FIELDS.true in omega arith) tt
    (λ first start making at. field-last view next index number value stored first start state at (c.field-name.ensures.value ∙ value-begun first operation start number making.0) c.if-stored-eq-FIELDS.true)

pub returns-clause-turn : goal.returns-clause-turn
returns-clause-turn c =
    let operation = c.args.self.now in
    let view = view_of c.args.pass.now in
    let next = view_of c.step_12.new.pass in
    let index = c.args.index in
    let state = c.args.state in
    let number = c.args.stored in
    let value = c.field-name.result.1 in
    let under_way = c.requires.under_way in
    let now = subst (AtCreate under_way.first under_way.start view) c.requires.stage under_way.goes.1 in
    let less = now.2 in
    let more : number + 1 < 8 = (let not = c.if-stored-eq-FIELDS.false in omega arith) in
    let stored = subst (λ (name : Name). Stored MayStoreField store_field view name value next) c.field-name.ensures.name c.step_12.ensures.step in
    went-on create_stages c.go_on-2.result operation c.go_on-2.new.self (Fields index state number) (Fields index state (number + 1)) view next c.go_on-2.ensures.more c.go_on-2.ensures.stage c.requires.stage
    (field-step view next index number value stored) (field-made view next index number value stored c.args.pass.now.number c.args.pass.now.numbered) (omega arith) tt
    (λ first start making at. field-next view next index number value stored first start state at (c.field-name.ensures.value ∙ value-begun first operation start number making.0) more)
