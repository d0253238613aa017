use Rattle.std.proofs.Common.{subst, arith}
use Rattle.pass_table.specs.Passes.{view_of}
use Rattle.body_slots.specs.declared.create_op.CreateStage.TheVariants.{Linked, Taken}
use Rattle.body_slots.specs.stages.Creating.{AtCreate}
use Rattle.pass_table.proofs.Stages.{went-on}
use Rattle.body_slots.proofs.CreateTurns.{create_stages, took-step, took-made, took-index, has-list}
use Rattle.body_slots.proofs.create_op.CreateOp.take_off.Goals as goal

pub returns-clause-turn : goal.returns-clause-turn
returns-clause-turn c =
    let view = view_of c.args.pass.now in
    let next = view_of c.take_off.new.pass in
    let index = c.args.index in
    let link = c.args.link in
    let under_way = c.requires.under_way in
    let at = subst (AtCreate under_way.first under_way.start view) c.requires.stage under_way.goes.1 in
    let took = c.take_off.ensures.taken index at.2 in
    went-on create_stages c.go_on.result c.args.self.now c.go_on.new.self (Linked index link) (Taken index) view next c.go_on.ensures.more c.go_on.ensures.stage c.requires.stage
    (took-step view next index link took) (took-made view next c.args.pass.now.number index link c.args.pass.now.numbered took) (omega arith) tt
    (λ first start making at. took-index first start view next index link took at)

pub take_off-requires-clause-list : goal.take_off-requires-clause-list
take_off-requires-clause-list c =
    let view = view_of c.args.pass.now in
    let way = c.requires.under_way in
    let at = subst (AtCreate way.first way.start view) c.requires.stage way.goes.1 in
    has-list way.start view way.goes.0.rest at.0
