use Rattle.std.proofs.Common.{refl, subst, arith}
use Rattle.word_map.specs.declared.name.Name.TheVariants.{State}
use Rattle.core_state.specs.Lives.{under_list}
use Rattle.pass_table.specs.Passes.{view_of}
use Rattle.pass_table.proofs.Bodies.{body-load-step, body-load-made}
use Rattle.body_slots.specs.declared.create_op.CreateStage.TheVariants.{Taken, Fields}
use Rattle.body_slots.specs.stages.Creating.{AtCreate}
use Rattle.body_slots.specs.stages.Later.{list-held}
use Rattle.pass_table.proofs.Stages.{went-on}
use Rattle.body_slots.proofs.CreateTurns.{create_stages, state-loaded}
use Rattle.body_slots.proofs.create_op.CreateOp.load_state.Goals as goal

pub step_15-state-requires-clause-asks : goal.step_15-state-requires-clause-asks
step_15-state-requires-clause-asks c =
    let view = view_of c.args.pass.now in
    let under_way = c.requires.under_way in
    let at = subst (AtCreate under_way.first under_way.start view) c.requires.stage under_way.goes.1 in
    under_list c.args.index refl (list-held under_way.start view _ _ under_way.goes.0.rest at.calling)

pub returns-clause-turn : goal.returns-clause-turn
returns-clause-turn c =
    let view = view_of c.args.pass.now in
    let next = view_of c.step_15-state.new.pass in
    let index = c.args.index in
    let state = c.step_15-state.result in
    let stepped = c.step_15-state.ensures.step in
    went-on create_stages c.go_on.result c.args.self.now c.go_on.new.self (Taken index) (Fields index state 0) view next c.go_on.ensures.more c.go_on.ensures.stage c.requires.stage
    (body-load-step view next (State index) state stepped) (body-load-made view next (State index) state stepped) (omega arith) tt (λ first start making at. state-loaded first start view next index state stepped at)
