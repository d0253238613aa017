use Rattle.std.proofs.Common.{arith, subst}
use Rattle.pass_table.specs.Passes.{view_of}
use Rattle.body_slots.specs.stages.Destroying.{AtDestroy}
use Rattle.body_slots.specs.declared.destroy_op.DestroyStage.TheVariants.{Locked, Headed}
use Rattle.body_slots.proofs.CreateTurns.{head-step, head-made}
use Rattle.body_slots.proofs.DestroyTurns.{destroy-on, has-list}
use Rattle.body_slots.proofs.DestroyEnds.{head-loaded}
use Rattle.body_slots.proofs.destroy_op.DestroyOp.load_head.Goals as goal

pub returns-clause-turn : goal.returns-clause-turn
returns-clause-turn c =
    let view = view_of c.args.pass.now in
    let next = view_of c.load_head-head.new.pass in
    let head = c.load_head-head.result in
    let loaded = c.load_head-head.ensures.loaded in
    destroy-on c.go_on.result c.args.self.now c.go_on.new.self Locked (Headed head) view next c.go_on.ensures.more c.go_on.ensures.stage c.requires.stage
    (head-step view next head loaded) (head-made view next head loaded) (omega arith) tt (λ first start making at. head-loaded first.id start view next head making.1 loaded at)

pub load_head-head-requires-clause-list : goal.load_head-head-requires-clause-list
load_head-head-requires-clause-list c =
    let view = view_of c.args.pass.now in
    let way = c.requires.under_way in
    let id = way.first.id in
    let at = subst (AtDestroy id way.start view c.args.self.now.look) c.requires.stage way.goes.2 in
    has-list id way.start view way.goes.1.rest at.0
