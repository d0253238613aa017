use Rattle.std.proofs.Common.{subst, Option}
use Rattle.pass_table.specs.Passes.{view_of}
use Rattle.widen_bounds.specs.declared.climbing.Climb.{Climb}
use Rattle.widen_bounds.specs.stages.Climbing.{IsClimbTurn}
use Rattle.widen_bounds.proofs.WidenTurns.{second-on, second-up}
use Rattle.widen_bounds.proofs.widening.Widening.on_second.Goals as goal

pub returns-in-Some-clause-turn : goal.returns-in-Some-clause-turn
returns-in-Some-clause-turn g c =
    let view = view_of c.args.pass.now in
    let next = view_of c.go_up.new.pass in
    second-on g.index c.args.target.now c.args.climb view next c.in-Some.climb
    (subst (λ (o : Option Climb). IsClimbTurn g.index c.args.target.now c.args.climb o view next) c.in-Some.is c.go_up.ensures.turn)

pub returns-in-None-clause-turn : goal.returns-in-None-clause-turn
returns-in-None-clause-turn g c =
    let view = view_of c.args.pass.now in
    let next = view_of c.go_up.new.pass in
    second-up g.index c.args.target.now c.args.climb view next
    (subst (λ (o : Option Climb). IsClimbTurn g.index c.args.target.now c.args.climb o view next) c.in-None.is c.go_up.ensures.turn)
