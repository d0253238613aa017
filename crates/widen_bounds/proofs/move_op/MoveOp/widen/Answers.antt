use Rattle.pass_table.specs.Passes.{view_of}
use Rattle.widen_bounds.proofs.MoveSteps.{widens-for, not-ended, widen-turn}
use Rattle.widen_bounds.proofs.move_op.MoveOp.widen.Goals as goal

pub turn-requires : goal.turn-requires
turn-requires g c =
    let before = c.args.self.now in
    let view = view_of c.args.pass.now in
    let named = c.requires.0 in
    let way = c.requires.1.1.0 in
    let stage = c.requires.1.1.1 in
    (c.requires.1.0, (widens-for before view stage g.index named way, not-ended before view stage g.index named way))

pub returns-clause-turn : goal.returns-clause-turn
returns-clause-turn g c =
    let before = c.args.self.now in
    widen-turn before (view_of c.args.pass.now) c.requires.1.1.1 g.index c.requires.0 c.go_on_widening.result c.go_on_widening.new.self c.turn.new.self (view_of c.turn.new.pass) c.go_on_widening.ensures.more c.go_on_widening.ensures.stage
    c.turn.ensures.turn
