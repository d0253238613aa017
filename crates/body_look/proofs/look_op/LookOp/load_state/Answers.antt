use Rattle.std.proofs.Common.{arith}
use Rattle.pass_table.specs.Passes.{view_of}
use Rattle.body_look.proofs.LookTurns.{state-asks, state-gone, state-lives, state-goes}
use Rattle.body_look.proofs.look_op.LookOp.load_state.Goals as goal

pub step_15-state-requires-clause-asks : goal.step_15-state-requires-clause-asks
step_15-state-requires-clause-asks c =
    state-asks c.args.self.now (view_of c.args.pass.now) c.index.result c.requires.stage c.index.ensures.value c.requires.under_way

pub returns-then-state-to_word-clause-turn : goal.returns-then-state-to_word-clause-turn
returns-then-state-to_word-clause-turn c =
    let other = c.if-state-to_word.true in
    let number = c.to_word.ensures in
    let seq = c.seq.ensures in
    state-gone c.args.self.now (view_of c.args.pass.now) (view_of c.step_15-state.new.pass) c.index.result c.step_15-state.result c.requires.stage c.index.ensures.value c.step_15-state.ensures.step
    (λ same. other (omega arith))

pub returns-in-Life-clause-turn : goal.returns-in-Life-clause-turn
returns-in-Life-clause-turn c =
    let live = c.if-state-to_word.false in
    let number = c.to_word.ensures in
    let seq = c.seq.ensures in
    state-lives c.args.self.now (view_of c.args.pass.now) (view_of c.step_15-state.new.pass) c.index.result c.step_15-state.result c.requires.stage c.index.ensures.value c.step_15-state.ensures.step
    (omega arith) c.in-Life.is

pub returns-in-Phase-clause-turn : goal.returns-in-Phase-clause-turn
returns-in-Phase-clause-turn c =
    let live = c.if-state-to_word.false in
    let number = c.to_word.ensures in
    let seq = c.seq.ensures in
    state-goes c.args.self.now (view_of c.args.pass.now) (view_of c.step_15-state.new.pass) c.index.result c.step_15-state.result c.requires.stage c.index.ensures.value c.step_15-state.ensures.step
    (omega arith) c.in-Phase.is
