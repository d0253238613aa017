use Rattle.std.proofs.Common.{◌≢◌}
use Rattle.std.proofs.lemmas.Bool.{false≢true}
use Rattle.pass_table.specs.Passes.{view_of}
use Rattle.widen_bounds.specs.declared.widening.Widening.TheVariants.{Ended}
use Rattle.widen_bounds.proofs.WidenTurns.{on-more}
use Rattle.widen_bounds.proofs.widening.Widening.widen_all.Goals as goal

pub turn-requires : goal.turn-requires
turn-requires g c =
    let unended : c.loop-widening.widening ≢ Ended = λ ended. absurd (false≢true (c.loop-widening-test.ensures.1 ended)) in
    (c.loop-widening.invariant.0, (c.loop-widening.invariant.1.goes unended, unended))

pub loop-widening-preserved : goal.loop-widening-preserved
loop-widening-preserved g c = (
  c.turn.ensures.of,
  on-more g.index c.args.target.now c.args.self (view_of c.args.pass.now) c.loop-widening.widening c.turn.new.self (view_of c.loop-widening.pass) (view_of c.turn.new.pass)
      (λ ended. absurd (false≢true (c.loop-widening-test.ensures.1 ended))) c.loop-widening.invariant.1 c.turn.ensures.turn,
)
