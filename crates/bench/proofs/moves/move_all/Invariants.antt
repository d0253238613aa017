use Rattle.pass_table.specs.Passes.{IsIdle}
use Rattle.bench.proofs.moves.move_all.Given as goal

abbrev pub invariant-loop-index : goal.invariant-loop-index
invariant-loop-index g l = IsIdle l.world l.pass
