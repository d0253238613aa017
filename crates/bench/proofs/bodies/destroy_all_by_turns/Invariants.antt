use Rattle.pass_table.specs.Passes.{IsIdle}
use Rattle.bench.proofs.bodies.destroy_all_by_turns.Given as goal

abbrev pub invariant-loop-index : goal.invariant-loop-index
invariant-loop-index g l = IsIdle l.world l.pass
