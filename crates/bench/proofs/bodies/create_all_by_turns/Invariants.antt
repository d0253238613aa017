use Rattle.pass_table.specs.Passes.{IsIdle}
use Rattle.bench.proofs.bodies.create_all_by_turns.Given as goal

abbrev pub invariant-loop-bounds : goal.invariant-loop-bounds
invariant-loop-bounds g l = IsIdle l.world l.pass
