use Rattle.pass_table.specs.Passes.{IsIdle}
use Rattle.world_tests.proofs.passes.rounds.Given as goal

abbrev pub invariant-loop : goal.invariant-loop
invariant-loop g l = IsIdle l.world l.pass
