use Rattle.pass_table.specs.Passes.{IsIdle}
use Rattle.world_tests.proofs.slots.rounds.Given as goal

abbrev pub invariant-loop-round : goal.invariant-loop-round
invariant-loop-round g l = IsIdle l.world l.pass
