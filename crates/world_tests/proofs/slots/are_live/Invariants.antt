use Rattle.pass_table.specs.Passes.{IsIdle}
use Rattle.world_tests.proofs.slots.are_live.Given as goal

abbrev pub invariant-loop-id : goal.invariant-loop-id
invariant-loop-id g l = IsIdle l.world l.pass
