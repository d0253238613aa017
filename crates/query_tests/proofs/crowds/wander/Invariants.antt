use Rattle.pass_table.specs.Passes.{IsIdle}
use Rattle.query_tests.proofs.crowds.wander.Given as goal

abbrev pub invariant-loop-round : goal.invariant-loop-round
invariant-loop-round g l = IsIdle l.world l.pass
