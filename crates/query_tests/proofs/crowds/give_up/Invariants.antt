use Rattle.pass_table.specs.Passes.{IsIdle}
use Rattle.query_tests.proofs.crowds.give_up.Given as goal

abbrev pub invariant-loop : goal.invariant-loop
invariant-loop g l = IsIdle l.world l.pass
