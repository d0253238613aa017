use Rattle.pass_table.specs.Passes.{IsIdle}
use Rattle.bench.proofs.lock.crew.Crew.open.Given as goal

abbrev pub invariant-loop-user : goal.invariant-loop-user
invariant-loop-user g l = IsIdle l.world l.first
