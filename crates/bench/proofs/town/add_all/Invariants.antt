use Rattle.pass_table.specs.Passes.{IsIdle}
use Rattle.bench.proofs.town.add_all.Given as goal

abbrev pub invariant-loop-first : goal.invariant-loop-first
invariant-loop-first g l = IsIdle l.world l.pass
