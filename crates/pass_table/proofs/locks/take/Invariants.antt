use Rattle.pass_table.specs.Passes.{view_of, IsOf}
use Rattle.pass_table.specs.Knowing.{KnowsMore}
use Rattle.pass_table.proofs.locks.take.Given as goal

abbrev pub invariant-loop : goal.invariant-loop
invariant-loop g l = IsOf l.world l.pass × KnowsMore (view_of l.initial.pass) (view_of l.pass)
