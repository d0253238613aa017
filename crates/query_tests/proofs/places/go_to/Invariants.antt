use Rattle.pass_table.specs.Turning.{IsUnderWay}
use Rattle.pass_table.specs.Passes.{view_of, IsOf}
use Rattle.query_tests.proofs.places.go_to.Given as goal

abbrev pub invariant-loop : goal.invariant-loop
invariant-loop g l = IsOf l.world l.pass × IsUnderWay g.O.Operation.under_way l.operation (view_of l.pass)
