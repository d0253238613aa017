use Rattle.pass_table.specs.Passes.{view_of, IsOf}
use Rattle.pass_table.specs.Turning.{IsUnderWay}
use Rattle.batch_add.specs.stages.Preparing.{IsPreparing}
use Rattle.world_tests.proofs.batches.hold_by_turns.Given as goal

abbrev pub invariant-loop : goal.invariant-loop
invariant-loop l = IsOf l.world l.pass × IsUnderWay IsPreparing l.preparing (view_of l.pass)
