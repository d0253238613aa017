use Rattle.pass_table.specs.Turning.{IsUnderWay}
use Rattle.pass_table.specs.Passes.{view_of, IsOf}
use Rattle.batch_add.specs.stages.Marking.{IsMarking, MarksOn}
use Rattle.batch_add.proofs.mark_op.Marking.mark_all.Given as goal

abbrev pub invariant-loop : goal.invariant-loop
invariant-loop g l = IsOf l.world l.pass × IsUnderWay IsMarking l.self (view_of l.pass) × MarksOn l.initial.self (view_of l.initial.pass) l.self (view_of l.pass)
