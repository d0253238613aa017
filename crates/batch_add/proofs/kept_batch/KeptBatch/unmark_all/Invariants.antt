use Rattle.pass_table.specs.Passes.{view_of, IsOf}
use Rattle.batch_add.specs.stages.GiveSteps.{HasUnmarked, Leads}
use Rattle.batch_add.proofs.kept_batch.KeptBatch.unmark_all.Given as goal

abbrev pub invariant-loop-done : goal.invariant-loop-done
invariant-loop-done g l = IsOf l.world l.pass × Leads l.self (HasUnmarked 0) (view_of l.initial.pass) (HasUnmarked l.done) (view_of l.pass)
