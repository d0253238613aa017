use Rattle.std.specs.Prelude.{ℕ}
use Rattle.pass_table.specs.Passes.{view_of, IsOf}
use Rattle.batch_add.specs.stages.GiveSteps.{HasPut, Leads}
use Rattle.batch_add.proofs.kept_batch.KeptBatch.put_all.Given as goal

abbrev pub invariant-loop-given : goal.invariant-loop-given
invariant-loop-given l = IsOf l.world l.pass × ((free : ℕ) → Leads l.self (HasPut free 0) (view_of l.initial.pass) (HasPut free l.given) (view_of l.pass))
