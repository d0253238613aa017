use Rattle.pass_table.specs.Passes.{IsIdle, view_of}
use Rattle.batch_add.specs.PreparedLists.{AreGood}
use Rattle.bench.proofs.batches.spending.Spending.spend_all.Given as goal

abbrev pub invariant-loop : goal.invariant-loop
invariant-loop g l = IsIdle l.world l.pass × AreGood l.list (view_of l.pass)
