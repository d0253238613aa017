use Rattle.core_state.specs.declared.view.View.{View}
use Rattle.pass_table.specs.Turning.{IsUnderWay}
use Rattle.pass_table.specs.Passes.{view_of, IsOf}
use Rattle.batch_add.specs.declared.prepare_op.PrepareOp.{PrepareOp}
use Rattle.batch_add.specs.stages.Preparing.{IsPreparing}
use Rattle.batch_add.proofs.prepare_op.PrepareOp.finish.Given as goal

abbrev pub invariant-loop : goal.invariant-loop
invariant-loop g l =
    IsOf l.world l.pass × IsUnderWay IsPreparing l.self (view_of l.pass)
    × ((first : PrepareOp) (start : View) → IsPreparing first start l.initial.self (view_of l.initial.pass) → IsPreparing first start l.self (view_of l.pass))
