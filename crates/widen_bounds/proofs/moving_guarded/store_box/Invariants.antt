use Rattle.std.proofs.Common.{List}
use Rattle.core_state.specs.declared.view.LockStep.{LockStep}
use Rattle.core_state.specs.declared.view.View.{View}
use Rattle.pass_table.specs.Passes.{view_of, IsOf}
use Rattle.widen_bounds.specs.stages.Storing.{IsBoxing}
use Rattle.widen_bounds.specs.stages.Moving.{IsStoring}
use Rattle.widen_bounds.proofs.moving_guarded.store_box.Given as goal

abbrev pub invariant-loop-side : goal.invariant-loop-side
invariant-loop-side l =
    IsOf l.world l.pass × IsBoxing l.id l.to l.side (view_of l.pass) × ((steps : List LockStep) (start : View) → IsStoring l.id l.to steps start (view_of l.initial.pass) 0 → IsStoring l.id l.to steps start (view_of l.pass) l.side)
