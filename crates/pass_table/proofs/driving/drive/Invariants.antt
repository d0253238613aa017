use Rattle.core_state.specs.declared.view.View.{View}
use Rattle.pass_table.specs.Turning.{IsUnderWay}
use Rattle.pass_table.specs.Passes.{view_of, IsOf}
use Rattle.pass_table.proofs.driving.drive.Given as goal

abbrev pub invariant-loop : goal.invariant-loop
invariant-loop g l = let under_way = g.O.Operation.under_way in
    IsOf l.world l.pass × IsUnderWay under_way l.operation (view_of l.pass)
    × ((first : _) (start : View) → under_way first start l.initial.operation (view_of l.initial.pass) → under_way first start l.operation (view_of l.pass))
