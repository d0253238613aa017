use Rattle.std.proofs.Common.{◌≡◌, length}
use Rattle.pass_table.specs.Passes.{view_of, IsOf}
use Rattle.batch_add.specs.declared.mark_op.MarkStage.TheVariants.{Sides}
use Rattle.batch_add.specs.stages.Marking.{MarksOn, at_mark, no_sides}
use Rattle.batch_add.proofs.mark_op.Marking.load_sides.Given as goal

abbrev pub invariant-loop-side : goal.invariant-loop-side
invariant-loop-side l = IsOf l.world l.pass × (length l.words ≡ 6) × MarksOn (at_mark l.self no_sides) (view_of l.initial.pass) (at_mark l.self (Sides l.words l.side)) (view_of l.pass)
