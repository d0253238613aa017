use Rattle.std.proofs.Common.{◌-◌}
use Rattle.pass_table.specs.Passes.{view_of, IsOf}
use Rattle.tree_query.specs.Finding.{room_of}
use Rattle.tree_query.specs.Checking.{IsChecking}
use Rattle.tree_query.proofs.checking.check_all.Given as goal

-- the candidates so far were checked
abbrev pub invariant-loop-index : goal.invariant-loop-index
invariant-loop-index g l = IsOf l.world l.pass × IsChecking l.shape l.mask (view_of l.initial.pass) (view_of l.pass) l.initial.finder l.finder l.next

abbrev pub decreases-loop-index : goal.decreases-loop-index
decreases-loop-index g l = room_of l.finder - l.next
