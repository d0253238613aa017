use Rattle.core_state.specs.declared.view.Mode.{Mode}
use Rattle.pass_table.specs.Passes.{view_of, IsOf}
use Rattle.body_lock.proofs.Stripes.{HasReleased}
use Rattle.body_lock.proofs.multi_guard.release_all.Given as goal

abbrev pub invariant-loop-stripe : goal.invariant-loop-stripe
invariant-loop-stripe l = IsOf l.world l.pass × ((mode : Mode) × HasReleased (view_of l.initial.pass) (view_of l.pass) l.held.bits mode)

abbrev pub decreases-loop-stripe : goal.decreases-loop-stripe
decreases-loop-stripe l = l.held.bits
