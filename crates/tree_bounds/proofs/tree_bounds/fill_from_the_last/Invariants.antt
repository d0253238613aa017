use Rattle.std.proofs.Common.{◌≡◌, ◌-◌, length}
use Rattle.tree_plan.specs.Plan.{HaveBoxesOf}
use Rattle.tree_bounds.specs.Held.{bound_in}
use Rattle.tree_bounds.proofs.Filling.{AreBoundsFrom}
use Rattle.tree_bounds.proofs.tree_bounds.fill_from_the_last.Given as goal

abbrev pub invariant-loop-done : goal.invariant-loop-done
invariant-loop-done l =
    AreBoundsFrom l.bodies l.planner (bound_in l.bounds) (l.places - l.done) × HaveBoxesOf l.bodies l.planner l.bounds × (length l.bounds ≡ length l.initial.bounds)
