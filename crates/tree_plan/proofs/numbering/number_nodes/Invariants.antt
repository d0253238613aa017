use Rattle.std.proofs.Common.{◌≡◌, length}
use Rattle.tree_plan.specs.Numbering.{IsNumbered, HaveBoxes}
use Rattle.tree_plan.proofs.numbering.number_nodes.Given as goal

abbrev pub invariant-loop-slot : goal.invariant-loop-slot
invariant-loop-slot l = IsNumbered l.bodies l.runs l.children l.nodes l.count l.slot × HaveBoxes l.bodies l.children l.boxes l.slot × (length l.boxes ≡ length l.initial.boxes)
