use Rattle.std.proofs.Common.{refl}
use Rattle.tree_plan.proofs.Slots.{IsNumbered-start}
use Rattle.tree_plan.proofs.Boxes.{HaveBoxes-none}
use Rattle.tree_plan.proofs.numbering.number_nodes.Goals as goal

pub loop-slot-init : goal.loop-slot-init
loop-slot-init c = (IsNumbered-start _ _ _ _ _ c.requires.some c.requires.nodes c.requires.room c.requires.places refl refl refl, HaveBoxes-none _ _ _, refl)
