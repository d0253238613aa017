use Rattle.std.proofs.Common.{◌<◌}
use Rattle.std.specs.List.{AllWithin}
use Rattle.tree_plan.proofs.Extents.{Reached}
use Rattle.tree_plan.proofs.axis.extents_of.Given as goal

abbrev pub invariant-loop-body : goal.invariant-loop-body
invariant-loop-body l = record {
  indexes : AllWithin (λ b. b.0 < 4294967296) l.bodies 0 l.body-index;
  x : Reached 0 l.bodies l.body-index l.x.low l.x.high;
  y : Reached 1 l.bodies l.body-index l.y.low l.y.high;
  z : Reached 2 l.bodies l.body-index l.z.low l.z.high;
}
