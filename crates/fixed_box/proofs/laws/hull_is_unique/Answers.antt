use Rattle.fixed_box.proofs.Boxes.{hull_is_unique}
use Rattle.fixed_box.proofs.laws.hull_is_unique.Goals as goal

pub returns : goal.returns
returns c = hull_is_unique
