use Rattle.fixed_box.proofs.Boxes.{hull_with_itself}
use Rattle.fixed_box.proofs.laws.hull_with_itself.Goals as goal

pub returns : goal.returns
returns c = hull_with_itself
