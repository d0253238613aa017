use Rattle.fixed_box.proofs.Shapes.{Touch-outward}
use Rattle.fixed_box.proofs.laws.touch_reaches_outward.Goals as goal

pub returns : goal.returns
returns c = Touch-outward
