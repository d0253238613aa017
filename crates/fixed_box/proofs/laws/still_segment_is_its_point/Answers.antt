use Rattle.fixed_box.proofs.Shapes.{Touch-still}
use Rattle.fixed_box.proofs.laws.still_segment_is_its_point.Goals as goal

pub returns : goal.returns
returns c = Touch-still
