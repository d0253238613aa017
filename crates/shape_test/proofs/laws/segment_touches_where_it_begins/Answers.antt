use Rattle.fixed_box.proofs.Shapes.{begins_within}
use Rattle.shape_test.proofs.laws.segment_touches_where_it_begins.Goals as goal

pub returns : goal.returns
returns c = λ s b h. (0, (1, begins_within s b h))
