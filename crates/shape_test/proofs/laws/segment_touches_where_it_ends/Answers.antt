use Rattle.shape_test.proofs.Places.{ends_within}
use Rattle.shape_test.proofs.laws.segment_touches_where_it_ends.Goals as goal

pub returns : goal.returns
returns c = λ s b end e h. (1, (1, ends_within s b end e h))
