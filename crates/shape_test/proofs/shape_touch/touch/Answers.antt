use Rattle.std.proofs.Common.{rules}
use Rattle.shape_test.proofs.Arrivals.{same_from_Touch}
use Rattle.shape_test.proofs.shape_touch.touch.Goals as goal

pub returns-in-Segment-clause-exact : goal.returns-in-Segment-clause-exact
returns-in-Segment-clause-exact c = same_from_Touch c.args.shape.now c.args.b.now c.is_some.result (search rules)
