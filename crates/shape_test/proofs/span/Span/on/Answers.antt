use Rattle.shape_test.proofs.Passing.{reaches_from_gap, IsSpanOn-from_run}
use Rattle.shape_test.proofs.span.Span.on.Goals as goal

pub of-requires-clause-near : goal.of-requires-clause-near
of-requires-clause-near c = (reaches_from_gap c.args.s.now c.args.b.now c.args.axis c.on.result c.on.ensures c.requires.near).0

pub of-requires-clause-far : goal.of-requires-clause-far
of-requires-clause-far c = (reaches_from_gap c.args.s.now c.args.b.now c.args.axis c.on.result c.on.ensures c.requires.near).1

pub returns : goal.returns
returns c = IsSpanOn-from_run c.args.s.now c.args.b.now c.args.axis c.on.result c.of.result c.on.ensures c.of.ensures
