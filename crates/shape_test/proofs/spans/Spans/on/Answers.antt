use Rattle.std.proofs.lemmas.Bool.{both_ways}
use Rattle.shape_test.proofs.Passing.{gap_from_between}
use Rattle.shape_test.proofs.spans.Spans.on.Goals as goal

pub returns-else-touches_bounds-clause-none : goal.returns-else-touches_bounds-clause-none
returns-else-touches_bounds-clause-none c = λ t.
    let w = t.1.1 in
    let gap = gap_from_between c.args.s.now c.args.b.now in
    both_ways _ c.if-touches_bounds.false (c.touches_bounds.ensures.1 (
      gap 0 t.0 t.1.0 w.nonzero w.at_most_one w.between.0,
      gap 1 t.0 t.1.0 w.nonzero w.at_most_one w.between.1,
      gap 2 t.0 t.1.0 w.nonzero w.at_most_one w.between.2,
    ))
