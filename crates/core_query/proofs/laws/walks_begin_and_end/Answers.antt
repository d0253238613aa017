use Rattle.core_query.proofs.WalkSteps.{Invariants-begin_walk, Invariants-end_walk}
use Rattle.core_query.proofs.laws.walks_begin_and_end.Goals as goal

pub returns-clause-begins : goal.returns-clause-begins
returns-clause-begins c = Invariants-begin_walk

pub returns-clause-ends : goal.returns-clause-ends
returns-clause-ends c = Invariants-end_walk
