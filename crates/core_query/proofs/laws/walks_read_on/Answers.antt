use Rattle.core_query.proofs.WalkLoads.{Invariants-walk_slot, Invariants-walk_main, Invariants-walk_child, Invariants-walk_bound}
use Rattle.core_query.proofs.laws.walks_read_on.Goals as goal

pub returns-clause-slots : goal.returns-clause-slots
returns-clause-slots c = Invariants-walk_slot

pub returns-clause-mains : goal.returns-clause-mains
returns-clause-mains c = Invariants-walk_main

pub returns-clause-children : goal.returns-clause-children
returns-clause-children c = Invariants-walk_child

pub returns-clause-bounds : goal.returns-clause-bounds
returns-clause-bounds c = Invariants-walk_bound
