use Rattle.core_query.proofs.WalkSteps.{GuardsHold-begin_walk, GuardsHold-end_walk}
use Rattle.core_query.proofs.WalkLoads.{GuardsHold-walk_slot, GuardsHold-walk_main, GuardsHold-walk_child, GuardsHold-walk_bound}
use Rattle.core_query.proofs.laws.walks_are_guarded.Goals as goal

pub returns-clause-begins : goal.returns-clause-begins
returns-clause-begins c = GuardsHold-begin_walk

pub returns-clause-ends : goal.returns-clause-ends
returns-clause-ends c = GuardsHold-end_walk

pub returns-clause-slots : goal.returns-clause-slots
returns-clause-slots c = GuardsHold-walk_slot

pub returns-clause-mains : goal.returns-clause-mains
returns-clause-mains c = GuardsHold-walk_main

pub returns-clause-children : goal.returns-clause-children
returns-clause-children c = GuardsHold-walk_child

pub returns-clause-bounds : goal.returns-clause-bounds
returns-clause-bounds c = GuardsHold-walk_bound
