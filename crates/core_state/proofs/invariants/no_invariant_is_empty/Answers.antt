use Rattle.core_state.proofs.Breaking.{bit_of_nobody-breaks, body_of_nothing-breaks, miscounted_pool-breaks, endless_tree-breaks, body_without_entry-breaks, body_without_location-breaks, walk_past_a_body-breaks, uncounted_reader-breaks}
use Rattle.core_state.proofs.Queries.{query_of}
use Rattle.core_state.proofs.invariants.no_invariant_is_empty.Goals as goal

pub returns-clause-locks : goal.returns-clause-locks
returns-clause-locks c = bit_of_nobody-breaks

pub returns-clause-bodies : goal.returns-clause-bodies
returns-clause-bodies c = body_of_nothing-breaks

pub returns-clause-nodes : goal.returns-clause-nodes
returns-clause-nodes c = miscounted_pool-breaks

pub returns-clause-trees : goal.returns-clause-trees
returns-clause-trees c = endless_tree-breaks

pub returns-clause-locations : goal.returns-clause-locations
returns-clause-locations c = body_without_entry-breaks

pub returns-clause-cover : goal.returns-clause-cover
returns-clause-cover c = body_without_location-breaks

pub returns-clause-walks : goal.returns-clause-walks
returns-clause-walks c = walk_past_a_body-breaks

pub returns-clause-readers : goal.returns-clause-readers
returns-clause-readers c = uncounted_reader-breaks

pub returns-clause-queries : goal.returns-clause-queries
returns-clause-queries c = query_of
