use Rattle.core_query.proofs.Stacks.{next-of_world}
use Rattle.core_query.proofs.Ended.{leads}
use Rattle.core_query.proofs.NextLoad.{bodies-more}
use Rattle.core_query.proofs.laws.walks_stay_in_the_world.Goals as goal

pub returns-clause-words : goal.returns-clause-words
returns-clause-words c = λ core query seat number view all walking. next-of_world core all query seat number view walking

pub returns-clause-bodies : goal.returns-clause-bodies
returns-clause-bodies c = λ core query seat number view all walking. bodies-more core all query seat number view walking

pub returns-clause-candidates : goal.returns-clause-candidates
returns-clause-candidates c = λ core query seat number view all walking index candidate.
    (leads core all query seat number view walking).bodies candidate.0 candidate.1 index candidate.2
