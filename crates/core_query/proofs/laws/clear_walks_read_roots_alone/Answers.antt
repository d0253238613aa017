use Rattle.core_query.proofs.Cleared.{clear-few, clear-not_found, clear-no_candidate}
use Rattle.core_query.proofs.laws.clear_walks_read_roots_alone.Goals as goal

pub returns-clause-loads : goal.returns-clause-loads
returns-clause-loads c = λ core query seat number view all walking. clear-few core all query seat number view walking

pub returns-clause-found : goal.returns-clause-found
returns-clause-found c = λ core query seat number view all walking. clear-not_found core all query seat number view walking

pub returns-clause-candidates : goal.returns-clause-candidates
returns-clause-candidates c = λ core query seat number view all walking. clear-no_candidate core all query seat number view walking
