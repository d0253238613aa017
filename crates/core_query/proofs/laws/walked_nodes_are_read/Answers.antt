use Rattle.core_state.specs.Walking.{asked_words}
use Rattle.core_query.proofs.Finding.{asked-layers}
use Rattle.core_query.proofs.Recording.{whole-record}
use Rattle.core_query.proofs.Ended.{leads}
use Rattle.core_query.proofs.Walked.{read-walked, walked-read, candidate-found, found-candidate}
use Rattle.core_query.proofs.laws.walked_nodes_are_read.Goals as goal

pub returns-clause-read : goal.returns-clause-read
returns-clause-read c = λ core query seat number view all walking end.
    walked-read query (asked_words core.config query.mask) view.walk.loads (whole-record core.config query view.walk.loads walking.follows end) (asked-layers core.config query.mask)
    (leads core all query seat number view walking).once

pub returns-clause-only : goal.returns-clause-only
returns-clause-only c = λ config query loads follows end. read-walked query (asked_words config query.mask) loads (whole-record config query loads follows end) (asked-layers config query.mask)

pub returns-clause-found : goal.returns-clause-found
returns-clause-found c = λ core query seat number view all walking end.
    candidate-found query (asked_words core.config query.mask) view.walk.loads (whole-record core.config query view.walk.loads walking.follows end) (asked-layers core.config query.mask)
    (leads core all query seat number view walking).once

pub returns-clause-candidates : goal.returns-clause-candidates
returns-clause-candidates c = found-candidate
