use Rattle.core_query.proofs.Ended.{leads}
use Rattle.core_query.proofs.NextLoad.{once-more}
use Rattle.core_query.proofs.laws.nodes_are_walked_once.Goals as goal

pub returns-clause-so_far : goal.returns-clause-so_far
returns-clause-so_far c = λ core query seat number view all walking. (leads core all query seat number view walking).once

pub returns-clause-next : goal.returns-clause-next
returns-clause-next c = λ core query seat number view all walking. once-more core all query seat number view walking
