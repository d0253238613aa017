use Rattle.tree_query.proofs.Ranges.{ids-ascend, ids-of_found, found-in_ids}
use Rattle.tree_query.proofs.laws.ids_are_those_found.Goals as goal

pub returns-clause-ascending : goal.returns-clause-ascending
returns-clause-ascending c = ids-ascend

pub returns-clause-all : goal.returns-clause-all
returns-clause-all c = λ finder id. (ids-of_found finder id, λ is. found-in_ids finder id is.0 is.1 is.2)
