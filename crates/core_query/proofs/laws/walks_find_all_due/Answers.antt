use Rattle.core_query.proofs.Ended.{due_found}
use Rattle.core_query.proofs.laws.walks_find_all_due.Goals as goal

pub returns : goal.returns
returns c = λ core query seat number view all walking. due_found core all query seat number view walking
