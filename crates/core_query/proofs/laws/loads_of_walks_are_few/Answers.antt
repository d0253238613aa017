use Rattle.core_query.proofs.Counted.{loads-few}
use Rattle.core_query.proofs.laws.loads_of_walks_are_few.Goals as goal

pub returns : goal.returns
returns c = λ core query seat number view all walking. loads-few core all query seat number view walking
