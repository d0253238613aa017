use Rattle.std.proofs.Common.{arith}
use Rattle.core_query.proofs.Stacks.{level-low, stack-room, standing-few}
use Rattle.core_query.proofs.laws.stacks_of_walks_are_short.Goals as goal

pub returns-clause-levels : goal.returns-clause-levels
returns-clause-levels c = λ core query seat number view all walking. level-low core all query seat number view walking

pub returns-clause-nodes : goal.returns-clause-nodes
returns-clause-nodes c = λ core query seat number view all walking. standing-few core all query seat number view walking

pub returns-clause-room : goal.returns-clause-room
returns-clause-room c = λ core query seat number view all walking. let room = stack-room core all query seat number view walking in omega arith
