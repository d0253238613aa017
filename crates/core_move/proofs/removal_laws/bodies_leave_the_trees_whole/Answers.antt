use Rattle.core_move.proofs.NowhereThen.{no-entry, nowhere-out, to_be_given_up, left-whole}
use Rattle.core_move.proofs.removal_laws.bodies_leave_the_trees_whole.Goals as goal

pub returns-clause-ends : goal.returns-clause-ends
returns-clause-ends c = left-whole

pub returns-clause-out : goal.returns-clause-out
returns-clause-out c = nowhere-out

pub returns-clause-located : goal.returns-clause-located
returns-clause-located c = no-entry

pub returns-clause-planned : goal.returns-clause-planned
returns-clause-planned c = λ core index formed h. to_be_given_up core index h formed
