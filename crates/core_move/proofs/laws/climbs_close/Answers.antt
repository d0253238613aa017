use Rattle.core_move.proofs.Closing as closing
use Rattle.core_move.proofs.laws.climbs_close.Goals as goal

pub returns-clause-climbed : goal.returns-clause-climbed
returns-clause-climbed c = closing.climbs-close

pub returns-clause-moved : goal.returns-clause-moved
returns-clause-moved c = closing.moved-enclosed
