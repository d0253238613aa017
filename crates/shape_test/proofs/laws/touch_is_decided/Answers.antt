use Rattle.shape_test.proofs.Arrivals.{is_within_at_decides, is_touched_decides}
use Rattle.shape_test.proofs.laws.touch_is_decided.Goals as goal

pub returns-clause-touch : goal.returns-clause-touch
returns-clause-touch c = is_touched_decides

pub returns-clause-within : goal.returns-clause-within
returns-clause-within c = is_within_at_decides
