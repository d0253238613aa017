use Rattle.core_state.proofs.Frames.{step-same, visits-same, joins-same}
use Rattle.core_state.proofs.invariants.steps_outside_a_scope_are_not_seen.Goals as goal

pub returns-clause-step : goal.returns-clause-step
returns-clause-step c = step-same

pub returns-clause-visits : goal.returns-clause-visits
returns-clause-visits c = visits-same

pub returns-clause-joins : goal.returns-clause-joins
returns-clause-joins c = joins-same
