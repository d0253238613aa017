use Rattle.core_state.proofs.Steps.{event-prefix, run-prefix, event-one}
use Rattle.core_state.proofs.laws.events_only_add.Goals as goal

pub returns-clause-event : goal.returns-clause-event
returns-clause-event c = event-prefix

pub returns-clause-run : goal.returns-clause-run
returns-clause-run c = run-prefix

pub returns-clause-views : goal.returns-clause-views
returns-clause-views c = event-one
