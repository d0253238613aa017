use Rattle.pass_table.proofs.Events.{Invariants-event, GuardsHold-event, all-run}
use Rattle.pass_table.proofs.laws.events_keep_all.Goals as goal

pub returns-clause-event : goal.returns-clause-event
returns-clause-event c = Invariants-event

pub returns-clause-guards : goal.returns-clause-guards
returns-clause-guards c = GuardsHold-event

pub returns-clause-run : goal.returns-clause-run
returns-clause-run c = λ config last sizes run. (all-run config last sizes run).laws

pub returns-clause-run_guards : goal.returns-clause-run_guards
returns-clause-run_guards c = λ config last sizes run. (all-run config last sizes run).guards
