use Rattle.pass_table.proofs.Events.{all-run}
use Rattle.pass_table.proofs.Widening.{event_widens, for_update}
use Rattle.pass_table.proofs.laws.bounds_only_widen.Goals as goal

pub returns-clause-event : goal.returns-clause-event
returns-clause-event c = λ before after h event formed. event_widens before after h event formed

pub returns-clause-run : goal.returns-clause-run
returns-clause-run c = λ config last next h sizes run event. event_widens last next h event (for_update last next event (all-run config last sizes run).formed)
