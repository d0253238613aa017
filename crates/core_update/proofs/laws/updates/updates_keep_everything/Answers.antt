use Rattle.core_state.proofs.Forming.{IsFormed-event}
use Rattle.core_state.specs.Event.{of_updates}
use Rattle.core_update.proofs.UpdatesKeep.{updates-keep}
use Rattle.core_update.proofs.UpdatesWiden.{update_widens}
use Rattle.core_update.proofs.laws.updates.updates_keep_everything.Goals as goal

pub returns-clause-formed : goal.returns-clause-formed
returns-clause-formed c = λ before after event formed. IsFormed-event before after (of_updates event) formed

pub returns-clause-keeps : goal.returns-clause-keeps
returns-clause-keeps c = λ before after event formed guards h. (updates-keep before after event formed guards h).0

pub returns-clause-guarded : goal.returns-clause-guarded
returns-clause-guarded c = λ before after event formed h guards. (updates-keep before after event formed guards h).1

pub returns-clause-widens : goal.returns-clause-widens
returns-clause-widens c = λ before after h event formed. update_widens before after h formed event
