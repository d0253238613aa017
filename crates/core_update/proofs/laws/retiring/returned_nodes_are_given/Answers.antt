use Rattle.core_update.proofs.ReturnedHeads.{Invariants-give_returned, GuardsHold-give_returned}
use Rattle.core_update.proofs.laws.retiring.returned_nodes_are_given.Goals as goal

pub returns-clause-keeps : goal.returns-clause-keeps
returns-clause-keeps c = Invariants-give_returned

pub returns-clause-guarded : goal.returns-clause-guarded
returns-clause-guarded c = GuardsHold-give_returned
