use Rattle.core_update.proofs.ReturnedLinks.{Invariants-link_returned, GuardsHold-link_returned}
use Rattle.core_update.proofs.laws.retiring.returned_nodes_are_linked.Goals as goal

pub returns-clause-keeps : goal.returns-clause-keeps
returns-clause-keeps c = Invariants-link_returned

pub returns-clause-guarded : goal.returns-clause-guarded
returns-clause-guarded c = GuardsHold-link_returned
