use Rattle.core_update.proofs.UpdateBegins.{Invariants-begin_update, GuardsHold-begin_update}
use Rattle.core_update.proofs.laws.noting.updates_begin.Goals as goal

pub returns-clause-keeps : goal.returns-clause-keeps
returns-clause-keeps c = Invariants-begin_update

pub returns-clause-guarded : goal.returns-clause-guarded
returns-clause-guarded c = GuardsHold-begin_update
