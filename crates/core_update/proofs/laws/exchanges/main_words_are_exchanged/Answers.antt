use Rattle.core_update.proofs.MainNodes.{Invariants-exchange_main}
use Rattle.core_update.proofs.PublishGuards.{GuardsHold-exchange_main}
use Rattle.core_update.proofs.laws.exchanges.main_words_are_exchanged.Goals as goal

pub returns-clause-keeps : goal.returns-clause-keeps
returns-clause-keeps c = Invariants-exchange_main

pub returns-clause-guarded : goal.returns-clause-guarded
returns-clause-guarded c = GuardsHold-exchange_main
