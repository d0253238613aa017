use Rattle.core_update.proofs.ReaderLoads.{GuardsHold-load_reader}
use Rattle.core_update.proofs.Reclaims.{Invariants-load_reader}
use Rattle.core_update.proofs.laws.retiring.readers_are_loaded.Goals as goal

pub returns-clause-keeps : goal.returns-clause-keeps
returns-clause-keeps c = Invariants-load_reader

pub returns-clause-guarded : goal.returns-clause-guarded
returns-clause-guarded c = GuardsHold-load_reader
