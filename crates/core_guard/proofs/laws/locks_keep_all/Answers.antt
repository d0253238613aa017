use Rattle.core_guard.proofs.LockKeep.{Invariants-reads, Invariants-writes, Invariants-releases}
use Rattle.core_guard.proofs.Opened.{Invariants-opens}
use Rattle.core_guard.proofs.laws.locks_keep_all.Goals as goal

pub returns-clause-opens : goal.returns-clause-opens
returns-clause-opens c = Invariants-opens

pub returns-clause-reads : goal.returns-clause-reads
returns-clause-reads c = Invariants-reads

pub returns-clause-writes : goal.returns-clause-writes
returns-clause-writes c = Invariants-writes

pub returns-clause-releases : goal.returns-clause-releases
returns-clause-releases c = Invariants-releases
