use Rattle.core_batch.proofs.HeldKeep.{Invariants-mark, Invariants-place_body, Invariants-take_back, Invariants-unmark}
use Rattle.core_batch.proofs.laws.held_bodies_keep_all.Goals as goal

pub returns-clause-marks : goal.returns-clause-marks
returns-clause-marks c = Invariants-mark

pub returns-clause-places : goal.returns-clause-places
returns-clause-places c = Invariants-place_body

pub returns-clause-takes_back : goal.returns-clause-takes_back
returns-clause-takes_back c = Invariants-take_back

pub returns-clause-unmarks : goal.returns-clause-unmarks
returns-clause-unmarks c = Invariants-unmark
