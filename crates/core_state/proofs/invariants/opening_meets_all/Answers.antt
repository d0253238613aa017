use Rattle.core_state.proofs.Opening.{Invariants-opening}
use Rattle.core_state.proofs.invariants.opening_meets_all.Goals as goal

pub returns : goal.returns
returns c = Invariants-opening
