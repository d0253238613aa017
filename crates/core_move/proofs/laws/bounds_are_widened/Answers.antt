use Rattle.core_move.proofs.WidenSteps.{Invariants-widen_low, Invariants-widen_high}
use Rattle.core_move.proofs.laws.bounds_are_widened.Goals as goal

pub returns-clause-low : goal.returns-clause-low
returns-clause-low c = Invariants-widen_low

pub returns-clause-high : goal.returns-clause-high
returns-clause-high c = Invariants-widen_high
