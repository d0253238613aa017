use Rattle.core_move.proofs.WidenSteps.{widen_low-widens, widen_high-widens}
use Rattle.core_move.proofs.laws.widened_bounds_only_widen.Goals as goal

pub returns-clause-low : goal.returns-clause-low
returns-clause-low c = widen_low-widens

pub returns-clause-high : goal.returns-clause-high
returns-clause-high c = widen_high-widens
