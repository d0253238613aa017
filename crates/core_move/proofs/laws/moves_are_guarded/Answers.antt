use Rattle.core_move.proofs.WidenSteps.{GuardsHold-widen_low, GuardsHold-widen_high}
use Rattle.core_move.proofs.SideStores.{GuardsHold-store_side}
use Rattle.core_move.proofs.LastStores.{GuardsHold-store_last_side}
use Rattle.core_move.proofs.laws.moves_are_guarded.Goals as goal

pub returns-clause-low : goal.returns-clause-low
returns-clause-low c = GuardsHold-widen_low

pub returns-clause-high : goal.returns-clause-high
returns-clause-high c = GuardsHold-widen_high

pub returns-clause-sides : goal.returns-clause-sides
returns-clause-sides c = GuardsHold-store_side

pub returns-clause-last : goal.returns-clause-last
returns-clause-last c = GuardsHold-store_last_side
