use Rattle.core_update.proofs.PlacingWidens.{Invariants-widen_low_placing, Invariants-widen_high_placing, GuardsHold-widen_low_placing, GuardsHold-widen_high_placing, widen_low_placing-widens, widen_high_placing-widens}
use Rattle.core_update.proofs.laws.placing.bounds_are_widened_to_place.Goals as goal

pub returns-clause-low : goal.returns-clause-low
returns-clause-low c = Invariants-widen_low_placing

pub returns-clause-high : goal.returns-clause-high
returns-clause-high c = Invariants-widen_high_placing

pub returns-clause-low_guarded : goal.returns-clause-low_guarded
returns-clause-low_guarded c = GuardsHold-widen_low_placing

pub returns-clause-high_guarded : goal.returns-clause-high_guarded
returns-clause-high_guarded c = GuardsHold-widen_high_placing

pub returns-clause-low_widens : goal.returns-clause-low_widens
returns-clause-low_widens c = widen_low_placing-widens

pub returns-clause-high_widens : goal.returns-clause-high_widens
returns-clause-high_widens c = widen_high_placing-widens
