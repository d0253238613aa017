use Rattle.core_batch.proofs.BatchGuards.{GuardsHold-mark, GuardsHold-place_body, GuardsHold-take_back, GuardsHold-unmark}
use Rattle.core_batch.proofs.laws.held_bodies_are_guarded.Goals as goal

pub returns-clause-marks : goal.returns-clause-marks
returns-clause-marks c = GuardsHold-mark

pub returns-clause-places : goal.returns-clause-places
returns-clause-places c = GuardsHold-place_body

pub returns-clause-takes_back : goal.returns-clause-takes_back
returns-clause-takes_back c = GuardsHold-take_back

pub returns-clause-unmarks : goal.returns-clause-unmarks
returns-clause-unmarks c = GuardsHold-unmark
