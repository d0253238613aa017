use Rattle.core_update.proofs.BodyNotes.{Invariants-look_at_body, GuardsHold-look_at_body}
use Rattle.core_update.proofs.laws.noting.bodies_are_noted.Goals as goal

pub returns-clause-keeps : goal.returns-clause-keeps
returns-clause-keeps c = Invariants-look_at_body

pub returns-clause-guarded : goal.returns-clause-guarded
returns-clause-guarded c = GuardsHold-look_at_body
