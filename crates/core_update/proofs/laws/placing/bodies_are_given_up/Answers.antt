use Rattle.core_update.proofs.GivenUpSteps.{Invariants-give_up, GuardsHold-give_up}
use Rattle.core_update.proofs.laws.placing.bodies_are_given_up.Goals as goal

pub returns-clause-keeps : goal.returns-clause-keeps
returns-clause-keeps c = Invariants-give_up

pub returns-clause-guarded : goal.returns-clause-guarded
returns-clause-guarded c = GuardsHold-give_up
