use Rattle.tree_plan.proofs.OnePlace.{body_somewhere, body_once, body_given}
use Rattle.tree_plan.proofs.laws.body_stands_once.Goals as goal

pub returns-clause-somewhere : goal.returns-clause-somewhere
returns-clause-somewhere c = body_somewhere

pub returns-clause-once : goal.returns-clause-once
returns-clause-once c = body_once

pub returns-clause-given : goal.returns-clause-given
returns-clause-given c = body_given
