use Rattle.script_player.proofs.Told.{late_legal, never_legal}
use Rattle.script_player.proofs.examples.late_answer_is_legal.Goals as goal

pub returns-clause-legal : goal.returns-clause-legal
returns-clause-legal c = late_legal

pub returns-clause-never : goal.returns-clause-never
returns-clause-never c = never_legal
