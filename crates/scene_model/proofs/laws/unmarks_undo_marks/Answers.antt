use Rattle.scene_model.proofs.Batches.{marks_then_unmarks, marks_then_unmarks_lawful}
use Rattle.scene_model.proofs.laws.unmarks_undo_marks.Goals as goal

pub returns-clause-lawful : goal.returns-clause-lawful
returns-clause-lawful c = marks_then_unmarks_lawful

pub returns-clause-undone : goal.returns-clause-undone
returns-clause-undone c = marks_then_unmarks
