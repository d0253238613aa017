use Rattle.batch_add.proofs.Unjoined.{undone-unjoined, unmarked-marked, unmarked-by, undone-known}
use Rattle.batch_add.proofs.laws.undone_marks_did_not_join.Goals as goal

pub returns-clause-between : goal.returns-clause-between
returns-clause-between c = undone-unjoined

pub returns-clause-before : goal.returns-clause-before
returns-clause-before c = unmarked-marked

pub returns-clause-own : goal.returns-clause-own
returns-clause-own c = unmarked-by

pub returns-clause-undone : goal.returns-clause-undone
returns-clause-undone c = undone-known
