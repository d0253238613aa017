use Rattle.std.proofs.Common.{subst}
use Rattle.pass_table.specs.Passes.{view_of}
use Rattle.body_lock.specs.Answers.{LockAnswers}
use Rattle.body_lock.proofs.Locking.{read-locked}
use Rattle.body_lock.proofs.read_op.LockReadOpOperation.turn.Goals as goal

pub returns-in-Done-Ok-clause-answers : goal.returns-in-Done-Ok-clause-answers
returns-in-Done-Ok-clause-answers c = λ first start so.
    let next = view_of c.turn.new.pass in
    read-locked c.args.self.now.locking first.locking start (view_of c.args.pass.now) next c.number.result c.number.ensures so
    (subst (LockAnswers first.locking.id first.locking.mode start next) c.in-Done-Ok.field-0-is (c.in-Done-Ok.ensures.answers first.locking start so.locking))
