use Rattle.pass_table.specs.Passes.{view_of}
use Rattle.body_lock.proofs.Standing.{user-set}
use Rattle.body_lock.proofs.words.store_user.Goals as goal

pub returns-clause-set : goal.returns-clause-set
returns-clause-set c =
    user-set (view_of c.args.pass.now) (view_of c.step_16.new.pass) c.step_16.ensures.step.0 c.index.result c.args.id.index c.from.result c.args.user c.index.ensures.value c.from.ensures
    c.step_16.ensures.step.1
