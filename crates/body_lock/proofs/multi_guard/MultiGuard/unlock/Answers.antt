use Rattle.pass_table.proofs.Working.{done-keeps}
use Rattle.body_lock.proofs.multi_guard.MultiGuard.unlock.Goals as goal

pub returns-clause-keeps : goal.returns-clause-keeps
returns-clause-keeps c = done-keeps _ _ _ c.release_all.ensures.done
