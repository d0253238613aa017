use Rattle.pass_table.proofs.Working.{adds-then, tells-then}
use Rattle.pass_table.proofs.laws.calls_follow_each_other.Goals as goal

pub returns-clause-adds : goal.returns-clause-adds
returns-clause-adds c = adds-then

pub returns-clause-tells : goal.returns-clause-tells
returns-clause-tells c = tells-then
