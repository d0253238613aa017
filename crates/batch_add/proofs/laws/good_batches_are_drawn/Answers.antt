use Rattle.batch_add.proofs.Known.{drawn-now}
use Rattle.batch_add.proofs.laws.good_batches_are_drawn.Goals as goal

pub returns : goal.returns
returns c prepared view good current = drawn-now view prepared.number good.pass current prepared good.before good.batch good.after good.bodies good.is
