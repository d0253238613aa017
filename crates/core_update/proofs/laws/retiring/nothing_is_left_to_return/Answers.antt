use Rattle.core_update.proofs.Unreached.{nothing-left-to-return}
use Rattle.core_update.proofs.laws.retiring.nothing_is_left_to_return.Goals as goal

pub returns : goal.returns
returns c = nothing-left-to-return
