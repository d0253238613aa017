use Rattle.pass_table.proofs.LockSets.{drop-bit}
use Rattle.pass_table.proofs.lock_set.without_bit.Goals as goal

pub returns : goal.returns
returns c = drop-bit c.args.word c.args.at c.ranges.word.fits c.requires
