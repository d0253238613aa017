use Rattle.pass_table.proofs.LockSets.{put-bit}
use Rattle.pass_table.proofs.lock_set.with_bit.Goals as goal

pub returns : goal.returns
returns c = put-bit c.args.word c.args.at c.requires
