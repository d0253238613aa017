use Rattle.pass_table.proofs.LockSets.{empty-high, some-low}
use Rattle.pass_table.proofs.lock_set.are_empty.Goals as goal

pub returns-then-low-eq0 : goal.returns-then-low-eq0
returns-then-low-eq0 c = empty-high c.args.low c.args.high c.if-low-eq0.true

pub returns-else-low-eq0 : goal.returns-else-low-eq0
returns-else-low-eq0 c = some-low c.args.low c.args.high c.ranges.low.fits c.if-low-eq0.false
