use Rattle.std.proofs.Common.{rules, arith}
use Rattle.tree_query.proofs.Sets.{none-beside, first-beside}
use Rattle.tree_query.proofs.bits.first_beside.Goals as goal

pub returns-then-rest-eq0-clause-none : goal.returns-then-rest-eq0-clause-none
returns-then-rest-eq0-clause-none c = none-beside c.args.words.now c.args.at c.if-rest-eq0.true

pub returns-clause-some : goal.returns-clause-some
returns-clause-some c = let some = c.if-rest-eq0.false in (first-beside c.args.words.now c.args.at (search rules) (omega arith)).0

pub returns-clause-beside : goal.returns-clause-beside
returns-clause-beside c = let some = c.if-rest-eq0.false in (first-beside c.args.words.now c.args.at (search rules) (omega arith)).1
