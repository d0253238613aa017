use Rattle.std.proofs.Common.{rules, arith}
use Rattle.body_lock.proofs.Stripes.{none-above}
use Rattle.body_lock.proofs.Bits.{next-shifted, none-shifted}
use Rattle.body_lock.proofs.stripe_set.StripeSet.next.Goals as goal

pub returns-then-from-ge64-clause-none : goal.returns-then-from-ge64-clause-none
returns-then-from-ge64-clause-none c other above =
    let high = c.if-from-ge64.true in
    none-above c.args.self.bits other (search rules) (omega arith)

pub returns-then-rest-eq0-clause-none : goal.returns-then-rest-eq0-clause-none
returns-then-rest-eq0-clause-none c = none-shifted c.args.self.bits c.args.from c.if-rest-eq0.true

pub returns-clause-some : goal.returns-clause-some
returns-clause-some c =
    let some = c.if-rest-eq0.false in
    next-shifted c.args.self.bits c.args.from (search rules) (omega arith)
