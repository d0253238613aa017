use Rattle.std.proofs.Common.{rules, arith}
use Rattle.body_lock.proofs.Bits.{takes-first}
use Rattle.body_lock.proofs.stripe_set.StripeSet.take_first.Goals as goal

pub returns-clause-some : goal.returns-clause-some
returns-clause-some c =
    let bits = c.args.self.now.bits in
    let some = c.if-bits-eq0.false in
    takes-first bits (omega arith) (search rules)
