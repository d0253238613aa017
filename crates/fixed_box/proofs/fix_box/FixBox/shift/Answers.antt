use Rattle.std.proofs.Common.{rules}
use Rattle.fixed_box.proofs.Order.{shifted_at_most}
use Rattle.fixed_box.proofs.fix_box.FixBox.shift.Goals as goal

pub invariant_of-result : goal.invariant_of-result
invariant_of-result c = record {
  ordered = record {
    three_lo = search rules;
    three_hi = search rules;
    at_most = shifted_at_most c.args.self.now.lo c.args.self.now.hi c.shift.result c.shift-then-can_shift.result c.args.v c.shift.ensures c.shift-then-can_shift.ensures c.args.self.now.ordered.at_most;
  };
}
