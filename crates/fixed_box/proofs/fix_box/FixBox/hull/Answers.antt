use Rattle.std.proofs.Common.{rules}
use Rattle.fixed_box.proofs.Boxes.{hull_at_most, IsHull-from_corners}
use Rattle.fixed_box.proofs.fix_box.FixBox.hull.Goals as goal

pub invariant_of-result : goal.invariant_of-result
invariant_of-result c = record {
  ordered = record {
    three_lo = search rules;
    three_hi = search rules;
    at_most = hull_at_most c.args.self.now c.args.other.now c.least.result c.greatest.result c.least.ensures c.greatest.ensures;
  };
}

pub returns : goal.returns
returns c = IsHull-from_corners c.args.self.now c.args.other.now _ c.least.ensures c.greatest.ensures
