use Rattle.std.proofs.Common.{◌<◌, subst, arith}
use Rattle.std.specs.List.{AllWithin}
use Rattle.std.proofs.lemmas.List.Elements.{AllWithin-none, AllWithin-more, at_read, All-from_all_within}
use Rattle.tree_plan.proofs.Extents.{Reached-none, Reached-more, Reached-all}
use Rattle.tree_plan.proofs.axis.extents_of.Goals as goal

pub loop-body-init : goal.loop-body-init
loop-body-init c = record {
  indexes = AllWithin-none (λ b. b.0 < 4294967296) _ 0;
  x = Reached-none 0 _ _ _ _ c.requires c.index-bodies-0.is c.of-x.ensures.low c.of-x.ensures.high c.of-x.ensures.in_range;
  y = Reached-none 1 _ _ _ _ c.requires c.index-bodies-0.is c.of-y.ensures.low c.of-y.ensures.high c.of-y.ensures.in_range;
  z = Reached-none 2 _ _ _ _ c.requires c.index-bodies-0.is c.of-z.ensures.low c.of-z.ensures.high c.of-z.ensures.in_range;
}

pub loop-body-preserved : goal.loop-body-preserved
loop-body-preserved c = record {
  indexes =
      AllWithin-more (λ b. b.0 < 4294967296) _ 0 _ c.loop-body.invariant.indexes
      (at_read _ (λ b. b.0 < 4294967296) _ _ c.loop-body-test.true c.body-item.is (subst (λ k. k < 4294967296) c.index_of-index.ensures.value c.index_of-index.ensures.small));
  x = Reached-more 0 _ _ _ _ _ _ _ c.loop-body.invariant.x c.loop-body-test.true c.body-item.is c.with-x.ensures.low c.with-x.ensures.high c.with-x.ensures.low_in c.with-x.ensures.high_in;
  y = Reached-more 1 _ _ _ _ _ _ _ c.loop-body.invariant.y c.loop-body-test.true c.body-item.is c.with-y.ensures.low c.with-y.ensures.high c.with-y.ensures.low_in c.with-y.ensures.high_in;
  z = Reached-more 2 _ _ _ _ _ _ _ c.loop-body.invariant.z c.loop-body-test.true c.body-item.is c.with-z.ensures.low c.with-z.ensures.high c.with-z.ensures.low_in c.with-z.ensures.high_in;
}

pub returns-clause-x : goal.returns-clause-x
returns-clause-x c = Reached-all 0 _ _ _ _ c.requires (omega arith) c.loop-body.invariant.x

pub returns-clause-y : goal.returns-clause-y
returns-clause-y c = Reached-all 1 _ _ _ _ c.requires (omega arith) c.loop-body.invariant.y

pub returns-clause-z : goal.returns-clause-z
returns-clause-z c = Reached-all 2 _ _ _ _ c.requires (omega arith) c.loop-body.invariant.z

pub returns-clause-indexes : goal.returns-clause-indexes
returns-clause-indexes c =
    All-from_all_within (λ b. b.0 < 4294967296) _ (subst (λ n. AllWithin (λ b. b.0 < 4294967296) c.args.bodies.now 0 n) (omega arith) c.loop-body.invariant.indexes)
