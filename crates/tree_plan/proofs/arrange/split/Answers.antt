use Rattle.std.proofs.Common.{◌≡◌, ◌∷◌, subst, rules, arith}
use Rattle.std.specs.Ordering.{nat_cmp}
use Rattle.std.specs.List.Sorted.{IsSplitAroundByKey}
use Rattle.std.proofs.lemmas.Fn.{always_returns_same}
use Rattle.std.proofs.lemmas.List.{length-append}
use Rattle.std.proofs.lemmas.List.Sorted.{length_permutation}
use Rattle.tree_plan.specs.Axes.{axis_number, key_of}
use Rattle.tree_plan.specs.Arranged.{IsSplit}
use Rattle.tree_plan.proofs.Splits.{IsSplit-from_around, put_together}
use Rattle.tree_plan.proofs.arrange.split.Goals as goal

pub copy_from_slice-requires-3 : goal.copy_from_slice-requires-3
copy_from_slice-requires-3 c =
    let whole = length_permutation _ _ c.select_nth_unstable_by_key-less.ensures.permutation in
    let parts = length-append c.select_nth_unstable_by_key-less.result.0.now (c.select_nth_unstable_by_key-less.result.1.now ∷ c.select_nth_unstable_by_key-less.result.2.now) in
    omega (arith, whole, parts, c.copy_from_slice.ensures.len, c.split_at_mut-part.ensures.front_len, c.split_at_mut-first.ensures.back_len, c.split_at_mut-one.ensures.back_len, c.select_nth_unstable_by_key-less.ensures.front_len)

pub returns-clause-split : goal.returns-clause-split
returns-clause-split c =
    let k = axis_number c.args.axis in
    let less = c.select_nth_unstable_by_key-less in
    let around : IsSplitAroundByKey (key_of k) nat_cmp less.result.0.now less.result.1.now less.result.2.now =
    less.ensures.partitioned (key_of k) (always_returns_same _ (λ a r. r ≡ key_of k a.0.now) _ (λ a r q h. search rules)) in
    subst (IsSplit k c.args.front) (put_together _ _ _ _ _ _ c.copy_from_slice-2.ensures.after c.split_at_mut-one.ensures.front_len c.copy_from_slice-3.ensures.after)
    (IsSplit-from_around k c.args.front less.result.0.now less.result.1.now less.result.2.now less.ensures.front_len around)
