use Rattle.std.proofs.Common.{◌≡◌, ◌+ℤ◌, ◌-ℤ◌, to_z, of_z, w32, ◌∙◌, arith}
use Rattle.std.proofs.lemmas.Int.{ints, clamps}
use Rattle.fixed_box.specs.Corner.{on_axis, along}
use Rattle.shape_test.proofs.gap.gap.Goals as goal

pub overflow_sub-above : goal.overflow_sub-above
overflow_sub-above c = omega (arith, ints, clamps)

pub overflow_sub-below : goal.overflow_sub-below
overflow_sub-below c = omega (arith, ints, clamps)

pub returns : goal.returns
returns c =
    let s = c.args.s.now in
    let b = c.args.b.now in
    let axis = c.args.axis in
    let begin : to_z w32 (of_z w32 c.coordinate-begin.result) ≡ on_axis s.o axis = omega (arith, ints) in
    let end : to_z w32 (of_z w32 (to_z w32 (of_z w32 c.coordinate-begin.result) +ℤ to_z w32 (of_z w32 c.step.result))) ≡ on_axis s.o axis +ℤ along s.d axis = omega (arith, ints) in
    let most = rw (end, begin) at c.max.ensures.value in
    let least = rw (end, begin) at c.min.ensures.value in
    let above : to_z w32 (of_z w32 (to_z w32 (of_z w32 c.coordinate.result) -ℤ to_z w32 (of_z w32 c.max.result))) ≡ on_axis b.lo axis -ℤ c.max.result = omega (arith, ints, clamps) in
    let below : to_z w32 (of_z w32 (to_z w32 (of_z w32 c.min.result) -ℤ to_z w32 (of_z w32 c.coordinate-2.result))) ≡ c.min.result -ℤ on_axis b.hi axis = omega (arith, ints, clamps) in
    let whole : to_z w32 (of_z w32 c.max-2.result) ≡ c.max-2.result = omega (arith, ints) in
    whole ∙ (rw (above, below, most, least) at c.max-2.ensures.value)
