use Rattle.std.proofs.Common.{◌≡◌, ◌-ℤ◌, to_z, of_z, w32, ◌∙◌, arith}
use Rattle.std.proofs.lemmas.Int.{ints}
use Rattle.fixed_box.specs.Corner.{on_axis}
use Rattle.shape_test.proofs.shape_touch.gap.Goals as goal

pub returns : goal.returns
returns c =
    let p = c.args.p.now in
    let b = c.args.b.now in
    let axis = c.args.axis in
    let below : to_z w32 (of_z w32 (to_z w32 (of_z w32 c.coordinate.result) -ℤ to_z w32 (of_z w32 c.coordinate-at.result))) ≡ on_axis b.lo axis -ℤ on_axis p axis = omega (arith, ints) in
    let above : to_z w32 (of_z w32 (to_z w32 (of_z w32 c.coordinate-at.result) -ℤ to_z w32 (of_z w32 c.coordinate-2.result))) ≡ on_axis p axis -ℤ on_axis b.hi axis = omega (arith, ints) in
    let whole : to_z w32 (of_z w32 c.max.result) ≡ c.max.result = omega (arith, ints) in
    whole ∙ (rw (below, above) at c.max.ensures.value)
