use Rattle.std.proofs.Common.{arith, ◌≡◌, ◌+ℤ◌, to_z, of_z, w64}
use Rattle.std.proofs.lemmas.Int.{ints}
use Rattle.fixed_box.proofs.coord.Coord.can_shift.Goals as goal

pub returns : goal.returns
returns c =
    let s : to_z w64 (of_z w64 (to_z w64 (of_z w64 c.from.result) +ℤ to_z w64 (of_z w64 c.from-2.result))) ≡ c.args.self.value +ℤ c.args.by = omega (arith, ints) in
    rw s (grind (arith, ints))
