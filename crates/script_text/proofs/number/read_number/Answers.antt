use Rattle.std.proofs.Common.{◌≡◌, ◌^◌, ℤ, to_z, of_z, w64, arith, rules}
use Rattle.std.proofs.lemmas.Int.{ints}
use Rattle.script_text.proofs.Numbers.{read_number, number_below, number_above}
use Rattle.script_text.proofs.number.read_number.Goals as goal

pub returns-then-number-lo : goal.returns-then-number-lo
returns-then-number-lo c =
    number_below (2 ^ 40) c.args.word.now c.args.lo c.args.hi c.value_of-number.result (search rules) c.value_of-number.ensures (omega (arith, ints)) (omega (arith, ints)) (grind (arith, ints))

pub returns-then-hi-number : goal.returns-then-hi-number
returns-then-hi-number c =
    number_above (2 ^ 40) c.args.word.now c.args.lo c.args.hi c.value_of-number.result (search rules) c.value_of-number.ensures (omega (arith, ints)) (omega (arith, ints)) (grind (arith, ints))

pub returns : goal.returns
returns c =
    let n : ℤ = c.value_of-number.result in
    let same : to_z w64 (of_z w64 n) ≡ n = omega (arith, ints) in
    rw same (read_number (2 ^ 40) c.args.word.now c.args.lo c.args.hi n (omega arith) (search rules) c.value_of-number.ensures (omega (arith, ints)) (omega (arith, ints)) (grind (arith, ints)) (grind (arith, ints)))
