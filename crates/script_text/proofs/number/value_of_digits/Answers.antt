use Rattle.std.proofs.Common.{arith}
use Rattle.script_text.proofs.Digits.{value_more}
use Rattle.script_text.proofs.number.value_of_digits.Goals as goal

pub loop-digit-preserved : goal.loop-digit-preserved
loop-digit-preserved c =
    omega (arith, value_more c.args.digits.now c.loop-digit.digit-index c.requires c.loop-digit-test.true)
