use Rattle.std.proofs.Common.{arith}
use Rattle.std.proofs.lemmas.Nat.Bits.{bit_at_above}
use Rattle.std.proofs.lemmas.Bool.Decides.{nat_tests}
use Rattle.tree_query.proofs.checking.is_asked.Goals as goal

-- a mask of eight bits has no bit from the eighth on
pub returns-else-layer-lt-BITS : goal.returns-else-layer-lt-BITS
returns-else-layer-lt-BITS c = grind (arith, nat_tests, bit_at_above c.args.mask 8 c.args.layer c.ranges.mask.fits (omega arith))
