use Rattle.std.proofs.Common.{arith}
use Rattle.body_ident.proofs.NumberLemmas.{no_number_unless_text}
use Rattle.body_ident.proofs.text.read_number.Goals as goal

-- bytes that are no text are the text of no number
pub returns-in_default-clause-none : goal.returns-in_default-clause-none
returns-in_default-clause-none c = λ n below e. no_number_unless_text _ n c.args.end c.in_default.ensures.cases.0 (omega (arith, c.ranges.end)) below e
