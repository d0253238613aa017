use Rattle.std.proofs.Common.{◌≡◌, ◌+◌, ◌<◌, ◌≤◌, ◌++◌, length, drop, decimal}
use Rattle.body_ident.proofs.text.put_digits.Given as goal

-- the digits of what is left of the number go before those that stand already
abbrev pub invariant-loop-rest : goal.invariant-loop-rest
invariant-loop-rest l = record {
  room : length (decimal l.rest) ≤ l.at + 1;
  within : l.at < length l.text;
  start : l.at + 1 + length (decimal l.fn.number) ≡ l.fn.end + length (decimal l.rest);
  digits : decimal l.rest ++ drop (l.at + 1) l.text ≡ decimal l.fn.number ++ drop l.fn.end l.fn.text;
}

abbrev pub decreases-loop-rest : goal.decreases-loop-rest
decreases-loop-rest l = l.rest
