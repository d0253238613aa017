use Rattle.script_text.proofs.Parsing.{HasAdded}
use Rattle.std.proofs.Common.{length}
use Rattle.script_text.proofs.reading.add_lines.Given as goal

abbrev pub invariant-loop-line : goal.invariant-loop-line
invariant-loop-line l = HasAdded l.fn.draft l.fn.text l.draft l.number l.rest

abbrev pub decreases-loop-line : goal.decreases-loop-line
decreases-loop-line l = length l.rest
