use Rattle.std.proofs.Common.{◌≤◌, length}
use Rattle.side_by_side.proofs.plain.Plain.mark_all.Given as goal

abbrev pub invariant-loop-at : goal.invariant-loop-at
invariant-loop-at l = length l.ids ≤ 4
