use Rattle.script_player.proofs.Marking.{HasMarked}
use Rattle.script_player.proofs.taking.mark.Given as goal

abbrev pub invariant-loop-known : goal.invariant-loop-known
invariant-loop-known l = HasMarked l.layer l.fn.scene l.scene l.bodies l.indexes.items l.known-index
