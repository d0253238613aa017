use Rattle.script_player.proofs.Marking.{HasUnmarked}
use Rattle.script_player.proofs.taking.unmark.Given as goal

abbrev pub invariant-loop-index : goal.invariant-loop-index
invariant-loop-index l = HasUnmarked l.fn.scene l.scene l.indexes l.index-index
