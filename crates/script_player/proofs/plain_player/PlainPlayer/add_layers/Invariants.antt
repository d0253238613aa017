use Rattle.script_player.proofs.Layers.{HasAdded}
use Rattle.script_player.proofs.plain_player.PlainPlayer.add_layers.Given as goal

abbrev pub invariant-loop-layer : goal.invariant-loop-layer
invariant-loop-layer l = HasAdded l.fn.self l.self l.bodies l.layers l.layer
