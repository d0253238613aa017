use Rattle.world_host.proofs.AddedLayers.{HasAdded}
use Rattle.world_host.proofs.serial_world.SerialWorld.add_layers.Given as goal

abbrev pub invariant-loop-layer : goal.invariant-loop-layer
invariant-loop-layer g l = HasAdded l.fn.self l.self l.bodies l.layers l.layer
