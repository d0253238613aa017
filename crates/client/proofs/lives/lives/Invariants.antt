use Rattle.std.proofs.Common.{◌<◌}
use Rattle.pass_table.specs.Passes.{IsIdle}
use Rattle.client.proofs.lives.lives.Given as goal

abbrev pub invariant-loop-user : goal.invariant-loop-user
invariant-loop-user g l = IsIdle l.world l.pass × (0 < l.world.map.layers)
