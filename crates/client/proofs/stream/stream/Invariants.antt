use Rattle.std.proofs.Common.{◌<◌, ◌≤◌}
use Rattle.pass_table.specs.Passes.{IsIdle}
use Rattle.client.proofs.stream.stream.Given as goal

abbrev pub invariant-loop : goal.invariant-loop
invariant-loop g l = IsIdle l.world l.pass × (l.layer < l.world.map.layers) × (2 ≤ l.world.map.bodies)
