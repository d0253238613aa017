use Rattle.std.proofs.Common.{◌≡◌, ◌<◌}
use Rattle.pass_table.specs.Passes.{IsIdle}
use Rattle.bench.proofs.lock.work.rounds.Given as goal

abbrev pub invariant-loop : goal.invariant-loop
invariant-loop g l = IsIdle l.world l.pass × (l.world.map.bodies ≡ 65536) × (l.index < 65536)
