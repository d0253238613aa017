use Rattle.std.proofs.Common.{◌<◌}
use Rattle.std.specs.Prelude.{All}
use Rattle.pass_table.specs.Passes.{IsIdle}
use Rattle.query_tests.proofs.places.put_row.Given as goal

abbrev pub invariant-loop : goal.invariant-loop
invariant-loop g l = IsIdle l.world l.pass × All (λ id. id.index < l.world.map.bodies) l.ids.items
