use Rattle.std.proofs.Common.{◌≤◌}
use Rattle.pass_table.specs.Passes.{IsIdle}
use Rattle.tree_query.specs.Finding.{room_of}
use Rattle.bench.proofs.queries.town.Given as goal

abbrev pub invariant-loop-of : goal.invariant-loop-of
invariant-loop-of g l = IsIdle l.world l.pass × (l.world.map.bodies ≤ room_of l.finder)
