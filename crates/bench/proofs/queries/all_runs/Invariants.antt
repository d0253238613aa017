use Rattle.std.proofs.Common.{◌≤◌}
use Rattle.pass_table.specs.Passes.{IsIdle}
use Rattle.tree_query.specs.Finding.{room_of}
use Rattle.bench.proofs.queries.all_runs.Given as goal

abbrev pub invariant-loop : goal.invariant-loop
invariant-loop g l = IsIdle l.world l.pass × (l.world.map.bodies ≤ room_of l.finder)
