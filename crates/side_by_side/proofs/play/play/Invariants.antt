use Rattle.std.proofs.Common.{◌≡◌, ◌≤◌}
use Rattle.pass_table.specs.Passes.{view_of, IsIdle}
use Rattle.batch_add.specs.PreparedLists.{AreGood}
use Rattle.side_by_side.proofs.play.play.Given as goal

abbrev pub invariant-loop : goal.invariant-loop
invariant-loop g l = IsIdle l.world l.pass × AreGood l.held (view_of l.pass) × (8 ≤ l.world.map.layers) × (l.world.map.bodies ≡ 64)
