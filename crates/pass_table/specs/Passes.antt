-- What contracts say of a pass.
use Rattle.std.specs.Prelude.{◌≡◌}
use Rattle.core_state.specs.declared.view.View.{View}
use Rattle.pass_table.specs.Holding.{IsAtRest}
use Rattle.pass_table.specs.declared.pass.Pass.{Pass}
use Rattle.pass_table.specs.declared.world.World.{World}

-- what the pass knows and has
abbrev pub view_of : Pass → View
view_of pass = pass.seat.me.0

-- the pass is one of the world
pub record IsOf (world : World) (pass : Pass) : Type 0 where
  pub table : pass.seat.table_id ≡ world.table.shared.table_id
  pub sizes : pass.seat.me.0.config ≡ world.map

-- the pass is one of the world, holds no lock, and is in the middle of nothing: it may begin a call that waits
pub record IsIdle (world : World) (pass : Pass) : Type 0 where
  pub of : IsOf world pass
  pub rest : IsAtRest (view_of pass)
