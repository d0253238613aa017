use Rattle.pass_table.specs.Passes.{view_of}
use Rattle.world_host.proofs.ReadItems.{HasRead}
use Rattle.world_host.proofs.reading.items_alone.Given as goal

abbrev pub invariant-loop-known : goal.invariant-loop-known
invariant-loop-known g l = HasRead l.world (view_of l.fn.pass) l.pass l.bodies l.items.items l.known-index
