use Rattle.std.proofs.Common.{refl}
use Rattle.pass_table.specs.Passes.{view_of}
use Rattle.world_host.specs.declared.serial_world.SerialWorld.{SerialWorld}
use Rattle.world_host.proofs.OpenedWorlds.{first-fresh, opened-shows}
use Rattle.world_host.proofs.serial_world.SerialWorld.open.Goals as goal

pub returns-clause-opened : goal.returns-clause-opened
returns-clause-opened c =
    let w : SerialWorld = record { world = c.in_ok-world.world; pass = c.in-Some.pass; finder = c.in-Ok.finder; books = c.new-2.result; batches = c.new-3.result; live = 0; inside = 0 } in
    opened-shows w c.args.config c.in_ok-world.ensures.sizes.0 c.requires.one c.in_ok-world.ensures.sizes.1
    (first-fresh w.world w.pass c.in_ok-world.passes.passes.items c.next.new.self.passes.items c.in_ok-world.ensures.passes c.in-Some.ensures.first) c.in-Ok.ensures.room c.new-2.ensures c.new-3.ensures.none
    (c.new-3.ensures.good (view_of w.pass)) refl refl
