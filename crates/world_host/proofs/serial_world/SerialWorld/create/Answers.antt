use Rattle.std.proofs.Common.{◌+◌, refl, arith}
use Rattle.world_host.proofs.FewBodies.{live-few}
use Rattle.world_host.proofs.NamedTurns.{created-does, full-does}
use Rattle.world_host.proofs.serial_world.SerialWorld.create.Goals as goal

pub overflow_add-self : goal.overflow_add-self
overflow_add-self g c =
    let few = live-few c.args.self.now.world c.args.self.now.pass c.requires.sound.lone.idle.of in
    let live = c.requires.sound.live in
    omega (arith, few, live)

pub returns-in_ok-keep_name-in-Some : goal.returns-in_ok-keep_name-in-Some
returns-in_ok-keep_name-in-Some g c =
    let a = c.args.self.now in
    created-does a (record a { pass = c.create_alone.new.pass; books = c.keep_name.new.self; live = a.live + 1 }) c.args.name.now c.args.layer c.args.bounds c.args.user c.requires.sound c.in-Some.ensures.lone refl refl c.in-Some.id
    c.in-Some.ensures.created refl c.in_ok-keep_name-in-Some.ensures c.in-Some.ensures.below

pub returns-in_ok-keep_name-in-None : goal.returns-in_ok-keep_name-in-None
returns-in_ok-keep_name-in-None g c =
    let a = c.args.self.now in
    full-does a (record a { pass = c.create_alone.new.pass; books = c.keep_name-in-None.new.self }) c.args.name.now c.args.layer c.args.bounds c.args.user c.requires.sound c.in-None.ensures.lone refl refl c.in-None.ensures.created refl
    c.in_ok-keep_name-in-None.ensures
