use Rattle.std.proofs.Common.{◌<◌, All, length, sym, ap, subst, arith}
use Rattle.script_player.specs.declared.books.Known.{Known}
use Rattle.world_host.proofs.KnownNames.{known-all-below}
use Rattle.world_host.proofs.NamedTurns.{some-of}
use Rattle.world_host.proofs.TakenTurns.{known-many}
use Rattle.world_host.proofs.serial_world.SerialWorld.add.Goals as goal

pub add_layers-requires-clause-below : goal.add_layers-requires-clause-below
add_layers-requires-clause-below g c =
    let a = c.args.self.now in
    let known = some-of c.in_ok-bodies.field-0 c.in-Some.bodies (λ v. v.items) _ c.in_ok-bodies.ensures c.in-Some.is in
    subst (All (λ (k : Known). k.id.index < a.world.map.bodies)) (sym c.deref.ensures.value) (known-all-below a.world.map.bodies a.books c.args.names.now c.in-Some.bodies.items c.requires.sound.names known)

pub add_layers-requires-clause-few : goal.add_layers-requires-clause-few
add_layers-requires-clause-few g c =
    let a = c.args.self.now in
    let known = some-of c.in_ok-bodies.field-0 c.in-Some.bodies (λ v. v.items) _ c.in_ok-bodies.ensures c.in-Some.is in
    let many = known-many a.books c.args.names.now c.in-Some.bodies.items known in
    let same = ap (length {A = Known}) c.deref.ensures.value in
    let few = c.requires.few in
    omega (arith, many, same, few)
