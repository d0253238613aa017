use Rattle.std.proofs.Common.{◌<◌, List, refl, sym, ap, ◌∙◌, subst, map}
use Rattle.std.specs.Prelude.{All}
use Rattle.pass_table.specs.Passes.{view_of}
use Rattle.reply_text.specs.declared.multi.MultiItem.{MultiItem}
use Rattle.reply_text.specs.declared.reply.Reply.TheVariants.{Multi}
use Rattle.script_player.specs.declared.books.Known.{Known}
use Rattle.script_player.specs.Books.{known_all}
use Rattle.world_host.proofs.KnownNames.{known-all-below}
use Rattle.world_host.proofs.NamedTurns.{some-of, multi-does}
use Rattle.world_host.proofs.ReadItems.{told_in}
use Rattle.world_host.proofs.serial_world.SerialWorld.multi.Goals as goal

pub items_alone-requires-clause-below : goal.items_alone-requires-clause-below
items_alone-requires-clause-below g c =
    let a = c.args.self.now in
    let found = some-of c.in_ok-bodies.field-0 c.in-Some.bodies (λ v. v.items) (known_all a.books c.args.names.now) c.in_ok-bodies.ensures c.in-Some.is in
    subst (λ (list : List Known). All (λ known. known.id.index < a.world.map.bodies) list) (sym c.deref.ensures.value)
    (known-all-below a.world.map.bodies a.books c.args.names.now c.in-Some.bodies.items c.requires.sound.names found)

pub returns : goal.returns
returns g c =
    let a = c.args.self.now in
    let found = some-of c.in_ok-bodies.field-0 c.in-Some.bodies (λ v. v.items) (known_all a.books c.args.names.now) c.in_ok-bodies.ensures c.in-Some.is in
    multi-does a (record a { pass = c.items_alone.new.pass }) c.requires.sound c.in_ok-items.ensures.lone refl refl c.in_ok-items.ensures.leaves c.args.names.now c.in-Some.bodies.items (Multi c.new.result) found
    (ap (λ (list : List MultiItem). Multi list) (c.new.ensures ∙ (c.in_ok-items.ensures.items ∙ ap (map (told_in (view_of a.pass))) c.deref.ensures.value)))
