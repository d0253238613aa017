use Rattle.std.proofs.Common.{refl, sym, ap, ◌∙◌}
use Rattle.script_player.specs.Books.{Books}
use Rattle.world_host.proofs.BookCounts.{named-there, spent-known}
use Rattle.world_host.proofs.EndedTurns.{given-up}
use Rattle.world_host.proofs.serial_world.SerialWorld.abort.Goals as goal

pub unreachable-requires : goal.unreachable-requires
unreachable-requires g c = named-there c.args.self.now.books c.args.name.now c.in-Some.place (sym c.in-Some.ensures) (sym c.spend.ensures.batch ∙ c.in_default-spend.is)

pub returns : goal.returns
returns g c =
    let a = c.args.self.now in
    let t = c.abort_alone.ensures.given_up in
    let books = c.spend.ensures.spent in
    given-up a c.args.name.now c.in-Some.place c.in-Some-spend.field-0 t.0 c.requires.sound (sym c.in-Some.ensures) (sym c.in-Some-spend.ensures.batch) t.1
    (record a { pass = c.abort_alone.new.pass; books = c.spend.new.self; batches = c.abort_alone.new.batches }) c.abort_alone.ensures.lone c.abort_alone.ensures.good c.abort_alone.ensures.others refl
    (ap (λ (k : Books). k.prepared) books) t.2 books refl refl refl (ap (λ (k : Books). k.known) books ∙ spent-known a.books c.args.name.now)
