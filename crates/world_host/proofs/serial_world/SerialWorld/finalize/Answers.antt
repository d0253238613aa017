use Rattle.std.proofs.Common.{◌+◌, ℕ, length, refl, sym, ap, ◌∙◌, arith, List}
use Rattle.script_player.specs.Books.{Books, with_attached}
use Rattle.world_host.proofs.BookCounts.{named-there, spent-known}
use Rattle.world_host.proofs.EndedTurns.{inside-fits, finalized}
use Rattle.world_host.proofs.serial_world.SerialWorld.finalize.Goals as goal

pub unreachable-requires : goal.unreachable-requires
unreachable-requires c = named-there c.args.self.now.books c.args.name.now c.in-Some.place (sym c.in-Some.ensures) (sym c.spend.ensures.batch ∙ c.in_default-spend.is)

pub overflow_cast-self : goal.overflow_cast-self
overflow_cast-self c =
    let a = c.args.self.now in
    let t = c.finalize_alone.ensures.attached in
    let fits = inside-fits a c.args.name.now c.in-Some.place c.in-Some-spend.batch t.0 c.requires.sound (sym c.in-Some.ensures) (sym c.in-Some-spend.ensures.batch) t.1 a.world c.finalize_alone.new.pass c.finalize_alone.ensures.lone.idle.of t.2 in
    let same = ap (λ (l : List ℕ). length l) c.items.ensures in
    omega (arith, fits, same)

pub overflow_add-self : goal.overflow_add-self
overflow_add-self c =
    let a = c.args.self.now in
    let t = c.finalize_alone.ensures.attached in
    let fits = inside-fits a c.args.name.now c.in-Some.place c.in-Some-spend.batch t.0 c.requires.sound (sym c.in-Some.ensures) (sym c.in-Some-spend.ensures.batch) t.1 a.world c.finalize_alone.new.pass c.finalize_alone.ensures.lone.idle.of t.2 in
    let same = ap (λ (l : List ℕ). length l) c.items.ensures in
    omega (arith, fits, same)

pub returns : goal.returns
returns c =
    let a = c.args.self.now in
    let t = c.finalize_alone.ensures.attached in
    let batch = c.in-Some-spend.batch in
    let books = c.in_ok-attach.ensures ∙ ap (λ (k : Books). with_attached k batch.layer batch.nodes) c.spend.ensures.spent in
    finalized a c.args.name.now c.in-Some.place batch t.0 c.requires.sound (sym c.in-Some.ensures) (sym c.in-Some-spend.ensures.batch) t.1
    (record a { pass = c.finalize_alone.new.pass; books = c.attach.new.self; batches = c.finalize_alone.new.batches; inside = a.inside + length c.items.result.now })
    c.finalize_alone.ensures.lone c.finalize_alone.ensures.good c.finalize_alone.ensures.others refl (ap (λ (k : Books). k.prepared) books) t.2 books refl (ap (λ (l : List ℕ). a.inside + length l) c.items.ensures) refl
    (ap (λ (k : Books). k.known) books ∙ spent-known a.books c.args.name.now)
