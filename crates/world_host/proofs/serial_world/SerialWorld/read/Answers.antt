use Rattle.std.proofs.Common.{Some, None, refl, sym}
use Rattle.reply_text.specs.declared.reply.Reply.TheVariants.{Body, Gone}
use Rattle.world_host.proofs.NamedTurns.{read-does}
use Rattle.world_host.proofs.serial_world.SerialWorld.read.Goals as goal

pub returns-in-Some-view_alone : goal.returns-in-Some-view_alone
returns-in-Some-view_alone g c =
    let a = c.args.self.now in
    read-does a (record a { pass = c.view_alone.new.pass }) c.requires.sound c.view_alone.ensures.lone refl refl c.view_alone.ensures.leaves c.args.name.now c.in-Some.known (Some c.in-Some-view_alone.view)
    (Body c.in-Some-view_alone.view) (sym c.in-Some.ensures) c.in-Some-view_alone.ensures.seen refl

pub returns-in-None : goal.returns-in-None
returns-in-None g c =
    let a = c.args.self.now in
    read-does a (record a { pass = c.view_alone.new.pass }) c.requires.sound c.view_alone.ensures.lone refl refl c.view_alone.ensures.leaves c.args.name.now c.in-Some.known None Gone (sym c.in-Some.ensures)
    c.in-None.ensures.seen refl
