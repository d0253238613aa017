use Rattle.std.proofs.Common.{refl, ap, ◌∙◌, List}
use Rattle.body_ident.specs.Id.{Id}
use Rattle.reply_text.specs.declared.reply.Reply.TheVariants.{Hits}
use Rattle.world_host.proofs.NamedTurns.{query-does}
use Rattle.world_host.proofs.serial_world.SerialWorld.query.Goals as goal

pub returns : goal.returns
returns g c =
    let a = c.args.self.now in
    query-does a (record a { pass = c.query_alone.new.pass; finder = c.query_alone.new.finder }) c.args.mask c.args.shape.now (Hits c.new.result) c.requires.sound c.query_alone.ensures.lone refl refl c.query_alone.ensures.room
    c.query_alone.ensures.answers (ap (λ (ids : List Id). Hits ids) (c.new.ensures ∙ c.in_ok-found.ensures))
