use Rattle.std.proofs.Common.{◌<◌, sym, subst}
use Rattle.std.specs.Prelude.{All, List}
use Rattle.std.proofs.lemmas.List.Elements.{All-push}
use Rattle.body_ident.specs.declared.body_id.BodyId.{BodyId}
use Rattle.query_tests.proofs.places.put_row.Goals as goal

pub loop-preserved : goal.loop-preserved
loop-preserved g c = (
  c.put.ensures.idle,
  subst (λ (ids : List BodyId). All (λ (id : BodyId). id.index < c.args.world.now.map.bodies) ids) (sym c.in-Ok.ensures.items)
      (All-push (λ (id : BodyId). id.index < c.args.world.now.map.bodies) c.loop.ids.items c.in_ok-id.id c.loop.invariant.1 c.in_ok-id.ensures.below),
)
