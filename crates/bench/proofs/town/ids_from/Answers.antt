use Rattle.std.proofs.Common.{◌<◌, ◌+◌, ap, sym, subst, arith}
use Rattle.std.specs.Prelude.{All, List, length}
use Rattle.std.proofs.lemmas.List.{length_push}
use Rattle.std.proofs.lemmas.List.Elements.{All-push}
use Rattle.body_ident.specs.declared.body_id.BodyId.{BodyId}
use Rattle.bench.proofs.town.ids_from.Goals as goal

pub loop-index-preserved : goal.loop-index-preserved
loop-index-preserved c =
    let at = c.new-id.ensures.index in
    let less = c.loop-index-test.true in
    let low : c.new-id.result.index < c.args.first + c.args.count = omega arith in (
      subst (λ (ids : List BodyId). All (λ (id : BodyId). id.index < c.args.first + c.args.count) ids) (sym c.in_ok-push.ensures.items)
          (All-push (λ (id : BodyId). id.index < c.args.first + c.args.count) c.loop-index.ids.items c.new-id.result c.loop-index.invariant.0 low),
      (let same = ap (length {A = BodyId}) c.in_ok-push.ensures.items in let more = length_push c.loop-index.ids.items c.new-id.result in let so = c.loop-index.invariant.1 in omega arith),
    )
