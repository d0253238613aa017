use Rattle.std.proofs.Common.{List, take, ◌++◌, [], ◌∷◌, ◌∙◌, ap, sym}
use Rattle.std.proofs.lemmas.List.{take_more, take_all}
use Rattle.body_ident.specs.Id.{Id}
use Rattle.batch_add.proofs.prepare_begun.own_ids.Goals as goal

pub loop-id-init : goal.loop-id-init
loop-id-init c = c.in_ok-own.ensures.items

pub loop-id-preserved : goal.loop-id-preserved
loop-id-preserved c =
    let ids = c.args.ids.now in
    let k = c.loop-id.id-index in
    c.in_ok-push.ensures.items
    ∙ (ap (λ (l : List Id). l ++ c.id-item.result ∷ []) c.loop-id.invariant
    ∙ (ap (λ (i : Id). take k ids ++ i ∷ []) c.id-item.is ∙ sym (take_more ids k c.id-item.result c.loop-id-test.true)))

pub returns : goal.returns
returns c = c.loop-id.invariant ∙ take_all c.loop-id.id-index c.args.ids.now c.loop-id-test.false
