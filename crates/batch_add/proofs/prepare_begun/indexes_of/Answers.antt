use Rattle.std.proofs.Common.{◌≡◌, ℕ, List, map, take, ◌++◌, [], ◌∷◌, ◌∙◌, ap, sym}
use Rattle.std.proofs.lemmas.List.{take_more, take_all, map-append}
use Rattle.body_ident.specs.Id.{Id}
use Rattle.batch_add.proofs.prepare_begun.indexes_of.Goals as goal

-- one index more
one_more : (first : List Id) (id : Id) (indexes : List ℕ) (index : ℕ) → indexes ≡ map (λ (d : Id). d.index) first → index ≡ id.index → indexes ++ index ∷ [] ≡ map (λ (d : Id). d.index) (first ++ id ∷ [])
one_more first id indexes index same is = (λ i. same i ++ is i ∷ []) ∙ sym (map-append (λ (d : Id). d.index) first (id ∷ []))

pub loop-id-init : goal.loop-id-init
loop-id-init c = c.in_ok-indexes.ensures.items

pub loop-id-preserved : goal.loop-id-preserved
loop-id-preserved c =
    let ids = c.args.ids.now in
    let k = c.loop-id.id-index in
    let more = one_more (take k ids) _ c.loop-id.indexes.items c.index.result c.loop-id.invariant (c.index.ensures.value ∙ ap (λ (d : Id). d.index) c.id-item.is) in
    c.in_ok-push.ensures.items ∙ (more ∙ ap (map (λ (d : Id). d.index)) (sym (take_more ids k c.id-item.result c.loop-id-test.true)))

pub returns : goal.returns
returns c = c.loop-id.invariant ∙ ap (map (λ (id : Id). id.index)) (take_all c.loop-id.id-index c.args.ids.now c.loop-id-test.false)
