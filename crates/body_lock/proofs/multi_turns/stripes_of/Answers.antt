use Rattle.std.proofs.Common.{ℕ, List, take, ◌++◌, [], ◌∷◌, ◌∙◌, ap, sym, subst}
use Rattle.std.proofs.lemmas.List.{take_more, take_all}
use Rattle.body_ident.specs.Id.{Id}
use Rattle.word_map.specs.Names.{stripe_of}
use Rattle.body_lock.specs.Stripes.{AreStripesOf}
use Rattle.body_lock.proofs.TakingAll.{stripes-none, stripes-more}
use Rattle.body_lock.proofs.multi_turns.stripes_of.Goals as goal

pub loop-id-init : goal.loop-id-init
loop-id-init c = stripes-none c.args.world.now.map c.none-set.result.bits c.none-set.ensures

pub loop-id-preserved : goal.loop-id-preserved
loop-id-preserved c =
    let map = c.args.world.now.map in
    let ids = c.args.ids.now in
    let k = c.loop-id.id-index in
    let item = c.id-item.result in
    subst (λ (l : List Id). AreStripesOf map l c.insert.new.self.bits) (sym (take_more ids k item c.loop-id-test.true ∙ ap (λ (i : Id). take k ids ++ i ∷ []) (sym c.id-item.is)))
    (stripes-more map (take k ids) item c.loop-id.set.bits c.insert.new.self.bits c.stripe_of.result c.insert.ensures
    (c.stripe_of.ensures.value ∙ ap (λ (i : ℕ). stripe_of map i) c.index.ensures.value) c.loop-id.invariant)

pub returns : goal.returns
returns c = subst (λ (l : List Id). AreStripesOf c.args.world.now.map l c.loop-id.set.bits) (take_all c.loop-id.id-index c.args.ids.now c.loop-id-test.false) c.loop-id.invariant
