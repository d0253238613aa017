use Rattle.std.proofs.Common.{ℕ, ◌∙◌, ap, subst, arith, ◌≡◌, sym}
use Rattle.body_ident.specs.Id.{Id}
use Rattle.pass_table.specs.Passes.{view_of}
use Rattle.free_list.specs.Heads.{PutInFront}
use Rattle.core_state.specs.Lists.{IsLiveAndOut}
use Rattle.word_map.specs.declared.name.Name.TheVariants.{SlotHead, SlotNext}
use Rattle.core_state.specs.View.{known_word}
use Rattle.body_slots.specs.stages.Destroying.{AtDestroy}
use Rattle.body_slots.specs.declared.destroy_op.DestroyStage.TheVariants.{Linked, InFront}
use Rattle.body_slots.proofs.DestroyTurns.{destroy-on, has-list, has-out}
use Rattle.body_slots.proofs.DestroyEnds.{put-step, put-made, put-first}
use Rattle.body_slots.proofs.destroy_op.DestroyOp.put_in_front.Goals as goal

pub returns-clause-turn : goal.returns-clause-turn
returns-clause-turn c =
    let view = view_of c.args.pass.now in
    let next = view_of c.put_in_front.new.pass in
    let put = c.put_in_front.ensures.put in
    destroy-on c.go_on.result c.args.self.now c.go_on.new.self Linked InFront view next c.go_on.ensures.more c.go_on.ensures.stage c.requires.stage
    (put-step view next c.index.result put) (put-made view next c.index.result put c.args.pass.now.number c.args.pass.now.numbered) (omega arith) tt
    (λ first start making at. put-first first.id start view next making.1 (subst (λ (n : ℕ). PutInFront view next n) (c.index.ensures.value ∙ ap (λ (i : Id). i.index) making.0) put) at)

pub put_in_front-requires-clause-list : goal.put_in_front-requires-clause-list
put_in_front-requires-clause-list c =
    let view = view_of c.args.pass.now in
    let way = c.requires.under_way in
    let id = way.first.id in
    let at = subst (AtDestroy id way.start view c.args.self.now.look) c.requires.stage way.goes.2 in
    has-list id way.start view way.goes.1.rest at.0

pub put_in_front-requires-clause-body : goal.put_in_front-requires-clause-body
put_in_front-requires-clause-body c =
    let view = view_of c.args.pass.now in
    let way = c.requires.under_way in
    let id = way.first.id in
    let at = subst (AtDestroy id way.start view c.args.self.now.look) c.requires.stage way.goes.2 in
    let same : c.index.result ≡ id.index = c.index.ensures.value ∙ ap (λ (i : Id). i.index) way.goes.0 in
    subst (λ (n : ℕ). IsLiveAndOut view n) (sym same) (has-out id way.start view _ _ way.goes.1 at.0 at.1)

pub put_in_front-requires-clause-link : goal.put_in_front-requires-clause-link
put_in_front-requires-clause-link c =
    let view = view_of c.args.pass.now in
    let way = c.requires.under_way in
    let id = way.first.id in
    let at = subst (AtDestroy id way.start view c.args.self.now.look) c.requires.stage way.goes.2 in
    let same : c.index.result ≡ id.index = c.index.ensures.value ∙ ap (λ (i : Id). i.index) way.goes.0 in
    subst (λ (n : ℕ). known_word view (SlotNext n) ≡ known_word view SlotHead) (sym same) at.2
