use Rattle.std.proofs.Common.{ℕ, ◌∙◌, ap, subst, arith, ◌≡◌, sym}
use Rattle.body_ident.specs.Id.{Id}
use Rattle.pass_table.specs.Passes.{view_of}
use Rattle.free_list.specs.Heads.{LinkedTo}
use Rattle.core_state.specs.Lists.{IsLiveAndOut}
use Rattle.body_slots.specs.stages.Destroying.{AtDestroy}
use Rattle.body_slots.specs.declared.destroy_op.DestroyStage.TheVariants.{Headed, Linked}
use Rattle.body_slots.proofs.DestroyTurns.{destroy-on, has-list, has-out}
use Rattle.body_slots.proofs.DestroyEnds.{linked-step, linked-made, link-stored}
use Rattle.body_slots.proofs.destroy_op.DestroyOp.store_link.Goals as goal

pub returns-clause-turn : goal.returns-clause-turn
returns-clause-turn c =
    let view = view_of c.args.pass.now in
    let next = view_of c.store_link.new.pass in
    let head = c.args.head in
    let linked = c.store_link.ensures.linked in
    destroy-on c.go_on.result c.args.self.now c.go_on.new.self (Headed head) Linked view next c.go_on.ensures.more c.go_on.ensures.stage c.requires.stage
    (linked-step view next c.index.result head linked) (linked-made view next c.index.result head linked c.args.pass.now.number c.args.pass.now.numbered) (omega arith) tt
    (λ first start making at.
    link-stored first.id start view next head making.1 (subst (λ (n : ℕ). LinkedTo view next n head) (c.index.ensures.value ∙ ap (λ (i : Id). i.index) making.0) linked) at)

pub store_link-requires-clause-list : goal.store_link-requires-clause-list
store_link-requires-clause-list c =
    let view = view_of c.args.pass.now in
    let way = c.requires.under_way in
    let id = way.first.id in
    let at = subst (AtDestroy id way.start view c.args.self.now.look) c.requires.stage way.goes.2 in
    has-list id way.start view way.goes.1.rest at.0

pub store_link-requires-clause-body : goal.store_link-requires-clause-body
store_link-requires-clause-body c =
    let view = view_of c.args.pass.now in
    let way = c.requires.under_way in
    let id = way.first.id in
    let at = subst (AtDestroy id way.start view c.args.self.now.look) c.requires.stage way.goes.2 in
    let same : c.index.result ≡ id.index = c.index.ensures.value ∙ ap (λ (i : Id). i.index) way.goes.0 in
    subst (λ (n : ℕ). IsLiveAndOut view n) (sym same) (has-out id way.start view _ _ way.goes.1 at.0 at.1)

pub store_link-requires-clause-head : goal.store_link-requires-clause-head
store_link-requires-clause-head c =
    let view = view_of c.args.pass.now in
    let way = c.requires.under_way in
    let id = way.first.id in
    let at = subst (AtDestroy id way.start view c.args.self.now.look) c.requires.stage way.goes.2 in
    sym at.2
