use Rattle.std.proofs.Common.{ℕ, ◌≡◌, refl, ap, sym, ◌∙◌, subst, arith}
use Rattle.body_ident.specs.Id.{Id}
use Rattle.word_map.specs.declared.name.Name.TheVariants.{LocA}
use Rattle.core_state.specs.Lives.{MayLoadBody}
use Rattle.pass_table.specs.Bodies.{Loaded}
use Rattle.pass_table.specs.Passes.{view_of}
use Rattle.pass_table.proofs.Bodies.{loaded-body, body-load-step, body-load-made}
use Rattle.remove_body.specs.declared.remove_op.RemoveStage.TheVariants.{Inside, HalfLocated}
use Rattle.remove_body.specs.stages.Removing.{AtRemove}
use Rattle.remove_body.proofs.RemoveTurns.{remove-on}
use Rattle.remove_body.proofs.RemoveSteps.{may-load-first, first-loaded}
use Rattle.remove_body.proofs.remove_op.RemoveOp.load_first.Goals as goal

pub step_15-first-requires-clause-asks : goal.step_15-first-requires-clause-asks
step_15-first-requires-clause-asks c =
    let view = view_of c.args.pass.now in
    let way = c.requires.under_way in
    let id = way.first.id in
    let at = subst (AtRemove id way.start view c.args.self.now.look) c.requires.stage way.goes.2 in
    let same : c.index.result ≡ id.index = c.index.ensures.value ∙ ap (λ (i : Id). i.index) way.goes.0 in
    subst (λ (n : ℕ). MayLoadBody view (LocA n) 0 0) (sym same) (may-load-first id way.start view view way.goes.1.rest at)

pub returns-clause-turn : goal.returns-clause-turn
returns-clause-turn c =
    let view = view_of c.args.pass.now in
    let next = view_of c.step_15-first.new.pass in
    let found = c.step_15-first.result in
    remove-on c.go_on.result c.args.self.now c.go_on.new.self (Inside) (HalfLocated c.step_15-first.result) view next c.go_on.ensures.more c.go_on.ensures.stage c.requires.stage
    (body-load-step view next (LocA c.index.result) found c.step_15-first.ensures.step) (body-load-made view next (LocA c.index.result) found c.step_15-first.ensures.step) (omega arith) tt refl
    (λ first start removing at.
    first-loaded first.id start view next removing.1.rest c.args.self.now.look found
    (subst (λ (n : ℕ). Loaded view next (LocA n) found) (c.index.ensures.value ∙ ap (λ (i : Id). i.index) removing.0) (loaded-body view next (LocA c.index.result) found c.step_15-first.ensures.step)) at)
