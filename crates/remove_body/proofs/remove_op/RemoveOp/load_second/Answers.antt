use Rattle.std.proofs.Common.{ℕ, ◌≡◌, refl, ap, sym, ◌∙◌, subst, arith}
use Rattle.body_ident.specs.Id.{Id}
use Rattle.word_map.specs.declared.name.Name.TheVariants.{LocB}
use Rattle.core_state.specs.Lives.{MayLoadBody}
use Rattle.pass_table.specs.Bodies.{Loaded}
use Rattle.pass_table.specs.Passes.{view_of}
use Rattle.pass_table.proofs.Bodies.{loaded-body, body-load-step, body-load-made}
use Rattle.remove_body.specs.declared.remove_op.RemoveStage.TheVariants.{HalfLocated, Located}
use Rattle.remove_body.specs.stages.Removing.{AtRemove}
use Rattle.remove_body.proofs.RemoveTurns.{remove-on}
use Rattle.remove_body.proofs.RemoveSteps.{may-load-second, second-loaded}
use Rattle.remove_body.proofs.remove_op.RemoveOp.load_second.Goals as goal

pub step_15-second-requires-clause-asks : goal.step_15-second-requires-clause-asks
step_15-second-requires-clause-asks c =
    let view = view_of c.args.pass.now in
    let way = c.requires.under_way in
    let id = way.first.id in
    let at = subst (AtRemove id way.start view c.args.self.now.look) c.requires.stage way.goes.2 in
    let same : c.index.result ≡ id.index = c.index.ensures.value ∙ ap (λ (i : Id). i.index) way.goes.0 in
    subst (λ (n : ℕ). MayLoadBody view (LocB n) 0 0) (sym same) (may-load-second id way.start view view way.goes.1.rest at.0)

pub returns-clause-turn : goal.returns-clause-turn
returns-clause-turn c =
    let view = view_of c.args.pass.now in
    let next = view_of c.step_15-second.new.pass in
    let found = c.step_15-second.result in
    remove-on c.go_on.result c.args.self.now c.go_on.new.self (HalfLocated c.args.first) (Located c.args.first c.step_15-second.result) view next c.go_on.ensures.more c.go_on.ensures.stage c.requires.stage
    (body-load-step view next (LocB c.index.result) found c.step_15-second.ensures.step) (body-load-made view next (LocB c.index.result) found c.step_15-second.ensures.step) (omega arith) tt refl
    (λ first start removing at.
    second-loaded first.id start view next removing.1.rest c.args.self.now.look c.args.first found
    (subst (λ (n : ℕ). Loaded view next (LocB n) found) (c.index.ensures.value ∙ ap (λ (i : Id). i.index) removing.0) (loaded-body view next (LocB c.index.result) found c.step_15-second.ensures.step)) at)
