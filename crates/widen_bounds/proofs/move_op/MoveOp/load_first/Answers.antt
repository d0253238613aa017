use Rattle.std.proofs.Common.{ℕ, ◌≡◌, ap, sym, ◌∙◌, subst, arith}
use Rattle.body_ident.specs.Id.{Id}
use Rattle.word_map.specs.declared.name.Name.TheVariants.{LocA}
use Rattle.core_state.specs.Lives.{MayLoadBody}
use Rattle.pass_table.specs.Bodies.{Loaded}
use Rattle.pass_table.specs.Passes.{view_of}
use Rattle.pass_table.proofs.Bodies.{loaded-body, body-load-step, body-load-made}
use Rattle.widen_bounds.specs.declared.move_op.MoveStage.TheVariants.{Found, HalfLocated}
use Rattle.widen_bounds.specs.stages.Moving.{stripe_taken, AtMove}
use Rattle.widen_bounds.proofs.MoveTurns.{move-on}
use Rattle.widen_bounds.proofs.MoveSteps.{may-load-first, first-loaded}
use Rattle.widen_bounds.proofs.move_op.MoveOp.load_first.Goals as goal

pub step_15-first-requires-clause-asks : goal.step_15-first-requires-clause-asks
step_15-first-requires-clause-asks c =
    let view = view_of c.args.pass.now in
    let way = c.requires.under_way in
    let id = way.first.id in
    let at = subst (AtMove id way.first.to way.start view c.args.self.now.look c.args.self.now.widening) c.requires.stage way.goes.at in
    let same : c.index.result ≡ id.index = c.index.ensures.value ∙ ap (λ (i : Id). i.index) way.goes.id in
    subst (λ (n : ℕ). MayLoadBody view (LocA n) 0 0) (sym same) (may-load-first id (stripe_taken way.start.config id) way.start view at)

pub returns-clause-turn : goal.returns-clause-turn
returns-clause-turn c =
    let before = c.args.self.now in
    let view = view_of c.args.pass.now in
    let next = view_of c.step_15-first.new.pass in
    let found = c.step_15-first.result in
    move-on c.go_on.result before c.go_on.new.self before.widening Found (HalfLocated found) view next c.go_on.ensures.more c.go_on.ensures.stage c.requires.stage
    (body-load-step view next (LocA c.index.result) found c.step_15-first.ensures.step) (body-load-made view next (LocA c.index.result) found c.step_15-first.ensures.step) (omega arith) tt
    (λ label reached. reached) (λ first start moving at. tt)
    (λ first start moving at.
    first-loaded first.id (stripe_taken start.config first.id) start view next found
    (subst (λ (n : ℕ). Loaded view next (LocA n) found) (c.index.ensures.value ∙ ap (λ (i : Id). i.index) moving.id) (loaded-body view next (LocA c.index.result) found c.step_15-first.ensures.step)) at)
