use Rattle.std.proofs.Common.{ℕ, ◌≡◌, ap, sym, ◌∙◌, subst}
use Rattle.body_ident.specs.Id.{Id}
use Rattle.word_map.specs.declared.name.Name.TheVariants.{LocB}
use Rattle.core_state.specs.Lives.{MayLoadBody}
use Rattle.pass_table.specs.Bodies.{Loaded}
use Rattle.pass_table.specs.Passes.{view_of}
use Rattle.pass_table.proofs.Bodies.{loaded-body, body-load-step, body-load-made}
use Rattle.widen_bounds.specs.stages.Moving.{stripe_taken, AtMove}
use Rattle.widen_bounds.proofs.MoveSteps.{may-load-second, second-fits, second-turn}
use Rattle.widen_bounds.proofs.move_op.MoveOp.load_second.Goals as goal

pub step_15-second-requires-clause-asks : goal.step_15-second-requires-clause-asks
step_15-second-requires-clause-asks c =
    let view = view_of c.args.pass.now in
    let way = c.requires.under_way in
    let id = way.first.id in
    let at = subst (AtMove id way.first.to way.start view c.args.self.now.look c.args.self.now.widening) c.requires.stage way.goes.at in
    let same : c.index.result ≡ id.index = c.index.ensures.value ∙ ap (λ (i : Id). i.index) way.goes.id in
    subst (λ (n : ℕ). MayLoadBody view (LocB n) 0 0) (sym same) (may-load-second id (stripe_taken way.start.config id) way.start view at.0)

pub new-self-requires-clause-first_fits : goal.new-self-requires-clause-first_fits
new-self-requires-clause-first_fits c =
    let view = view_of c.args.pass.now in
    let next = view_of c.step_15-second.new.pass in
    let loaded = subst (λ (n : ℕ). Loaded view next (LocB n) c.step_15-second.result) c.index.ensures.value (loaded-body view next (LocB c.index.result) c.step_15-second.result c.step_15-second.ensures.step) in
    (second-fits c.args.self.now view next c.args.first c.step_15-second.result c.requires.stage loaded c.requires.under_way).0

pub new-self-requires-clause-second_fits : goal.new-self-requires-clause-second_fits
new-self-requires-clause-second_fits c =
    let view = view_of c.args.pass.now in
    let next = view_of c.step_15-second.new.pass in
    let loaded = subst (λ (n : ℕ). Loaded view next (LocB n) c.step_15-second.result) c.index.ensures.value (loaded-body view next (LocB c.index.result) c.step_15-second.result c.step_15-second.ensures.step) in
    (second-fits c.args.self.now view next c.args.first c.step_15-second.result c.requires.stage loaded c.requires.under_way).1

pub returns-clause-turn : goal.returns-clause-turn
returns-clause-turn c =
    let before = c.args.self.now in
    let view = view_of c.args.pass.now in
    let next = view_of c.step_15-second.new.pass in
    let found = c.step_15-second.result in
    let step = c.step_15-second.ensures.step in
    let loaded = subst (λ (n : ℕ). Loaded view next (LocB n) found) c.index.ensures.value (loaded-body view next (LocB c.index.result) found step) in
    second-turn before view next c.args.first found c.requires.stage loaded c.go_on_widening.result c.go_on_widening.new.self c.new-self.result c.go_on_widening.ensures.more c.go_on_widening.ensures.stage c.new-self.ensures.begun
    (body-load-step view next (LocB c.index.result) found step) (body-load-made view next (LocB c.index.result) found step)
