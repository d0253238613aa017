use Rattle.std.proofs.Common.{◌≡◌, ℕ, ◌<◌, Some, None, Err, inl, inr, refl, ap, sym, ◌∙◌, subst, arith}
use Rattle.scene_model.specs.declared.body_view.Phase.TheVariants.{Held, In}
use Rattle.word_map.specs.declared.config.Config.{Config}
use Rattle.word_map.specs.Names.{index_lock}
use Rattle.core_state.specs.declared.view.Mode.TheVariants.{Write}
use Rattle.core_state.specs.View.{HoldsNot}
use Rattle.pass_table.specs.declared.pass.Pass.{Pass}
use Rattle.pass_table.specs.declared.take_op.TakeOp.{TakeOp}
use Rattle.pass_table.specs.TakeTurns.{taking_of, IsTaking}
use Rattle.pass_table.specs.Turning.{LoadsNow}
use Rattle.pass_table.specs.Passes.{view_of}
use Rattle.body_look.specs.Found.{phase_found}
use Rattle.body_look.specs.declared.look_op.LookDepth.TheVariants.{Phase as ItsPhase}
use Rattle.body_look.specs.stages.Looking.{looking_of}
use Rattle.body_look.proofs.Answering.{stripe-sizes}
use Rattle.body_slots.specs.declared.answers.DestroyRefused.TheVariants.{Gone, InUse}
use Rattle.body_slots.specs.declared.destroy_op.DestroyStage.TheVariants.{TakingList, Leaving}
use Rattle.body_slots.specs.stages.Destroying.{AtDestroy, stage_left, IsDestroyTurn}
use Rattle.body_slots.proofs.DestroyTurns.{list-named, list-free, look-more, look-again, look-done, found-out, found-gone, found-used}
use Rattle.body_slots.proofs.destroy_op.DestroyOp.look.Goals as goal

pub returns-in-Done-Gone-clause-turn : goal.returns-in-Done-Gone-clause-turn
returns-in-Done-Gone-clause-turn c =
    let next = view_of c.turn.new.pass in
    let state = c.in-Done-Gone.state in
    look-done c.args.self.now c.go_on.new.self c.turn.new.self c.in-Done-Gone.field-0 (Leaving (Err (Gone state))) (view_of c.args.pass.now) next c.go_on.result c.go_on.ensures.more
    (subst (λ (n : ℕ). c.go_on.new.self ≡ record c.args.self.now { look = c.turn.new.self; stage = Leaving (Err (Gone n)); made = None }) c.in-Done-Gone.state-is c.go_on.ensures.stage) c.requires.stage
    c.turn.ensures.step c.turn.ensures.made c.in-Done-Gone.ensures.answers (omega arith) tt (λ id start looked. found-gone id start next c.in-Done-Gone.field-0 state c.in-Done-Gone.field-0-is looked)

pub returns-in-Done-Out-clause-turn : goal.returns-in-Done-Out-clause-turn
returns-in-Done-Out-clause-turn c =
    let view = view_of c.args.pass.now in
    let next = view_of c.turn.new.pass in
    let taking = c.new-taking.result in
    let goes = subst (λ (p : Pass). IsTaking (taking_of c.index_lock-lock.result Write) next taking (view_of p)) c.new-taking.ensures.pass c.new-taking.ensures.under_way in
    subst (λ (p : Pass). IsDestroyTurn c.go_on-in-Done-Out.result c.args.self.now c.go_on-in-Done-Out.new.self view (view_of p)) (sym c.new-taking.ensures.pass)
    (look-done c.args.self.now c.go_on-in-Done-Out.new.self c.turn.new.self c.in-Done-Out.field-0 (TakingList taking) view next c.go_on-in-Done-Out.result c.go_on-in-Done-Out.ensures.more c.go_on-in-Done-Out.ensures.stage
    c.requires.stage c.turn.ensures.step c.turn.ensures.made c.in-Done-Out.ensures.answers (subst (λ (t : TakeOp). stage_left c.turn.new.self (TakingList t) < 10) (sym c.new-taking.ensures.begun) (omega arith))
    (subst (λ (t : TakeOp). LoadsNow view next (Some t)) (sym c.new-taking.ensures.begun) tt)
    (λ id start looked.
    let lock = c.index_lock-lock.ensures ∙ ap (λ (sizes : Config). index_lock sizes) (sym c.turn.ensures.of.sizes ∙ stripe-sizes id Write start next looked.stripe) in (
      looked.stripe.worked,
      found-out id start next c.in-Done-Out.field-0 c.in-Done-Out.field-0-is looked,
      subst (λ (l : ℕ). IsTaking (taking_of l Write) next taking next) lock goes,
    )))

pub new-taking-requires-clause-named : goal.new-taking-requires-clause-named
new-taking-requires-clause-named c = list-named c.index_lock-lock.result c.args.world.now.map c.index_lock-lock.ensures

pub new-taking-requires-clause-free : goal.new-taking-requires-clause-free
new-taking-requires-clause-free c =
    let view = view_of c.args.pass.now in
    let next = view_of c.turn.new.pass in
    let way = c.requires.under_way in
    let id = way.first.id in
    let start = way.start in
    let looked = c.in-Done-Out.ensures.answers (looking_of start.config id Write ItsPhase) start (subst (AtDestroy id start view c.args.self.now.look) c.requires.stage way.goes.2) in
    let lock = c.index_lock-lock.ensures ∙ ap (λ (sizes : Config). index_lock sizes) (sym c.turn.ensures.of.sizes ∙ stripe-sizes id Write start next looked.stripe) in
    subst (λ (l : ℕ). HoldsNot next l) (sym lock) (list-free id start next way.goes.1 looked.stripe)

pub returns-in-Done-In-clause-turn : goal.returns-in-Done-In-clause-turn
returns-in-Done-In-clause-turn c =
    let next = view_of c.turn.new.pass in
    look-done c.args.self.now c.refuse.new.self c.turn.new.self c.in-Done-In.field-0 (Leaving (Err (InUse In))) (view_of c.args.pass.now) next c.refuse.result c.refuse.ensures.more c.refuse.ensures.stage c.requires.stage
    c.turn.ensures.step c.turn.ensures.made c.in-Done-In.ensures.answers (omega arith) tt (λ id start looked. found-used id start next c.in-Done-In.field-0 In (ap phase_found c.in-Done-In.field-0-is) (inr refl) looked)

pub returns-in-Done-Held-clause-turn : goal.returns-in-Done-Held-clause-turn
returns-in-Done-Held-clause-turn c =
    let next = view_of c.turn.new.pass in
    look-done c.args.self.now c.refuse-in-Done-Held.new.self c.turn.new.self c.in-Done-Held.field-0 (Leaving (Err (InUse Held))) (view_of c.args.pass.now) next c.refuse-in-Done-Held.result c.refuse-in-Done-Held.ensures.more c.refuse-in-Done-Held.ensures.stage c.requires.stage
    c.turn.ensures.step c.turn.ensures.made c.in-Done-Held.ensures.answers (omega arith) tt (λ id start looked. found-used id start next c.in-Done-Held.field-0 Held (ap phase_found c.in-Done-Held.field-0-is) (inl refl) looked)

pub returns-in-Done-Joined-clause-turn : goal.returns-in-Done-Joined-clause-turn
returns-in-Done-Joined-clause-turn c =
    let next = view_of c.turn.new.pass in
    look-done c.args.self.now c.refuse-in-Done-Joined.new.self c.turn.new.self c.in-Done-Joined.field-0 (Leaving (Err (InUse In))) (view_of c.args.pass.now) next c.refuse-in-Done-Joined.result c.refuse-in-Done-Joined.ensures.more c.refuse-in-Done-Joined.ensures.stage c.requires.stage
    c.turn.ensures.step c.turn.ensures.made c.in-Done-Joined.ensures.answers (omega arith) tt (λ id start looked. found-used id start next c.in-Done-Joined.field-0 In (ap phase_found c.in-Done-Joined.field-0-is) (inr refl) looked)

pub returns-in-More-clause-turn : goal.returns-in-More-clause-turn
returns-in-More-clause-turn c =
    look-more c.args.self.now _ c.turn.new.self (view_of c.args.pass.now) (view_of c.turn.new.pass) c.requires.stage refl c.turn.ensures.step c.turn.ensures.made c.in-More.ensures.loads c.in-More.ensures.keeps
    c.in-More.ensures.turned

pub returns-in-Again-clause-turn : goal.returns-in-Again-clause-turn
returns-in-Again-clause-turn c =
    look-again c.args.self.now _ c.turn.new.self (view_of c.args.pass.now) (view_of c.turn.new.pass) c.requires.stage refl c.turn.ensures.step c.turn.ensures.made c.in-Again.ensures.loads c.in-Again.ensures.keeps
    c.in-Again.lock c.in-Again.word c.in-Again.ensures.turned
