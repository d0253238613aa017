use Rattle.std.proofs.Common.{◌≡◌, ℕ, None, Err, refl, ap, subst, arith}
use Rattle.pass_table.specs.Passes.{view_of}
use Rattle.scene_model.specs.declared.body_view.Phase.TheVariants.{Out as OutPhase, In as InPhase}
use Rattle.body_look.specs.Found.{phase_found}
use Rattle.body_look.proofs.Answering.{turn-left}
use Rattle.widen_bounds.specs.declared.answers.MoveRefused.TheVariants.{Gone, Held}
use Rattle.widen_bounds.specs.declared.move_op.MoveStage.TheVariants.{Found, Leaving}
use Rattle.widen_bounds.specs.stages.MoveLater.{in-apart, out-apart}
use Rattle.widen_bounds.proofs.MoveTurns.{look-more, look-again, look-done, found-free, found-gone, found-held}
use Rattle.widen_bounds.proofs.move_op.MoveOp.look.Goals as goal

pub returns-in-Done-Gone-clause-turn : goal.returns-in-Done-Gone-clause-turn
returns-in-Done-Gone-clause-turn c =
    let next = view_of c.turn.new.pass in
    look-done c.args.self.now c.go_on.new.self c.turn.new.self c.in-Done-Gone.field-0 (Leaving (Err (Gone c.in-Done-Gone.state))) (view_of c.args.pass.now) next c.go_on.result c.go_on.ensures.more
    (subst (λ (n : ℕ). c.go_on.new.self ≡ record c.args.self.now { look = c.turn.new.self; stage = Leaving (Err (Gone n)); made = None }) c.in-Done-Gone.state-is c.go_on.ensures.stage) c.requires.stage c.turn.ensures.step c.turn.ensures.made c.in-Done-Gone.ensures.answers (turn-left c.args.self.now.look) (omega arith) tt refl
    (λ id to start looked. found-gone id to start next c.turn.new.self c.args.self.now.widening c.in-Done-Gone.field-0 c.in-Done-Gone.state c.in-Done-Gone.field-0-is looked)

pub returns-in-Done-Out-clause-turn : goal.returns-in-Done-Out-clause-turn
returns-in-Done-Out-clause-turn c =
    let next = view_of c.turn.new.pass in
    look-done c.args.self.now c.go_on-in-Done-Out.new.self c.turn.new.self c.in-Done-Out.field-0 Found (view_of c.args.pass.now) next c.go_on-in-Done-Out.result c.go_on-in-Done-Out.ensures.more
    c.go_on-in-Done-Out.ensures.stage c.requires.stage c.turn.ensures.step c.turn.ensures.made c.in-Done-Out.ensures.answers (turn-left c.args.self.now.look) (omega arith) tt refl
    (λ id to start looked. found-free id start next c.in-Done-Out.field-0 OutPhase out-apart (ap phase_found c.in-Done-Out.field-0-is) looked)

pub returns-in-Done-In-clause-turn : goal.returns-in-Done-In-clause-turn
returns-in-Done-In-clause-turn c =
    let next = view_of c.turn.new.pass in
    look-done c.args.self.now c.go_on-in-Done-In.new.self c.turn.new.self c.in-Done-In.field-0 Found (view_of c.args.pass.now) next c.go_on-in-Done-In.result c.go_on-in-Done-In.ensures.more
    c.go_on-in-Done-In.ensures.stage c.requires.stage c.turn.ensures.step c.turn.ensures.made c.in-Done-In.ensures.answers (turn-left c.args.self.now.look) (omega arith) tt refl
    (λ id to start looked. found-free id start next c.in-Done-In.field-0 InPhase in-apart (ap phase_found c.in-Done-In.field-0-is) looked)

pub returns-in-Done-Held-clause-turn : goal.returns-in-Done-Held-clause-turn
returns-in-Done-Held-clause-turn c =
    let next = view_of c.turn.new.pass in
    look-done c.args.self.now c.go_on-in-Done-Held.new.self c.turn.new.self c.in-Done-Held.field-0 (Leaving (Err (Held c.in-Done-Held.word))) (view_of c.args.pass.now) next c.go_on-in-Done-Held.result c.go_on-in-Done-Held.ensures.more
    (subst (λ (n : ℕ). c.go_on-in-Done-Held.new.self ≡ record c.args.self.now { look = c.turn.new.self; stage = Leaving (Err (Held n)); made = None }) c.in-Done-Held.word-is c.go_on-in-Done-Held.ensures.stage) c.requires.stage c.turn.ensures.step c.turn.ensures.made c.in-Done-Held.ensures.answers (turn-left c.args.self.now.look) (omega arith) tt refl
    (λ id to start looked. found-held id to start next c.turn.new.self c.args.self.now.widening c.in-Done-Held.field-0 _ _ c.in-Done-Held.word c.in-Done-Held.field-0-is looked)

pub returns-in-Done-Joined-clause-turn : goal.returns-in-Done-Joined-clause-turn
returns-in-Done-Joined-clause-turn c =
    let next = view_of c.turn.new.pass in
    look-done c.args.self.now c.go_on-in-Done-Joined.new.self c.turn.new.self c.in-Done-Joined.field-0 Found (view_of c.args.pass.now) next c.go_on-in-Done-Joined.result c.go_on-in-Done-Joined.ensures.more
    c.go_on-in-Done-Joined.ensures.stage c.requires.stage c.turn.ensures.step c.turn.ensures.made c.in-Done-Joined.ensures.answers (turn-left c.args.self.now.look) (omega arith) tt refl
    (λ id to start looked. found-free id start next c.in-Done-Joined.field-0 InPhase in-apart (ap phase_found c.in-Done-Joined.field-0-is) looked)

pub returns-in-More-clause-turn : goal.returns-in-More-clause-turn
returns-in-More-clause-turn c =
    look-more c.args.self.now _ c.turn.new.self (view_of c.args.pass.now) (view_of c.turn.new.pass) c.requires.stage refl c.turn.ensures.step c.turn.ensures.made c.in-More.ensures.loads c.in-More.ensures.keeps
    c.in-More.ensures.turned

pub returns-in-Again-clause-turn : goal.returns-in-Again-clause-turn
returns-in-Again-clause-turn c =
    look-again c.args.self.now _ c.turn.new.self (view_of c.args.pass.now) (view_of c.turn.new.pass) c.requires.stage refl c.turn.ensures.step c.turn.ensures.made c.in-Again.ensures.loads c.in-Again.ensures.keeps
    c.in-Again.lock c.in-Again.word c.in-Again.ensures.turned
