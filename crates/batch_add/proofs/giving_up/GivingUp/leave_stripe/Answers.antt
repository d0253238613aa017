use Rattle.std.proofs.Common.{◌≡◌, ℕ, suc, ◌+◌, sym, subst, arith}
use Rattle.pass_table.specs.declared.pass.Pass.{Pass}
use Rattle.pass_table.specs.Passes.{view_of}
use Rattle.pass_table.proofs.TakingTurns.{loads-none}
use Rattle.batch_add.specs.declared.giving_up.GiveStage.TheVariants.{Unmarked}
use Rattle.batch_add.specs.stages.GivingUp.{ComesNext, takes_at, IsGiveTurn}
use Rattle.batch_add.specs.stages.GivingLater.{free-lock}
use Rattle.batch_add.proofs.GiveTurns.{so-far, went-on, next-less}
use Rattle.batch_add.proofs.GiveBodies.{body-less, comes-next}
use Rattle.batch_add.proofs.giving_up.GivingUp.leave_stripe.Goals as goal

pub leave_stripe-requires-clause-so_far : goal.leave_stripe-requires-clause-so_far
leave_stripe-requires-clause-so_far c = so-far c.args.self.now (Unmarked c.args.done) (view_of c.args.pass.now) c.requires.under_way c.requires.stage

pub overflow_add-done : goal.overflow_add-done
overflow_add-done c =
    let now = so-far c.args.self.now (Unmarked c.args.done) (view_of c.args.pass.now) c.requires.under_way c.requires.stage in
    let less = body-less c.args.self.now.kept now.batch now.begun.keeps c.args.done now.at.0 in
    omega arith

pub stage_after-stage-requires-clause-most : goal.stage_after-stage-requires-clause-most
stage_after-stage-requires-clause-most c =
    let now = so-far c.args.self.now (Unmarked c.args.done) (view_of c.args.pass.now) c.requires.under_way c.requires.stage in
    let less = body-less c.args.self.now.kept now.batch now.begun.keeps c.args.done now.at.0 in
    omega arith

pub stage_after-stage-requires-clause-free : goal.stage_after-stage-requires-clause-free
stage_after-stage-requires-clause-free c lock =
    let now = so-far c.args.self.now (Unmarked c.args.done) (view_of c.args.pass.now) c.requires.under_way c.requires.stage in
    let left = c.leave_stripe.ensures.step.leads now.start now.before now.batch now.after now.begun now.at in
    free-lock now.start (view_of c.leave_stripe.new.pass) _ now.begun.rest left.work lock

pub returns-clause-turn : goal.returns-clause-turn
returns-clause-turn c =
    let operation = c.args.self.now in
    let view = view_of c.args.pass.now in
    let mid = view_of c.leave_stripe.new.pass in
    let done = c.args.done in
    let stage = c.stage_after-stage.result in
    let step = c.leave_stripe.ensures.step in
    let more : done + 1 ≡ suc done = omega arith in
    let comes : ComesNext operation.kept (suc done) mid stage = subst (λ (n : ℕ). ComesNext operation.kept n mid stage) more c.stage_after-stage.ensures.stage in
    subst (λ (p : Pass). IsGiveTurn c.go_on.result operation c.go_on.new.self view (view_of p)) (sym c.stage_after-stage.ensures.pass)
    (went-on c.go_on.result operation c.go_on.new.self (Unmarked done) stage view mid c.go_on.ensures.more c.go_on.ensures.stage c.requires.stage step.step step.made (next-less operation.kept done mid stage comes)
    (loads-none view mid (takes_at stage) c.stage_after-stage.ensures.unloaded)
    (λ start before batch after begun at. comes-next start before batch after operation.kept begun mid (done + 1) (step.leads start before batch after begun at) stage c.stage_after-stage.ensures.stage))
