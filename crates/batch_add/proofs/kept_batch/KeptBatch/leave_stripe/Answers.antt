use Rattle.std.proofs.Common.{◌≡◌, ℕ, suc, ◌+◌, sym, subst, arith}
use Rattle.core_state.specs.declared.view.Mode.TheVariants.{Write}
use Rattle.pass_table.specs.Holding.{MayLetGo, LetGo}
use Rattle.pass_table.specs.Passes.{view_of}
use Rattle.pass_table.proofs.Calling.{released-step, released-made}
use Rattle.pass_table.proofs.WorkLater.{worked-sizes}
use Rattle.batch_add.specs.stages.GiveSteps.{HasUnmarked}
use Rattle.batch_add.specs.stages.GivingLater.{under-lock}
use Rattle.batch_add.proofs.GiveBodies.{body-room, stripe-is, body-left}
use Rattle.batch_add.proofs.kept_batch.KeptBatch.leave_stripe.Goals as goal

pub stripe-requires : goal.stripe-requires
stripe-requires c = let now = c.requires.so_far in record { below = body-room c.args.self.now now.batch now.begun.keeps c.args.done now.at.0 }

pub release-requires-clause-may : goal.release-requires-clause-may
release-requires-clause-may c =
    let view = view_of c.args.pass.now in
    let now = c.requires.so_far in
    let same =
    stripe-is now.start now.before now.batch now.after c.args.self.now now.begun view c.args.world.now.map c.requires.of.sizes (worked-sizes now.start view _ now.at.1.worked) c.args.done c.stripe.result now.at.0
    c.stripe.ensures.value
    in
    subst (MayLetGo view) (sym same) (record { mode = Write; holds = under-lock now.start view _ now.begun.rest _ now.at.1; done = now.at.1.worked.doing })

pub returns-clause-step : goal.returns-clause-step
returns-clause-step c =
    let kept = c.args.self.now in
    let view = view_of c.args.pass.now in
    let next = view_of c.release.new.pass in
    let done = c.args.done in
    let found = c.release.ensures.step.0 in
    let go = c.release.ensures.step.1 in
    let more : suc done ≡ done + 1 = omega arith in
    record {
      step = released-step view next c.stripe.result found go;
      made = released-made view next c.stripe.result found go c.args.pass.now.number c.args.pass.now.numbered;
      leads = λ start before batch after begun at.
          let same =
          stripe-is start before batch after kept begun view c.args.world.now.map c.requires.of.sizes (worked-sizes start view _ at.1.worked) done c.stripe.result at.0 c.stripe.ensures.value
          in
          subst (λ (n : ℕ). HasUnmarked n start before batch after next) more
          (body-left start before batch after kept begun view done at.0 next found (subst (λ (l : ℕ). LetGo view l found next) same go) at.1);
    }
