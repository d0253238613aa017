use Rattle.pass_table.specs.Passes.{view_of}
use Rattle.batch_add.specs.declared.giving_up.GiveStage.TheVariants.{Striped, Cleared, Unmarked}
use Rattle.batch_add.specs.stages.GiveSteps.{AtStage, HasUnmarked}
use Rattle.batch_add.proofs.WholeGiving.{so-far-on}
use Rattle.batch_add.proofs.kept_batch.KeptBatch.unmark_next.Goals as goal

pub clear-requires-clause-so_far : goal.clear-requires-clause-so_far
clear-requires-clause-so_far g c =
    let done = c.args.done in
    so-far-on c.args.self.now (HasUnmarked done) (AtStage (Striped done)) (view_of c.args.pass.now) (view_of c.take_stripe.new.pass) c.requires.so_far c.take_stripe.ensures.leads

pub unmark-requires-clause-so_far : goal.unmark-requires-clause-so_far
unmark-requires-clause-so_far g c =
    let done = c.args.done in
    so-far-on c.args.self.now (HasUnmarked done) (AtStage (Cleared done)) (view_of c.args.pass.now) (view_of c.clear.new.pass) c.requires.so_far
    (λ start before batch after begun at. c.clear.ensures.leads start before batch after begun (c.take_stripe.ensures.leads start before batch after begun at))

pub leave_stripe-requires-clause-so_far : goal.leave_stripe-requires-clause-so_far
leave_stripe-requires-clause-so_far g c =
    let done = c.args.done in
    so-far-on c.args.self.now (HasUnmarked done) (AtStage (Unmarked done)) (view_of c.args.pass.now) (view_of c.unmark.new.pass) c.requires.so_far
    (λ start before batch after begun at.
    let cleared = c.clear.ensures.leads start before batch after begun (c.take_stripe.ensures.leads start before batch after begun at) in
    c.unmark.ensures.step.leads start before batch after begun cleared)

pub returns-clause-leads : goal.returns-clause-leads
returns-clause-leads g c start before batch after begun at =
    let striped = c.take_stripe.ensures.leads start before batch after begun at in
    let cleared = c.clear.ensures.leads start before batch after begun striped in
    let unmarked = c.unmark.ensures.step.leads start before batch after begun cleared in
    c.leave_stripe.ensures.step.leads start before batch after begun unmarked
