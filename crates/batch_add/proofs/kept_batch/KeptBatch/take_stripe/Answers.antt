use Rattle.std.proofs.Common.{ℕ, ◌≤◌, length, subst, arith}
use Rattle.word_map.specs.Names.{stripe_of}
use Rattle.core_state.specs.declared.view.Mode.TheVariants.{Write}
use Rattle.pass_table.specs.Passes.{view_of}
use Rattle.pass_table.specs.TakeTurns.{taking_of, HasTaken}
use Rattle.pass_table.proofs.WorkLater.{worked-sizes}
use Rattle.batch_add.specs.stages.GivingLater.{free-lock}
use Rattle.batch_add.proofs.GiveBodies.{stripe-is, body-next}
use Rattle.batch_add.proofs.GiveWork.{free-taken}
use Rattle.batch_add.proofs.kept_batch.KeptBatch.take_stripe.Goals as goal

pub stripe-stripe-requires : goal.stripe-stripe-requires
stripe-stripe-requires g c =
    let room : c.args.self.now.marked ≤ length c.args.self.now.indexes.items = c.requires.so_far.begun.keeps.room in
    let below = c.requires.below in
    record { below = omega arith }

pub take_write-requires-clause-order : goal.take_write-requires-clause-order
take_write-requires-clause-order g c held above = let now = c.requires.so_far in free-lock now.start (view_of c.args.pass.now) _ now.begun.rest now.at.work held

pub returns-clause-leads : goal.returns-clause-leads
returns-clause-leads g c start before batch after begun unmarked =
    let kept = c.args.self.now in
    let view = view_of c.args.pass.now in
    let next = view_of c.take_write.new.pass in
    let done = c.args.done in
    let there = body-next start before batch after kept begun view done unmarked c.requires.below in
    let same =
    stripe-is start before batch after kept begun view c.args.world.now.map c.requires.of.sizes (worked-sizes start view _ there.1.worked) done c.stripe-stripe.result there.0 c.stripe-stripe.ensures.value
    in (
      there.0,
      free-taken start view next _ (stripe_of start.config there.0.m.index) (subst (λ (l : ℕ). HasTaken (taking_of l Write) view next) same c.take_write.ensures.taken) c.take_write.ensures.made there.1,
    )
