use Rattle.std.proofs.Common.{sym, subst}
use Rattle.pass_table.specs.Passes.{view_of}
use Rattle.pass_table.specs.Belongings.{belongings_of}
use Rattle.batch_add.specs.declared.kept_batch.KeptBatch.{KeptBatch}
use Rattle.batch_add.specs.PreparedLists.{batches_of}
use Rattle.batch_add.specs.stages.Keeping.{IsBegunFor}
use Rattle.batch_add.proofs.AbortBegun.{prepared-begun, aborted-so}
use Rattle.batch_add.proofs.PreparedLists.{all-others}
use Rattle.batch_add.proofs.Resting.{aborted-rest}
use Rattle.batch_add.proofs.calls.abort.Goals as goal

pub returns-clause-aborted : goal.returns-clause-aborted
returns-clause-aborted g c =
    let batch = c.args.batch in
    let good = c.requires.good in
    let view = view_of c.args.pass.now in
    let begun = prepared-begun batch view good.before good.batch good.after good.bodies good.is c.requires.idle.rest in
    aborted-so batch view good.before good.batch good.after good.bodies good.is c.args.pass.now.current batch.number good.pass (view_of c.give_up.new.pass)
    (c.give_up.ensures.given_up good.before good.batch good.after (subst (λ (k : KeptBatch). IsBegunFor k view good.before good.batch good.after) (sym c.kept_of-kept.ensures.kept) begun))

pub returns-clause-others : goal.returns-clause-others
returns-clause-others g c = (returns-clause-aborted g c).others

pub returns-clause-idle : goal.returns-clause-idle
returns-clause-idle g c = record { of = c.give_up.ensures.of; rest = aborted-rest c.args.batch (view_of c.args.pass.now) (view_of c.give_up.new.pass) (returns-clause-aborted g c) }

pub returns-clause-lists : goal.returns-clause-lists
returns-clause-lists g c list = all-others c.args.batch (batches_of list) (belongings_of (view_of c.args.pass.now)) (belongings_of (view_of c.give_up.new.pass)) (returns-clause-aborted g c).others
