use Rattle.pass_table.specs.Passes.{view_of}
use Rattle.pass_table.specs.Belongings.{belongings_of}
use Rattle.batch_add.specs.PreparedLists.{batches_of}
use Rattle.batch_add.proofs.PreparedLists.{all-others}
use Rattle.batch_add.proofs.Resting.{aborted-rest}
use Rattle.bench.proofs.batches.spending.abort_by_turns.Goals as goal

pub returns-clause-aborted : goal.returns-clause-aborted
returns-clause-aborted g c =
    c.drive.ensures.answers c.new-aborting.result (view_of c.args.pass.now) c.new-aborting.ensures.under_way c.args.batch c.requires.good c.new-aborting.ensures.kept

pub returns-clause-idle : goal.returns-clause-idle
returns-clause-idle g c = record { of = c.drive.ensures.of; rest = aborted-rest c.args.batch (view_of c.args.pass.now) (view_of c.drive.new.pass) (returns-clause-aborted g c) }

pub returns-clause-lists : goal.returns-clause-lists
returns-clause-lists g c list = all-others c.args.batch (batches_of list) (belongings_of (view_of c.args.pass.now)) (belongings_of (view_of c.drive.new.pass)) (returns-clause-aborted g c).others
