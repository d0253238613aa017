use Rattle.std.proofs.Common.{◌∙◌}
use Rattle.pass_table.specs.Passes.{view_of}
use Rattle.pass_table.specs.Work.{idle}
use Rattle.pass_table.proofs.Current.{knows-lawful}
use Rattle.pass_table.proofs.Working.{done-keeps}
use Rattle.tree_query.proofs.WholeQueries.{has-queried}
use Rattle.tree_query.proofs.calls.query.Goals as goal

pub collect-requires-clause-still : goal.collect-requires-clause-still
collect-requires-clause-still g c = c.requires.idle.rest.still

pub returns-clause-lawful : goal.returns-clause-lawful
returns-clause-lawful g c = knows-lawful (view_of c.check_all.new.pass) c.check_all.new.pass.current

pub returns-clause-keeps : goal.returns-clause-keeps
returns-clause-keeps g c = done-keeps (view_of c.collect.new.pass) (view_of c.check_all.new.pass) (idle (view_of c.collect.new.pass)) c.check_all.ensures.done ∙ c.collect.ensures.keeps

pub returns-clause-queried : goal.returns-clause-queried
returns-clause-queried g c =
    has-queried c.args.shape.now c.args.mask (view_of c.args.pass.now) (view_of c.collect.new.pass) (view_of c.check_all.new.pass) c.collect.new.finder c.check_all.new.finder
    c.collect.ensures.collected c.check_all.ensures.done c.check_all.ensures.locks c.check_all.ensures.checked
