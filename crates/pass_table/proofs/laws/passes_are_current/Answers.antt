use Rattle.pass_table.specs.Passes.{view_of}
use Rattle.pass_table.proofs.Current.{knows-lawful}
use Rattle.pass_table.proofs.laws.passes_are_current.Goals as goal

pub returns-clause-current : goal.returns-clause-current
returns-clause-current c = c.args.pass.now.current

pub returns-clause-lawful : goal.returns-clause-lawful
returns-clause-lawful c = knows-lawful (view_of c.args.pass.now) c.args.pass.now.current
