use Rattle.core_state.specs.declared.view.Mode.TheVariants.{Read}
use Rattle.pass_table.specs.Passes.{view_of}
use Rattle.pass_table.proofs.Trying.{exchanged-lock}
use Rattle.pass_table.proofs.locks.exchange_to_read.Goals as goal

pub returns-clause-exchanged : goal.returns-clause-exchanged
returns-clause-exchanged c =
    exchanged-lock Read (view_of c.args.pass.now) (view_of c.step_6.new.pass) c.args.lock c.args.word _ c.step_6.result c.step_6.ensures.step
