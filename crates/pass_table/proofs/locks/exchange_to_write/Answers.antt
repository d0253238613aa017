use Rattle.core_state.specs.declared.view.Mode.TheVariants.{Write}
use Rattle.pass_table.specs.Passes.{view_of}
use Rattle.pass_table.proofs.Trying.{exchanged-lock}
use Rattle.pass_table.proofs.locks.exchange_to_write.Goals as goal

pub returns-clause-exchanged : goal.returns-clause-exchanged
returns-clause-exchanged c =
    exchanged-lock Write (view_of c.args.pass.now) (view_of c.step_7.new.pass) c.args.lock c.args.word _ c.step_7.result c.step_7.ensures.step
