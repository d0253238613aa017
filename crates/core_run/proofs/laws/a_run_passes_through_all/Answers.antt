use Rattle.core_run.proofs.Passes.{has_run}
use Rattle.core_run.proofs.laws.a_run_passes_through_all.Goals as goal

pub returns : goal.returns
returns c = has_run
