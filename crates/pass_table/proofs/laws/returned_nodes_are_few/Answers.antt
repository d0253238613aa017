use Rattle.core_update.proofs.Stacked.{begun-few}
use Rattle.core_update.proofs.StackedRuns.{run-stacked}
use Rattle.pass_table.proofs.Events.{all-run}
use Rattle.pass_table.proofs.laws.returned_nodes_are_few.Goals as goal

pub returns : goal.returns
returns c = λ config last seat number view r sizes run at pass has. begun-few last (all-run config last sizes run).laws seat number view r at pass has (run-stacked config last run seat view r at has)
