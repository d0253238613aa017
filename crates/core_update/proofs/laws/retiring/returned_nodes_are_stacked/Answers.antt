use Rattle.core_update.proofs.StackedRuns.{run-stacked}
use Rattle.core_update.proofs.Stacked.{roots-stacked, tops-stacked, begun-few}
use Rattle.core_update.proofs.laws.retiring.returned_nodes_are_stacked.Goals as goal

pub returns-clause-begins : goal.returns-clause-begins
returns-clause-begins c = λ r. (roots-stacked r.merged).0

pub returns-clause-goes_on : goal.returns-clause-goes_on
returns-clause-goes_on c = tops-stacked

pub returns-clause-run : goal.returns-clause-run
returns-clause-run c = run-stacked

pub returns-clause-few : goal.returns-clause-few
returns-clause-few c = begun-few
