use Rattle.std.proofs.Common.{◌+◌, arith}
use Rattle.tree_plan.proofs.Runs.{need_of_run-quarters, need_of_run-next, need_of_run-few}
use Rattle.tree_plan.proofs.node_count.+below_node.Goals as goal

pub returns-else-n-eq1-clause-this : goal.returns-else-n-eq1-clause-this
returns-else-n-eq1-clause-this t c = need_of_run-quarters _ _ _ (omega arith) c.below_node-quarter.ensures.this c.below_node-quarter.ensures.next

pub returns-else-n-eq1-clause-next : goal.returns-else-n-eq1-clause-next
returns-else-n-eq1-clause-next t c = need_of_run-next _ _ _ (omega arith) c.below_node-quarter.ensures.this c.below_node-quarter.ensures.next

pub returns-else-n-eq1-clause-few : goal.returns-else-n-eq1-clause-few
returns-else-n-eq1-clause-few t c = omega (arith, returns-else-n-eq1-clause-this t c, need_of_run-few c.args.n)

pub returns-else-n-eq1-clause-next_few : goal.returns-else-n-eq1-clause-next_few
returns-else-n-eq1-clause-next_few t c = omega (arith, returns-else-n-eq1-clause-next t c, need_of_run-few (c.args.n + 1))
