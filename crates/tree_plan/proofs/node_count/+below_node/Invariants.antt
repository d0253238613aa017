use Rattle.tree_plan.proofs.node_count.+below_node.Given as goal

abbrev pub decreases-below_node : goal.decreases-below_node
decreases-below_node l = l.n
