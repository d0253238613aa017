use Rattle.std.proofs.Common.{length, arith}
use Rattle.scene_model.proofs.Trees.{tree-more, tree_within-permutes, nodes_of-tree_within, height_of-tree_within}
use Rattle.scene_model.proofs.laws.tree_holds_its_bodies.Goals as goal

pub returns-clause-node : goal.returns-clause-node
returns-clause-node c = tree-more

pub returns-clause-once : goal.returns-clause-once
returns-clause-once c = λ bodies. tree_within-permutes (length bodies) bodies (omega arith)

pub returns-clause-nodes : goal.returns-clause-nodes
returns-clause-nodes c = λ bodies. nodes_of-tree_within (length bodies) bodies

pub returns-clause-height : goal.returns-clause-height
returns-clause-height c = λ h bodies some fits. height_of-tree_within (length bodies) h bodies some fits
