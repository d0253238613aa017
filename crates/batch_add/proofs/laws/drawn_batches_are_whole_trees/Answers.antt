use Rattle.batch_add.proofs.Shape.{drawn-tree}
use Rattle.batch_add.proofs.Whole.{drawn-whole}
use Rattle.batch_add.proofs.laws.drawn_batches_are_whole_trees.Goals as goal

pub returns-clause-whole : goal.returns-clause-whole
returns-clause-whole c = drawn-whole

pub returns-clause-stated : goal.returns-clause-stated
returns-clause-stated c = drawn-tree
