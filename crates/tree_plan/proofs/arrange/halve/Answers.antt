use Rattle.tree_plan.proofs.Halves.{front_from_split, back_from_split}
use Rattle.std.proofs.Common.{refl}
use Rattle.tree_plan.proofs.arrange.halve.Goals as goal

pub returns-clause-front : goal.returns-clause-front
returns-clause-front c =
    front_from_split _ _ _ _ c.widest-axis.ensures.axis refl c.requires.apart c.widest-axis.ensures.indexes c.split.ensures.permutation c.split.ensures.split

pub returns-clause-back : goal.returns-clause-back
returns-clause-back c =
    back_from_split _ _ _ _ c.widest-axis.ensures.axis refl c.requires.apart c.widest-axis.ensures.indexes c.split.ensures.permutation c.split.ensures.split
