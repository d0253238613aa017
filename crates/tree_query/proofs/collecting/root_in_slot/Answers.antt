use Rattle.std.proofs.Common.{arith}
use Rattle.tree_query.proofs.WordWalks.{slot-empty, slot-root}
use Rattle.tree_query.proofs.collecting.root_in_slot.Goals as goal

pub returns-in-Empty : goal.returns-in-Empty
returns-in-Empty c = λ layer slot. let is = c.in-Empty.ensures.value in slot-empty layer slot c.args.word (omega arith)

pub returns-in-Reserved : goal.returns-in-Reserved
returns-in-Reserved c = λ layer slot.
    let is = c.in-Reserved.ensures.value in
    let low = c.in-Reserved.ensures.sound in
    slot-empty layer slot c.args.word (omega arith)

pub returns-in-Tree : goal.returns-in-Tree
returns-in-Tree c = λ layer slot. slot-root layer slot c.args.word c.in-Tree.root c.in-Tree.ensures.value
