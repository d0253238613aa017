use Rattle.body_slots.proofs.create_op.CreateOp.create_first.Goals as goal

pub fill-requires-clause-under_way : goal.fill-requires-clause-under_way
fill-requires-clause-under_way c = let way = c.requires.under_way in record { first = way.first; start = way.start; goes = c.in-Ok.ensures.keeps way.first way.start way.goes }

pub returns-in-Ok-clause-keeps : goal.returns-in-Ok-clause-keeps
returns-in-Ok-clause-keeps c = λ first start making. c.fill.ensures.keeps first start (c.in-Ok.ensures.keeps first start making)
