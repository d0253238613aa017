use Rattle.batch_add.proofs.prepare_op.PrepareOp.finish.Goals as goal

-- all is marked and drawn, or a body is refused
pub returns-in-Marking-clause-answers : goal.returns-in-Marking-clause-answers
returns-in-Marking-clause-answers g c = λ first start goes. c.mark_and_draw.ensures.answers first start (c.loop.invariant.2 first start goes)

-- a turn of another part
pub returns-in-Done : goal.returns-in-Done
returns-in-Done g c = record { of = c.in-Done.ensures.of; answers = λ first start goes. c.in-Done.ensures.answers first start (c.loop.invariant.2 first start goes) }

pub loop-preserved-in-More : goal.loop-preserved-in-More
loop-preserved-in-More g c = (c.in-More.ensures.of, c.in-More.ensures.goes_on, λ first start goes. c.in-More.ensures.keeps first start (c.loop.invariant.2 first start goes))

pub loop-preserved : goal.loop-preserved
loop-preserved g c = (c.in-Again.ensures.of, c.in-Again.ensures.goes_on, λ first start goes. c.in-Again.ensures.keeps first start (c.loop.invariant.2 first start goes))
