use Rattle.batch_add.proofs.mark_op.Marking.mark_all.Goals as goal

pub loop-preserved-in-Looking : goal.loop-preserved-in-Looking
loop-preserved-in-Looking g c =
    let under = c.loop.invariant.1 in
    let keeps = c.look_all.ensures.keeps in (
      c.look_all.ensures.of,
      record { first = under.first; start = under.start; goes = keeps under.first under.start under.goes },
      λ first start goes. keeps first start (c.loop.invariant.2 first start goes),
    )

pub loop-preserved-in-Outside : goal.loop-preserved-in-Outside
loop-preserved-in-Outside g c =
    let under = c.loop.invariant.1 in
    let keeps = c.load_box.ensures.keeps in (
      c.load_box.ensures.of,
      record { first = under.first; start = under.start; goes = keeps under.first under.start under.goes },
      λ first start goes. keeps first start (c.loop.invariant.2 first start goes),
    )

-- a turn of the mark, or the last one of a body
pub returns-in-Done : goal.returns-in-Done
returns-in-Done g c = record { of = c.in-Done.ensures.of; answers = λ first start goes. c.in-Done.ensures.answers first start (c.loop.invariant.2 first start goes) }

pub loop-preserved-in-More : goal.loop-preserved-in-More
loop-preserved-in-More g c = (c.in-More.ensures.of, c.in-More.ensures.goes_on, λ first start goes. c.in-More.ensures.keeps first start (c.loop.invariant.2 first start goes))

pub loop-preserved : goal.loop-preserved
loop-preserved g c = (c.in-Again.ensures.of, c.in-Again.ensures.goes_on, λ first start goes. c.in-Again.ensures.keeps first start (c.loop.invariant.2 first start goes))
