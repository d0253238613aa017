use Rattle.pass_table.specs.Passes.{view_of}
use Rattle.bench.proofs.batches.prepare_one.Goals as goal

pub returns-in-Ok-prepare-clause-good : goal.returns-in-Ok-prepare-clause-good
returns-in-Ok-prepare-clause-good g c =
    let list = c.args.list.now in
    let good = c.requires.good in
    c.keep.ensures.good (view_of c.prepare.new.pass) (c.prepare.ensures.lists list good) c.in-Ok-prepare.ensures.good (c.in-Ok-prepare.ensures.listed list good)

pub returns-clause-good : goal.returns-clause-good
returns-clause-good g c = c.prepare.ensures.lists c.args.list.now c.requires.good
