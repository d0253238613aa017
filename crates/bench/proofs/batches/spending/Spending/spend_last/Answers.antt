use Rattle.pass_table.specs.Passes.{view_of}
use Rattle.bench.proofs.batches.spending.Spending.spend_last.Goals as goal

pub returns-in-Some-clause-good : goal.returns-in-Some-clause-good
returns-in-Some-clause-good g c =
    let view = view_of c.args.pass.now in
    c.spend.ensures.lists c.take-batch.new.self (c.take-batch.ensures.left view c.requires.good) (c.take-batch.ensures.beside view c.requires.good)
