use Rattle.pass_table.specs.Passes.{view_of}
use Rattle.batch_add.proofs.prepared_list.PreparedList.abort.Goals as goal

pub returns-clause-good : goal.returns-clause-good
returns-clause-good g c =
    let view = view_of c.args.pass.now in
    c.abort.ensures.lists c.take-batch.new.self (c.take-batch.ensures.left view c.requires.good) (c.take-batch.ensures.beside view c.requires.good)
