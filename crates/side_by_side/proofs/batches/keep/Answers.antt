use Rattle.std.proofs.Common.{List, sym, subst}
use Rattle.pass_table.specs.Passes.{view_of}
use Rattle.batch_add.specs.declared.prepared.Prepared.{Prepared}
use Rattle.batch_add.specs.PreparedLists.{batches_of, AllApart}
use Rattle.side_by_side.proofs.batches.keep.Goals as goal

pub returns-in-Ok-clause-good : goal.returns-in-Ok-clause-good
returns-in-Ok-clause-good g c = c.in-Ok.ensures.good (view_of c.args.pass.now) c.requires.good c.requires.this c.requires.beside

pub returns-in-Err-clause-good : goal.returns-in-Err-clause-good
returns-in-Err-clause-good g c =
    let still = c.in-Err.ensures.still (view_of c.args.pass.now) c.requires.good in
    let there = subst (λ (batches : List Prepared). AllApart c.args.batch batches) (sym c.in-Err.ensures.full.1) c.requires.beside in
    c.abort.ensures.lists c.push.new.self still
    (subst (λ (b : Prepared). AllApart b (batches_of c.push.new.self)) (sym c.in-Err.ensures.full.0) there)
