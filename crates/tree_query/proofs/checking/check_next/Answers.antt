use Rattle.pass_table.specs.Passes.{view_of}
use Rattle.tree_query.proofs.AllChecks.{goes-with, goes-without}
use Rattle.tree_query.proofs.checking.check_next.Goals as goal

pub returns-in-Some-clause-goes : goal.returns-in-Some-clause-goes
returns-in-Some-clause-goes g c = λ start before to now first.
    let check = c.check_candidate.ensures in
    goes-with c.args.shape.now c.args.mask start before (view_of c.args.pass.now) (view_of c.check_candidate.new.pass) c.args.finder.now c.put.new.self to c.args.index now first c.requires.room check.done check.locks
    c.put.ensures.room c.put.ensures.loads c.in-Some.sequence c.put.ensures.has c.put.ensures.seq c.in-Some.ensures.checked

pub returns-in-None-clause-goes : goal.returns-in-None-clause-goes
returns-in-None-clause-goes g c = λ start before to now first.
    let check = c.check_candidate.ensures in
    goes-without c.args.shape.now c.args.mask start before (view_of c.args.pass.now) (view_of c.check_candidate.new.pass) c.args.finder.now c.remove.new.self to c.args.index now first c.requires.room check.done check.locks
    c.remove.ensures.room c.remove.ensures.loads c.remove.ensures.has c.remove.ensures.seq c.in-None.ensures.checked
