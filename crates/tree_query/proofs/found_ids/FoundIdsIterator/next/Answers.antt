use Rattle.std.proofs.Common.{length, ap, rules}
use Rattle.tree_query.proofs.Ranges.{ids-first, ids-none}
use Rattle.tree_query.proofs.found_ids.FoundIdsIterator.next.Goals as goal

pub returns-in_err-index-clause-steps : goal.returns-in_err-index-clause-steps
returns-in_err-index-clause-steps c =
    let none = ids-none c.args.self.now.finder.now c.args.self.now.next c.in_err-index.ensures.none in
    rw c.from_residual.ensures (none, none)

pub returns-clause-steps : goal.returns-clause-steps
returns-clause-steps c = ids-first c.args.self.now.finder.now c.args.self.now.next c.in_ok-index.index c.id.result c.id.ensures c.in_ok-index.ensures.some c.in_ok-index.ensures.below

pub returns-clause-goes : goal.returns-clause-goes
returns-clause-goes c =
    let shorter = ap length (ids-first c.args.self.now.finder.now c.args.self.now.next c.in_ok-index.index c.id.result c.id.ensures c.in_ok-index.ensures.some c.in_ok-index.ensures.below) in
    search rules
