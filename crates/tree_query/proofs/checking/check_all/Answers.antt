use Rattle.std.proofs.Common.{◌∙◌, sym}
use Rattle.pass_table.specs.Passes.{view_of}
use Rattle.pass_table.proofs.Working.{done-idle}
use Rattle.tree_query.proofs.AllChecks.{begins, all-checked, all-locks}
use Rattle.tree_query.proofs.checking.check_all.Goals as goal

pub loop-index-init : goal.loop-index-init
loop-index-init g c =
    let start = view_of c.args.pass.now in
    (c.requires.idle.of, begins c.args.shape.now c.args.mask start c.args.finder.now (done-idle start c.args.pass.now.number c.args.pass.now.numbered c.requires.idle.rest))

pub loop-index-preserved : goal.loop-index-preserved
loop-index-preserved g c =
    (c.check_next.ensures.of, c.check_next.ensures.goes (view_of c.args.pass.now) c.args.finder.now c.loop-index.next c.loop-index.invariant.1 c.in-Some.ensures.some)

pub check_next-requires-clause-idle : goal.check_next-requires-clause-idle
check_next-requires-clause-idle g c = record { of = c.loop-index.invariant.0; rest = c.loop-index.invariant.1.done.rest }

pub check_next-requires-clause-below : goal.check_next-requires-clause-below
check_next-requires-clause-below g c =
    let first = c.in-Some.ensures.some in
    c.requires.below c.in-Some.index (sym (c.loop-index.invariant.1.ahead c.in-Some.index first.above) ∙ first.is_in)

pub returns-clause-done : goal.returns-clause-done
returns-clause-done g c = c.loop-index.invariant.1.done

pub returns-clause-locks : goal.returns-clause-locks
returns-clause-locks g c = all-locks c.args.shape.now c.args.mask (view_of c.args.pass.now) c.args.finder.now (view_of c.loop-index.pass) c.loop-index.finder c.loop-index.next c.loop-index.invariant.1 c.in_default.ensures.none

pub returns-clause-checked : goal.returns-clause-checked
returns-clause-checked g c = all-checked c.args.shape.now c.args.mask (view_of c.args.pass.now) c.args.finder.now (view_of c.loop-index.pass) c.loop-index.finder c.loop-index.next c.loop-index.invariant.1 c.in_default.ensures.none
