use Rattle.std.proofs.Common.{refl}
use Rattle.std.proofs.lemmas.Bool.{both_ways, false≢true}
use Rattle.shape_test.proofs.Later.{IsEntry-from_latest, EndAfter-from_within}
use Rattle.shape_test.proofs.segment_entry.entry.Goals as goal

pub returns-then-end_after-clause-touch : goal.returns-then-end_after-clause-touch
returns-then-end_after-clause-touch c =
    let s = c.args.s.now in
    let b = c.args.b.now in
    let f = c.latest_enter-enter.result in
    let e = IsEntry-from_latest s b c.in_ok-spans.spans f c.in_ok-spans.ensures.some c.latest_enter-enter.ensures (c.end_after.ensures.0 c.if-end_after.true) in
    (λ _. (f.n, (f.m, e.within)), λ _. refl)

pub returns-then-end_after-clause-value : goal.returns-then-end_after-clause-value
returns-then-end_after-clause-value c =
    IsEntry-from_latest c.args.s.now c.args.b.now c.in_ok-spans.spans _ c.in_ok-spans.ensures.some c.latest_enter-enter.ensures (c.end_after.ensures.0 c.if-end_after.true)

pub returns-else-end_after-clause-touch : goal.returns-else-end_after-clause-touch
returns-else-end_after-clause-touch c = (
  λ e. absurd (false≢true e),
  λ t. absurd (both_ways _ c.if-end_after.false (c.end_after.ensures.1 (EndAfter-from_within c.args.s.now c.args.b.now c.in_ok-spans.spans c.latest_enter-enter.result t.0 t.1.0 c.in_ok-spans.ensures.some c.latest_enter-enter.ensures t.1.1))),
)
