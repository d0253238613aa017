use Rattle.std.proofs.Common.{refl, arith}
use Rattle.std.proofs.lemmas.Bool.{false≢true}
use Rattle.tree_plan.proofs.Rising.{AreApart-from_rising, rising_from_all, not_rising}
use Rattle.tree_plan.proofs.indexes.indexes_rise.Goals as goal

pub returns-then-bodies-i-clause-exact : goal.returns-then-bodies-i-clause-exact
returns-then-bodies-i-clause-exact c =
    (λ e. absurd (false≢true e), λ up. absurd (not_rising c.args.bodies.now c.loop-i.i _ _ (omega arith) (omega arith) c.if-bodies-i.true up))

pub returns-clause-exact : goal.returns-clause-exact
returns-clause-exact c = (λ _. rising_from_all c.args.bodies.now c.loop-i.i (omega arith) c.loop-i.invariant, λ _. refl)

pub returns-clause-apart : goal.returns-clause-apart
returns-clause-apart c = λ _. AreApart-from_rising c.args.bodies.now (rising_from_all c.args.bodies.now c.loop-i.i (omega arith) c.loop-i.invariant)
