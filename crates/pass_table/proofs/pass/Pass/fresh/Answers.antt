use Rattle.std.proofs.Common.{ap, sym, subst, arith}
use Rattle.core_state.specs.declared.view.View.{View}
use Rattle.core_state.specs.View.{number_of}
use Rattle.pass_table.specs.Holding.{AreHeld}
use Rattle.pass_table.specs.Bodies.{IsCurrent}
use Rattle.pass_table.proofs.Ruling.{fresh-held, blank-current}
use Rattle.pass_table.proofs.pass.Pass.fresh.Goals as goal

pub invariant_of-result-clause-few : goal.invariant_of-result-clause-few
invariant_of-result-clause-few c = let most = c.args.world.now.in_limits.passes in let below = c.requires.below in omega arith

pub invariant_of-result-clause-numbered : goal.invariant_of-result-clause-numbered
invariant_of-result-clause-numbered c = ap (λ (v : View). number_of v) c.requires.view

pub invariant_of-result-clause-holds : goal.invariant_of-result-clause-holds
invariant_of-result-clause-holds c = subst (λ (v : View). AreHeld c.none.result c.none-2.result v.locks) (sym c.requires.view) (fresh-held c.none.result c.none-2.result c.none.ensures)

pub invariant_of-result-clause-walking : goal.invariant_of-result-clause-walking
invariant_of-result-clause-walking c = ap (λ (v : View). v.walk.is_on) (sym c.requires.view)

pub invariant_of-result-clause-current : goal.invariant_of-result-clause-current
invariant_of-result-clause-current c = ∣ subst IsCurrent (sym c.requires.view) (blank-current c.args.world.now.map c.args.world.now.in_limits c.args.number c.requires.below) ∣₁
