use Rattle.std.proofs.Common.{ℕ, ◌≤◌, Bool, Some, None, cond, eqb, inr, sym, subst, arith}
use Rattle.std.proofs.lemmas.Bool.{ne_eqb}
use Rattle.pass_table.specs.Passes.{view_of}
use Rattle.core_state.specs.Log.{IsPrefix}
use Rattle.core_state.proofs.Prefixes.{IsPrefix-trans}
use Rattle.pass_table.specs.Turning.{HasReached}
use Rattle.pass_table.proofs.Labels.{says-any}
use Rattle.pass_table.proofs.Turning.{still-made, looked-step}
use Rattle.world_tests.proofs.look_twice.LookTwiceOperation.turn.Goals as goal

pub returns-then-self-ge2-clause-made : goal.returns-then-self-ge2-clause-made
returns-then-self-ge2-clause-made c = still-made (view_of c.args.pass.now) c.args.pass.now.number c.args.pass.now.numbered

pub returns-clause-step : goal.returns-clause-step
returns-clause-step c = looked-step (view_of c.args.pass.now) (view_of c.look.new.self) c.look.ensures.looked

-- with two looks the second label is reached
reached_two : (looks : ℕ) → 2 ≤ looks → HasReached (cond (eqb looks 0) None (Some looks)) 2
reached_two looks two = subst (λ (t : Bool). HasReached (cond t None (Some looks)) 2) (sym (ne_eqb looks 0 (λ same. omega arith))) two

pub returns-then-self-ge2-clause-ends : goal.returns-then-self-ge2-clause-ends
returns-then-self-ge2-clause-ends c = inr (reached_two c.args.self.now.looks c.if-self-ge2.true)

pub returns-then-self-ge2-clause-says : goal.returns-then-self-ge2-clause-says
returns-then-self-ge2-clause-says c = λ first start under_way. says-any _ _ (λ label. IsPrefix start.known (view_of c.args.pass.now).known) (λ label. under_way.1)

pub returns-clause-says : goal.returns-clause-says
returns-clause-says c = λ first start under_way.
    let more = c.look.ensures.looked.more in
    says-any _ _ (λ label. IsPrefix start.known (view_of c.look.new.self).known)
    (λ label. IsPrefix-trans start.known (view_of c.args.pass.now).known (view_of c.look.new.self).known under_way.1 (more.since, more.known))
