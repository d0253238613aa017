use Rattle.std.proofs.Common.{ℕ, ap, sym, ◌∙◌}
use Rattle.pass_table.specs.LockSets.{bit_in}
use Rattle.pass_table.specs.Holding.{mode_by}
use Rattle.pass_table.specs.Passes.{view_of}
use Rattle.pass_table.proofs.Current.{free-rests}
use Rattle.pass_table.proofs.pass.Pass.is_idle.Goals as goal

pub returns-then-not-self-clause-rest : goal.returns-then-not-self-clause-rest
returns-then-not-self-clause-rest c empty =
    let pass = c.args.self.now in
    free-rests (view_of pass) (λ lock. sym (pass.holds lock) ∙ ap (λ (h : ℕ). mode_by h (bit_in pass.written lock)) (c.is_empty.ensures.0 empty lock)) (sym pass.walking ∙ c.if-not-self.true) pass.number pass.numbered pass.current
