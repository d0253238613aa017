use Rattle.std.proofs.Common.{sym, ◌∙◌}
use Rattle.word_map.specs.Names.{stripe_of}
use Rattle.pass_table.specs.Passes.{view_of}
use Rattle.widen_bounds.proofs.MoveSteps.{leave-turn, may-leave-stripe}
use Rattle.widen_bounds.proofs.move_op.MoveOp.leave.Goals as goal

pub returns-clause-turn : goal.returns-clause-turn
returns-clause-turn c =
    let sizes = sym c.requires.of.sizes in
    leave-turn c.args.self.now c.args.answer (view_of c.args.pass.now) (view_of c.release.new.pass) c.args.pass.now.number _ _ c.args.pass.now.numbered c.requires.stage
    (c.stripe_of.ensures.value ∙ (λ i. stripe_of (sizes i) (c.index.ensures.value i))) c.release.ensures.step.1

pub release-requires-clause-may : goal.release-requires-clause-may
release-requires-clause-may c =
    let sizes = sym c.requires.of.sizes in
    may-leave-stripe c.args.self.now c.args.answer (view_of c.args.pass.now) _ c.requires.under_way c.requires.stage (c.stripe_of.ensures.value ∙ (λ i. stripe_of (sizes i) (c.index.ensures.value i)))
