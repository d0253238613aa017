use Rattle.std.proofs.Common.{ℕ, Ok, sym, ◌∙◌, ap, subst, arith}
use Rattle.word_map.specs.declared.config.Config.{Config}
use Rattle.word_map.specs.Names.{index_lock}
use Rattle.pass_table.specs.Holding.{LetGo}
use Rattle.pass_table.specs.Passes.{view_of}
use Rattle.pass_table.proofs.Calling.{released-step, released-made}
use Rattle.pass_table.proofs.WorkLater.{worked-sizes}
use Rattle.body_slots.specs.declared.destroy_op.DestroyStage.TheVariants.{Destroyed, Leaving}
use Rattle.body_slots.proofs.DestroyTurns.{destroy-on}
use Rattle.body_slots.proofs.DestroyEnds.{left-list, may-leave-list}
use Rattle.body_slots.proofs.destroy_op.DestroyOp.leave_list.Goals as goal

pub returns-clause-turn : goal.returns-clause-turn
returns-clause-turn c =
    let view = view_of c.args.pass.now in
    let next = view_of c.release.new.pass in
    let lock = c.index_lock.result in
    let go = c.release.ensures.step in
    destroy-on c.go_on.result c.args.self.now c.go_on.new.self Destroyed (Leaving (Ok tt)) view next c.go_on.ensures.more c.go_on.ensures.stage c.requires.stage
    (released-step view next lock go.0 go.1) (released-made view next lock go.0 go.1 c.args.pass.now.number c.args.pass.now.numbered) (omega arith) tt
    (λ first start making at.
    let named = c.index_lock.ensures ∙ ap (λ (sizes : Config). index_lock sizes) (sym c.requires.of.sizes ∙ worked-sizes start view _ at.0) in
    left-list first.id start view making.1 at next go.0 (subst (λ (l : ℕ). LetGo view l go.0 next) named go.1))

pub release-requires-clause-may : goal.release-requires-clause-may
release-requires-clause-may c =
    may-leave-list c.args.self.now (view_of c.args.pass.now) c.index_lock.result c.requires.under_way c.requires.stage (c.index_lock.ensures ∙ ap (λ (sizes : Config). index_lock sizes) (sym c.requires.of.sizes))
