use Rattle.std.proofs.Common.{sym, ◌∙◌, ap}
use Rattle.word_map.specs.declared.config.Config.{Config}
use Rattle.word_map.specs.Names.{index_lock}
use Rattle.pass_table.specs.Passes.{view_of}
use Rattle.body_slots.proofs.CreateEnds.{leave-turn, may-leave-list}
use Rattle.body_slots.proofs.create_op.CreateOp.leave.Goals as goal

pub returns-clause-turn : goal.returns-clause-turn
returns-clause-turn c =
    let view = view_of c.args.pass.now in
    let lock = c.index_lock.ensures ∙ ap (λ (sizes : Config). index_lock sizes) (sym c.requires.of.sizes) in
    leave-turn c.args.self.now c.args.answer view (view_of c.release.new.pass) c.args.pass.now.number c.index_lock.result _ c.args.pass.now.numbered c.requires.stage lock c.release.ensures.step.1

pub release-requires-clause-may : goal.release-requires-clause-may
release-requires-clause-may c =
    may-leave-list c.args.self.now c.args.answer (view_of c.args.pass.now) c.index_lock.result c.requires.under_way c.requires.stage (c.index_lock.ensures ∙ ap (λ (sizes : Config). index_lock sizes) (sym c.requires.of.sizes))
