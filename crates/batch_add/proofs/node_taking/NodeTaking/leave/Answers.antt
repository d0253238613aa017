use Rattle.std.proofs.Common.{sym, ◌∙◌, ap}
use Rattle.word_map.specs.declared.config.Config.{Config}
use Rattle.word_map.specs.Names.{pool_lock}
use Rattle.pass_table.specs.Passes.{view_of}
use Rattle.batch_add.proofs.TakingNodes.{may-leave, leave-turn}
use Rattle.batch_add.proofs.node_taking.NodeTaking.leave.Goals as goal

pub release-requires-clause-may : goal.release-requires-clause-may
release-requires-clause-may c =
    may-leave c.args.self.now c.args.answer (view_of c.args.pass.now) _ c.requires.under_way c.requires.stage (c.pool_lock.ensures ∙ ap (λ (sizes : Config). pool_lock sizes) (sym c.requires.of.sizes))

pub returns-clause-turn : goal.returns-clause-turn
returns-clause-turn c =
    leave-turn c.args.self.now c.args.answer (view_of c.args.pass.now) (view_of c.release.new.pass) c.args.pass.now.number _ _ c.args.pass.now.numbered c.requires.stage
    (c.pool_lock.ensures ∙ ap (λ (sizes : Config). pool_lock sizes) (sym c.requires.of.sizes)) c.release.ensures.step.1
