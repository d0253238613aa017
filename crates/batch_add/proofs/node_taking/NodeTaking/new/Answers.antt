use Rattle.std.proofs.Common.{refl, sym, ◌∙◌, ap}
use Rattle.word_map.specs.declared.config.Config.{Config}
use Rattle.word_map.specs.Names.{pool_lock}
use Rattle.pass_table.specs.declared.take_op.TakeOp.{TakeOp}
use Rattle.pass_table.specs.Passes.{view_of}
use Rattle.batch_add.proofs.TakingNodes.{nodes-begun}
use Rattle.batch_add.proofs.node_taking.NodeTaking.new.Goals as goal

pub returns-clause-under_way : goal.returns-clause-under_way
returns-clause-under_way c =
    nodes-begun c.new-taking.result c.args.count (view_of c.args.pass.now) (view_of c.new-taking.new.pass) _ c.args.pass.now.number _ c.args.pass.now.numbered
    (c.pool_lock-lock.ensures ∙ ap (λ (sizes : Config). pool_lock sizes) (sym c.requires.of.sizes)) refl refl refl c.requires.nodes c.requires.some c.requires.preparing c.requires.rest (ap view_of c.new-taking.ensures.pass)
    c.new-taking.ensures.under_way

pub returns-clause-unloaded : goal.returns-clause-unloaded
returns-clause-unloaded c = ap (λ (t : TakeOp). t.loaded) c.new-taking.ensures.begun
