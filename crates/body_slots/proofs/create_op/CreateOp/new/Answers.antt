use Rattle.std.proofs.Common.{◌<◌, ◌∙◌, ap, sym, subst}
use Rattle.word_map.specs.declared.config.Config.{Config}
use Rattle.word_map.specs.Names.{index_lock}
use Rattle.pass_table.specs.Passes.{view_of}
use Rattle.body_slots.proofs.Begun.{creating-begun}
use Rattle.body_slots.proofs.create_op.CreateOp.new.Goals as goal

pub returns-clause-under_way : goal.returns-clause-under_way
returns-clause-under_way c =
    let sizes = c.requires.idle.of.sizes in
    creating-begun c.args.layer c.args.bounds c.args.user (view_of c.args.pass.now) (view_of c.new-taking.new.pass) c.new-taking.result _ c.args.pass.now.number
    (c.index_lock-lock.ensures ∙ ap index_lock (sym sizes)) c.args.pass.now.numbered
    (subst (λ (s : Config). c.args.layer < s.layers) (sym sizes) c.requires.in_layers) c.ranges.user.fits c.requires.idle.rest (ap view_of c.new-taking.ensures.pass) c.new-taking.ensures.under_way
