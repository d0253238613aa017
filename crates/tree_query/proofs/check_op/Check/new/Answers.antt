use Rattle.std.proofs.Common.{[], ◌∷◌, ◌<◌, ◌∙◌, refl, ap, sym, subst}
use Rattle.word_map.specs.declared.config.Config.{Config}
use Rattle.word_map.specs.Names.{stripe_of}
use Rattle.pass_table.specs.Passes.{view_of}
use Rattle.tree_query.proofs.CheckTurns.{check-begun}
use Rattle.tree_query.proofs.check_op.Check.new.Goals as goal

pub returns-clause-under_way : goal.returns-clause-under_way
returns-clause-under_way c = λ shape mask.
    let sizes = c.requires.idle.of.sizes in
    check-begun shape mask c.args.index (0 ∷ 0 ∷ 0 ∷ 0 ∷ 0 ∷ 0 ∷ []) (view_of c.args.pass.now) (view_of c.new-taking.new.pass) c.new-taking.result c.stripe_of-stripe.result c.args.pass.now.number
    (c.stripe_of-stripe.ensures.value ∙ ap (λ (s : Config). stripe_of s c.args.index) (sym sizes)) c.args.pass.now.numbered
    (subst (λ (s : Config). c.args.index < s.bodies) (sym sizes) c.requires.below) c.requires.idle.rest refl (ap view_of c.new-taking.ensures.pass) c.new-taking.ensures.under_way
