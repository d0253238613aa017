use Rattle.std.proofs.Common.{sym, ◌∙◌, ap}
use Rattle.word_map.specs.declared.config.Config.{Config}
use Rattle.word_map.specs.Names.{stripe_of}
use Rattle.pass_table.specs.Passes.{view_of}
use Rattle.tree_query.proofs.CheckTurns.{may-leave, leave-turn}
use Rattle.tree_query.proofs.check_op.Check.leave.Goals as goal

pub release-requires-clause-may : goal.release-requires-clause-may
release-requires-clause-may c =
    may-leave c.args.self.now c.args.answer (view_of c.args.pass.now) _ c.requires.stage c.requires.under_way
    (c.stripe_of.ensures.value ∙ ap (λ (s : Config). stripe_of s c.args.self.now.index) (sym c.requires.of.sizes))

pub returns-clause-turn : goal.returns-clause-turn
returns-clause-turn c = λ shape mask.
    leave-turn shape mask c.args.self.now c.args.answer (view_of c.args.pass.now) (view_of c.release.new.pass) c.args.pass.now.number _ _ c.args.pass.now.numbered c.requires.stage
    (c.stripe_of.ensures.value ∙ ap (λ (s : Config). stripe_of s c.args.self.now.index) (sym c.requires.of.sizes)) (c.release.ensures.adds.since, c.release.ensures.adds.known) c.release.ensures.step.1
