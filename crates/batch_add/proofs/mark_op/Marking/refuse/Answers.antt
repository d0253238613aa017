use Rattle.std.proofs.Common.{◌∙◌, sym, ap, subst}
use Rattle.word_map.specs.declared.config.Config.{Config}
use Rattle.word_map.specs.Names.{stripe_of}
use Rattle.pass_table.specs.Holding.{MayLetGo}
use Rattle.pass_table.specs.Passes.{view_of}
use Rattle.batch_add.specs.declared.mark_op.MarkStage.TheVariants.{Refusing}
use Rattle.batch_add.specs.stages.Marking.{marks_of, current}
use Rattle.pass_table.proofs.WorkLater.{worked-sizes}
use Rattle.batch_add.proofs.MarkEnds.{going-at, may-let_go, refused-turn}
use Rattle.batch_add.proofs.mark_op.Marking.refuse.Goals as goal

pub release-requires-clause-may : goal.release-requires-clause-may
release-requires-clause-may c =
    let view = view_of c.args.pass.now in
    let operation = c.args.self.now in
    let way = c.requires.under_way in
    let goes = way.goes.goes in
    let at = going-at operation (Refusing c.args.refused) way.start view goes c.requires.stage in
    let sizes = sym c.requires.of.sizes ∙ worked-sizes way.start view _ at.0.held.worked in
    subst (MayLetGo view) (sym (c.stripe.ensures.value ∙ ap (λ (s : Config). stripe_of s (current (marks_of operation)).index) sizes))
    (may-let_go way.start goes.before goes.batch operation.layer operation.slot (marks_of operation) goes.begun view _ at.0.held)

pub returns-clause-turn : goal.returns-clause-turn
returns-clause-turn c =
    let view = view_of c.args.pass.now in
    let operation = c.args.self.now in
    let stripe = c.stripe.ensures.value ∙ ap (λ (s : Config). stripe_of s (current (marks_of operation)).index) (sym c.requires.of.sizes) in
    refused-turn operation c.args.refused view (view_of c.release.new.pass) c.args.pass.now.number c.stripe.result _ c.args.pass.now.numbered c.requires.stage stripe c.release.ensures.step.1
