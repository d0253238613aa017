use Rattle.std.proofs.Common.{ℕ, ◌<◌, ◌≤◌, ◌∙◌, sym, ap, subst, arith}
use Rattle.body_ident.specs.Id.{Id}
use Rattle.word_map.specs.declared.config.Config.{Config}
use Rattle.word_map.specs.declared.name.Name.TheVariants.{Phase}
use Rattle.word_map.specs.Names.{stripe_of}
use Rattle.core_state.specs.declared.view.View.{View}
use Rattle.core_state.specs.View.{IsPass, number_of}
use Rattle.core_state.specs.Batches.{MayMark, mark}
use Rattle.pass_table.specs.Stepping.{Stored}
use Rattle.pass_table.specs.Passes.{view_of}
use Rattle.batch_add.specs.declared.mark_op.MarkStage.TheVariants.{Boxed}
use Rattle.batch_add.specs.stages.Marking.{marks_of, current, Notes}
use Rattle.pass_table.proofs.WorkLater.{worked-sizes}
use Rattle.batch_add.proofs.MarkEnds.{marked-few, going-at, may-mark, mark-turn}
use Rattle.batch_add.proofs.mark_op.Marking.mark.Goals as goal

pub step_19-requires-clause-asks : goal.step_19-requires-clause-asks
step_19-requires-clause-asks c =
    let view = view_of c.args.pass.now in
    let operation = c.args.self.now in
    let index = c.index-index.ensures.value ∙ ap (λ (i : Id). i.index) c.id.ensures in
    subst (λ (n : ℕ). MayMark view (Phase n) c.to_word.result 0) (sym index)
    (may-mark operation c.args.bounds view c.to_word.result c.requires.under_way c.requires.stage c.to_word.ensures)

pub note-requires-clause-fits : goal.note-requires-clause-fits
note-requires-clause-fits c =
    let view = view_of c.args.pass.now in
    let operation = c.args.self.now in
    let way = c.requires.under_way in
    let goes = way.goes.goes in
    let at = going-at operation (Boxed c.args.bounds) way.start view goes c.requires.stage in
    let sizes = sym (worked-sizes way.start view _ at.0.held.worked) ∙ c.requires.of.sizes in
    let few = subst (λ (s : Config). operation.marked ≤ s.bodies) sizes (marked-few operation.layer operation.slot way.start goes.before goes.batch (marks_of operation) goes.begun) in
    let most = c.args.world.now.in_limits.bodies in
    omega arith

pub returns-clause-turn : goal.returns-clause-turn
returns-clause-turn c =
    let view = view_of c.args.pass.now in
    let next = view_of c.step_19.new.pass in
    let operation = c.args.self.now in
    let new = c.note.new.self in
    let number = c.number.result in
    let stripe = c.stripe-stripe.result in
    let bounds = c.args.bounds in
    let value = c.to_word.result in
    let index = c.index-index.ensures.value ∙ ap (λ (i : Id). i.index) c.id.ensures in
    let pass : IsPass view number = ap (λ (v : View). number_of v) (sym c.step_19.ensures.step.1.leaves) ∙ c.number.ensures in
    let sizes = c.requires.of.sizes in
    mark-turn operation new number bounds stripe (subst (λ (n : ℕ). Notes operation new number n bounds stripe) index c.note.ensures) view next value c.to_word.ensures
    (subst (λ (n : ℕ). Stored MayMark mark view (Phase n) value next) index c.step_19.ensures.step) pass c.requires.stage
    (c.stripe-stripe.ensures.value ∙ ap (λ (s : Config). stripe_of s (current (marks_of operation)).index) (sym sizes)) (subst (λ (s : Config). stripe < s.stripes) (sym sizes) c.stripe-stripe.ensures.below) c.requires.under_way
