use Rattle.std.proofs.Common.{◌≡◌, ℕ, ap, sym, ◌∙◌, subst}
use Rattle.word_map.specs.declared.config.Config.{Config}
use Rattle.word_map.specs.Names.{stripe_of}
use Rattle.core_state.specs.declared.view.Mode.TheVariants.{Read}
use Rattle.pass_table.specs.Holding.{MayLetGo, LetGo}
use Rattle.pass_table.specs.TakeTurns.{taking_of, HasTaken}
use Rattle.pass_table.specs.Passes.{view_of}
use Rattle.tree_query.proofs.OneCheck.{may-go, check-done, checked-so}
use Rattle.tree_query.proofs.checking.check_candidate.Goals as goal

pub release-requires-clause-may : goal.release-requires-clause-may
release-requires-clause-may g c =
    let start = view_of c.args.pass.now in
    let mid = view_of c.take_read.new.pass in
    let view = view_of c.check_under_stripe-answer.new.pass in
    let is : c.stripe_of-stripe.result ≡ stripe_of start.config c.args.index = c.stripe_of-stripe.ensures.value ∙ ap (λ (s : Config). stripe_of s c.args.index) (sym c.requires.idle.of.sizes) in
    let taken = subst (λ (l : ℕ). HasTaken (taking_of l Read) start mid) is c.take_read.ensures.taken in
    subst (MayLetGo view) (sym is) (may-go c.args.index start mid c.requires.idle.rest taken view c.check_under_stripe-answer.ensures.more)

pub returns-clause-done : goal.returns-clause-done
returns-clause-done g c =
    let start = view_of c.args.pass.now in
    let mid = view_of c.take_read.new.pass in
    let view = view_of c.check_under_stripe-answer.new.pass in
    let next = view_of c.release.new.pass in
    let is : c.stripe_of-stripe.result ≡ stripe_of start.config c.args.index = c.stripe_of-stripe.ensures.value ∙ ap (λ (s : Config). stripe_of s c.args.index) (sym c.requires.idle.of.sizes) in
    let taken = subst (λ (l : ℕ). HasTaken (taking_of l Read) start mid) is c.take_read.ensures.taken in
    let go = subst (λ (l : ℕ). LetGo view l c.release.ensures.step.0 next) is c.release.ensures.step.1 in
    check-done c.args.index start mid c.requires.idle.rest taken view next c.args.pass.now.number c.release.ensures.step.0 c.args.pass.now.numbered c.take_read.ensures.made c.check_under_stripe-answer.ensures.more go

pub returns-clause-checked : goal.returns-clause-checked
returns-clause-checked g c =
    let start = view_of c.args.pass.now in
    let mid = view_of c.take_read.new.pass in
    let is : c.stripe_of-stripe.result ≡ stripe_of start.config c.args.index = c.stripe_of-stripe.ensures.value ∙ ap (λ (s : Config). stripe_of s c.args.index) (sym c.requires.idle.of.sizes) in
    let taken = subst (λ (l : ℕ). HasTaken (taking_of l Read) start mid) is c.take_read.ensures.taken in
    checked-so c.args.index start mid c.requires.idle.rest taken c.args.shape.now c.args.mask (view_of c.check_under_stripe-answer.new.pass) (view_of c.release.new.pass) c.check_under_stripe-answer.result
    (c.release.ensures.adds.since, c.release.ensures.adds.known) c.check_under_stripe-answer.ensures.checked
