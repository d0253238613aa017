use Rattle.std.proofs.Common.{◌≡◌, ℕ, ◌<◌, sym, ◌∙◌, subst}
use Rattle.word_map.specs.declared.config.Config.{Config}
use Rattle.word_map.specs.Limits.{IsConfig}
use Rattle.word_map.specs.Names.{stripe_of}
use Rattle.pass_table.specs.Passes.{view_of}
use Rattle.pass_table.specs.Holding.{MayLetGo, LetGo}
use Rattle.body_slots.proofs.Begun.{begun-for}
use Rattle.body_slots.proofs.DestroyEnds.{may-leave, has_left}
use Rattle.body_slots.proofs.whole_destroy.destroy_body.Goals as goal

pub destroy_found-answer-requires-clause-looked : goal.destroy_found-answer-requires-clause-looked
destroy_found-answer-requires-clause-looked g c =
    let view = view_of c.args.pass.now in
    let sizes = sym c.requires.idle.of.sizes in
    let begun = begun-for c.args.id view (subst IsConfig sizes c.args.world.now.in_limits) (subst (λ (s : Config). c.args.id.index < s.bodies) sizes c.requires.below) c.requires.idle.rest in
    (view, begun, c.look_at-found.ensures.looked)

pub release-requires-clause-may : goal.release-requires-clause-may
release-requires-clause-may g c =
    let start = view_of c.args.pass.now in
    let view = view_of c.destroy_found-answer.new.pass in
    let sizes = sym c.requires.idle.of.sizes in
    let begun = begun-for c.args.id start (subst IsConfig sizes c.args.world.now.in_limits) (subst (λ (s : Config). c.args.id.index < s.bodies) sizes c.requires.below) c.requires.idle.rest in
    let looked = c.look_at-found.ensures.looked in
    let stripe : c.stripe_of-stripe.result ≡ stripe_of start.config c.args.id.index = c.stripe_of-stripe.ensures.value ∙ (λ i. stripe_of (sizes i) (c.index.ensures.value i)) in
    subst (MayLetGo view) (sym stripe) (may-leave c.args.id start view c.destroy_found-answer.result begun (c.destroy_found-answer.ensures.keeps start begun looked))

pub returns-clause-ended : goal.returns-clause-ended
returns-clause-ended g c =
    let start = view_of c.args.pass.now in
    let view = view_of c.destroy_found-answer.new.pass in
    let sizes = sym c.requires.idle.of.sizes in
    let begun = begun-for c.args.id start (subst IsConfig sizes c.args.world.now.in_limits) (subst (λ (s : Config). c.args.id.index < s.bodies) sizes c.requires.below) c.requires.idle.rest in
    let looked = c.look_at-found.ensures.looked in
    let stripe : c.stripe_of-stripe.result ≡ stripe_of start.config c.args.id.index = c.stripe_of-stripe.ensures.value ∙ (λ i. stripe_of (sizes i) (c.index.ensures.value i)) in
    let next = view_of c.release.new.pass in
    (has_left c.args.id start view c.destroy_found-answer.result begun (c.destroy_found-answer.ensures.keeps start begun looked) next c.release.ensures.step.0 (subst (λ (l : ℕ). LetGo view l c.release.ensures.step.0 next) stripe c.release.ensures.step.1)).0

pub returns-clause-answer : goal.returns-clause-answer
returns-clause-answer g c =
    let start = view_of c.args.pass.now in
    let view = view_of c.destroy_found-answer.new.pass in
    let sizes = sym c.requires.idle.of.sizes in
    let begun = begun-for c.args.id start (subst IsConfig sizes c.args.world.now.in_limits) (subst (λ (s : Config). c.args.id.index < s.bodies) sizes c.requires.below) c.requires.idle.rest in
    let looked = c.look_at-found.ensures.looked in
    let stripe : c.stripe_of-stripe.result ≡ stripe_of start.config c.args.id.index = c.stripe_of-stripe.ensures.value ∙ (λ i. stripe_of (sizes i) (c.index.ensures.value i)) in
    let next = view_of c.release.new.pass in
    (has_left c.args.id start view c.destroy_found-answer.result begun (c.destroy_found-answer.ensures.keeps start begun looked) next c.release.ensures.step.0 (subst (λ (l : ℕ). LetGo view l c.release.ensures.step.0 next) stripe c.release.ensures.step.1)).1
