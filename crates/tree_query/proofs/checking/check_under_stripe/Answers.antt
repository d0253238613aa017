use Rattle.std.proofs.Common.{◌≡◌, ◌≢◌, ◌+◌, ◌%◌, ◌<◌, ℕ, refl, sym, subst, arith}
use Rattle.body_ident.specs.Id.{Id}
use Rattle.word_map.specs.declared.config.Config.{Config}
use Rattle.word_map.specs.declared.name.Name.TheVariants.{State}
use Rattle.core_state.specs.Lives.{under_stripe}
use Rattle.pass_table.specs.Calls.{AtPoint}
use Rattle.pass_table.specs.Passes.{view_of}
use Rattle.pass_table.proofs.Between.{more-refl, more-trans}
use Rattle.pass_table.proofs.Bodies.{loaded-body}
use Rattle.tree_query.specs.Checking.{HasNoHit, IsHitAfter}
use Rattle.tree_query.proofs.CandidateChecks.{point-within, none-live, hit-later, none-later}
use Rattle.tree_query.proofs.checking.check_under_stripe.Goals as goal

pub step_15-state-requires-clause-asks : goal.step_15-state-requires-clause-asks
step_15-state-requires-clause-asks c = under_stripe c.args.index c.requires.stripe.mode refl c.requires.stripe.stripe

pub returns-then-state-to_word-clause-more : goal.returns-then-state-to_word-clause-more
returns-then-state-to_word-clause-more c = (loaded-body (view_of c.args.pass.now) (view_of c.step_15-state.new.pass) (State c.args.index) c.step_15-state.result c.step_15-state.ensures.step).more

pub returns-then-state-to_word-clause-checked : goal.returns-then-state-to_word-clause-checked
returns-then-state-to_word-clause-checked c =
    let start = view_of c.args.pass.now in
    let next = view_of c.step_15-state.new.pass in
    let loaded = loaded-body start next (State c.args.index) c.step_15-state.result c.step_15-state.ensures.step in
    let below = subst (λ (s : Config). c.args.index < s.bodies) (sym c.step_15-state.ensures.of.sizes) c.requires.below in
    let word = c.to_word.ensures in
    let sequence = c.sequence_of-sequence.ensures in
    let other : c.step_15-state.result ≢ 256 + c.step_15-state.result % 256 = λ same. c.if-state-to_word.true (omega (arith, same, word, sequence)) in
    point-within start next next (λ s log. HasNoHit c.args.shape.now c.args.mask s c.args.index log) loaded.more (more-refl next loaded.now.alone)
    (none-live c.args.shape.now c.args.mask c.args.index next c.step_15-state.result loaded.now below loaded.word other)

pub returns-then-is_hit-clause-more : goal.returns-then-is_hit-clause-more
returns-then-is_hit-clause-more c =
    let start = view_of c.args.pass.now in
    let mid = view_of c.step_15-state.new.pass in
    more-trans start mid (view_of c.is_hit.new.pass) (loaded-body start mid (State c.args.index) c.step_15-state.result c.step_15-state.ensures.step).more c.is_hit.ensures.more

pub returns-else-is_hit-clause-more : goal.returns-else-is_hit-clause-more
returns-else-is_hit-clause-more c =
    let start = view_of c.args.pass.now in
    let mid = view_of c.step_15-state.new.pass in
    more-trans start mid (view_of c.is_hit.new.pass) (loaded-body start mid (State c.args.index) c.step_15-state.result c.step_15-state.ensures.step).more c.is_hit.ensures.more

pub returns-then-is_hit-clause-checked : goal.returns-then-is_hit-clause-checked
returns-then-is_hit-clause-checked c =
    let start = view_of c.args.pass.now in
    let mid = view_of c.step_15-state.new.pass in
    let next = view_of c.is_hit.new.pass in
    let id : c.new.result ≡ record { index = c.args.index; seq = c.sequence_of-sequence.result } = λ i. record { index = c.new.ensures.index i; seq = c.new.ensures.seq i } in
    subst (λ (d : Id). AtPoint start next (IsHitAfter c.args.shape.now c.args.mask start.config d)) id
    (hit-later c.args.shape.now c.args.mask c.new.result start mid next (loaded-body start mid (State c.args.index) c.step_15-state.result c.step_15-state.ensures.step).more (c.is_hit.ensures.hit c.if-is_hit.true))

pub returns-else-is_hit-clause-checked : goal.returns-else-is_hit-clause-checked
returns-else-is_hit-clause-checked c =
    let start = view_of c.args.pass.now in
    let mid = view_of c.step_15-state.new.pass in
    let next = view_of c.is_hit.new.pass in
    subst (λ (i : ℕ). AtPoint start next (HasNoHit c.args.shape.now c.args.mask start.config i)) c.new.ensures.index
    (none-later c.args.shape.now c.args.mask c.new.result.index start mid next (loaded-body start mid (State c.args.index) c.step_15-state.result c.step_15-state.ensures.step).more (c.is_hit.ensures.none c.if-is_hit.false))
