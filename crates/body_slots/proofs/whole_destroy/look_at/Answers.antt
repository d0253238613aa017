use Rattle.std.proofs.Common.{◌<◌, sym, ◌∙◌, subst, arith}
use Rattle.word_map.specs.declared.config.Config.{Config}
use Rattle.word_map.specs.Names.{stripe_of}
use Rattle.pass_table.specs.Passes.{view_of}
use Rattle.body_slots.proofs.WholeLook.{striped, asks-state, found-none, is-live, found-live}
use Rattle.body_slots.proofs.whole_destroy.look_at.Goals as goal

pub take_write-requires-clause-order : goal.take_write-requires-clause-order
take_write-requires-clause-order g c = λ held after. c.requires.idle.rest.free held

pub step_15-state-requires-clause-asks : goal.step_15-state-requires-clause-asks
step_15-state-requires-clause-asks g c =
    let start = view_of c.args.pass.now in
    let sizes = sym c.requires.idle.of.sizes in
    let rest = c.requires.idle.rest in
    let lock = c.stripe_of-stripe.ensures.value ∙ (λ i. stripe_of (sizes i) (c.index-index.ensures.value i)) in
    let stripe = striped c.args.id start (view_of c.take_write.new.pass) c.stripe_of-stripe.result c.args.pass.now.number lock c.args.pass.now.numbered rest c.take_write.ensures.taken c.take_write.ensures.made in
    asks-state c.args.id start (view_of c.take_write.new.pass) c.index-index.result c.index-index.ensures.value rest stripe

pub returns-then-state-to_word-clause-looked : goal.returns-then-state-to_word-clause-looked
returns-then-state-to_word-clause-looked g c =
    let start = view_of c.args.pass.now in
    let sizes = sym c.requires.idle.of.sizes in
    let rest = c.requires.idle.rest in
    let lock = c.stripe_of-stripe.ensures.value ∙ (λ i. stripe_of (sizes i) (c.index-index.ensures.value i)) in
    let stripe = striped c.args.id start (view_of c.take_write.new.pass) c.stripe_of-stripe.result c.args.pass.now.number lock c.args.pass.now.numbered rest c.take_write.ensures.taken c.take_write.ensures.made in
    let below = subst (λ (s : Config). c.args.id.index < s.bodies) sizes c.requires.below in
    let one = view_of c.take_write.new.pass in
    let two = view_of c.step_15-state.new.pass in
    let state = c.step_15-state.result in
    let stepped = c.step_15-state.ensures.step in
    let number = c.to_word.ensures in
    let seq = c.seq.ensures in
    let other = c.if-state-to_word.true in
    found-none c.args.id start one two c.index-index.result state c.index-index.ensures.value rest below stripe stepped (λ same. other (omega arith))

pub look_guarded-requires-clause-guarded : goal.look_guarded-requires-clause-guarded
look_guarded-requires-clause-guarded g c =
    let start = view_of c.args.pass.now in
    let sizes = sym c.requires.idle.of.sizes in
    let rest = c.requires.idle.rest in
    let lock = c.stripe_of-stripe.ensures.value ∙ (λ i. stripe_of (sizes i) (c.index-index.ensures.value i)) in
    let stripe = striped c.args.id start (view_of c.take_write.new.pass) c.stripe_of-stripe.result c.args.pass.now.number lock c.args.pass.now.numbered rest c.take_write.ensures.taken c.take_write.ensures.made in
    let below = subst (λ (s : Config). c.args.id.index < s.bodies) sizes c.requires.below in
    let one = view_of c.take_write.new.pass in
    let two = view_of c.step_15-state.new.pass in
    let state = c.step_15-state.result in
    let stepped = c.step_15-state.ensures.step in
    let number = c.to_word.ensures in
    let seq = c.seq.ensures in
    let same = c.if-state-to_word.false in
    is-live c.args.id start one two c.index-index.result state c.index-index.ensures.value rest below stripe stepped (omega arith)

pub returns-clause-looked : goal.returns-clause-looked
returns-clause-looked g c =
    let start = view_of c.args.pass.now in
    let sizes = sym c.requires.idle.of.sizes in
    let rest = c.requires.idle.rest in
    let lock = c.stripe_of-stripe.ensures.value ∙ (λ i. stripe_of (sizes i) (c.index-index.ensures.value i)) in
    let stripe = striped c.args.id start (view_of c.take_write.new.pass) c.stripe_of-stripe.result c.args.pass.now.number lock c.args.pass.now.numbered rest c.take_write.ensures.taken c.take_write.ensures.made in
    let below = subst (λ (s : Config). c.args.id.index < s.bodies) sizes c.requires.below in
    let one = view_of c.take_write.new.pass in
    let two = view_of c.step_15-state.new.pass in
    let state = c.step_15-state.result in
    let stepped = c.step_15-state.ensures.step in
    let number = c.to_word.ensures in
    let seq = c.seq.ensures in
    let same = c.if-state-to_word.false in
    let told = c.look_guarded.ensures in
    found-live c.args.id start one two c.index-index.result state c.index-index.ensures.value rest below stripe stepped (omega arith) (view_of c.look_guarded.new.pass) c.look_guarded.result told.more told.now told.asked told.found
