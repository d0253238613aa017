use Rattle.std.proofs.Common.{◌≢◌, ◌+◌, ◌%◌, None, refl, ◌∙◌, arith}
use Rattle.word_map.specs.declared.name.Name.TheVariants.{State}
use Rattle.pass_table.specs.Passes.{view_of}
use Rattle.tree_query.specs.declared.check_op.CheckStage.TheVariants.{Striped, Live, Leaving}
use Rattle.tree_query.proofs.CheckTurns.{load-stripe, load-below, load-on}
use Rattle.tree_query.proofs.CheckLoads.{state-live, state-none}
use Rattle.tree_query.proofs.check_op.Check.load_state.Goals as goal

pub load_of_body-state-requires-clause-named : goal.load_of_body-state-requires-clause-named
load_of_body-state-requires-clause-named c = load-below c.args.self.now Striped (view_of c.args.pass.now) c.requires.stage c.requires.under_way (λ shape mask start at. at) _ c.requires.of.sizes

pub load_of_body-state-requires-clause-stripe : goal.load_of_body-state-requires-clause-stripe
load_of_body-state-requires-clause-stripe c = load-stripe c.args.self.now Striped (view_of c.args.pass.now) c.requires.stage c.requires.under_way (λ shape mask start at. at)

pub returns-then-state-to_word-clause-turn : goal.returns-then-state-to_word-clause-turn
returns-then-state-to_word-clause-turn c = λ shape mask.
    let next = view_of c.load_of_body-state.new.pass in
    let load = c.load_of_body-state.ensures in
    let same = c.if-state-to_word.true in
    let number = c.to_word.ensures in
    let seq = c.sequence_of-sequence.result in
    load-on shape mask c.args.self.now c.go_on.new.self Striped (Live seq) c.args.self.now.words (view_of c.args.pass.now) next (State c.args.self.now.index) c.load_of_body-state.result
    c.go_on.ensures.stage c.requires.stage load.step load.made load.loaded tt c.go_on.result c.go_on.ensures.more (omega arith) (λ start at. at) (λ start at. at) (λ six. six)
    (λ start mid begun taken sizes more six knows. state-live c.args.self.now.index seq start next begun taken (load.loaded.word ∙ (omega arith)))

pub returns-clause-turn : goal.returns-clause-turn
returns-clause-turn c = λ shape mask.
    let next = view_of c.load_of_body-state.new.pass in
    let load = c.load_of_body-state.ensures in
    let state = c.load_of_body-state.result in
    let other : state ≢ 256 + state % 256 = λ same. (let word = c.to_word.ensures in let sequence = c.sequence_of-sequence.ensures in c.if-state-to_word.false (omega (arith, same, word, sequence))) in
    load-on shape mask c.args.self.now c.go_on-2.new.self Striped (Leaving None) c.args.self.now.words (view_of c.args.pass.now) next (State c.args.self.now.index) state
    c.go_on-2.ensures.stage c.requires.stage load.step load.made load.loaded tt c.go_on-2.result c.go_on-2.ensures.more (omega arith) (λ start at. at) (λ start at. at) (λ six. six)
    (λ start mid begun taken sizes more six knows.
    state-none shape mask c.args.self.now.index start mid (view_of c.args.pass.now) next sizes more (State c.args.self.now.index) state load.loaded refl begun other)
