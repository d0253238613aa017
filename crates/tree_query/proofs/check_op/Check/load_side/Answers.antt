use Rattle.std.proofs.Common.{◌+◌, ◌∙◌, None, Some, set, refl, sym, arith}
use Rattle.std.proofs.lemmas.Bool.{false≢true}
use Rattle.std.proofs.lemmas.List.{length-set}
use Rattle.word_map.specs.declared.name.Name.TheVariants.{BoxWord}
use Rattle.pass_table.specs.Passes.{view_of}
use Rattle.tree_query.specs.declared.check_op.CheckStage.TheVariants.{Sides, Leaving}
use Rattle.tree_query.proofs.CheckTurns.{now-held, load-stripe, load-below, load-on}
use Rattle.tree_query.proofs.CheckLoads.{sides-go, sides-hit, sides-apart}
use Rattle.tree_query.proofs.check_op.Check.load_side.Goals as goal

pub load_of_body-word-requires-clause-named : goal.load_of_body-word-requires-clause-named
load_of_body-word-requires-clause-named c =
    let held = now-held c.args.self.now (Sides c.args.sequence c.args.loaded) (view_of c.args.pass.now) c.requires.stage c.requires.under_way (λ shape mask start at. at) in
    (load-below c.args.self.now (Sides c.args.sequence c.args.loaded) (view_of c.args.pass.now) c.requires.stage c.requires.under_way (λ shape mask start at. at) _ c.requires.of.sizes, held.knows.2)

pub load_of_body-word-requires-clause-stripe : goal.load_of_body-word-requires-clause-stripe
load_of_body-word-requires-clause-stripe c = load-stripe c.args.self.now (Sides c.args.sequence c.args.loaded) (view_of c.args.pass.now) c.requires.stage c.requires.under_way (λ shape mask start at. at)

pub returns-then-loaded-lt5-clause-turn : goal.returns-then-loaded-lt5-clause-turn
returns-then-loaded-lt5-clause-turn c = λ mask.
    let view = view_of c.args.pass.now in
    let next = view_of c.load_of_body-word.new.pass in
    let load = c.load_of_body-word.ensures in
    let index = c.args.self.now.index in
    load-on c.args.shape.now mask c.args.self.now c.go_on.new.self (Sides c.args.sequence c.args.loaded) (Sides c.args.sequence (c.args.loaded + 1)) (set c.args.self.now.words c.args.loaded c.load_of_body-word.result) view next (BoxWord index c.args.loaded) c.load_of_body-word.result
    c.go_on.ensures.stage c.requires.stage load.step load.made load.loaded tt c.go_on.result c.go_on.ensures.more (let less = c.if-loaded-lt5.true in omega arith) (λ start at. at) (λ start at. at) (λ six. length-set c.args.self.now.words c.args.loaded c.load_of_body-word.result ∙ six)
    (λ start mid begun taken sizes more six knows.
    sides-go c.args.shape.now mask index start mid view next sizes more (BoxWord index c.args.loaded) c.load_of_body-word.result load.loaded c.args.sequence c.args.self.now.words c.args.loaded six refl knows c.if-loaded-lt5.true)

pub returns-then-is_touching-clause-turn : goal.returns-then-is_touching-clause-turn
returns-then-is_touching-clause-turn c = λ mask.
    let view = view_of c.args.pass.now in
    let next = view_of c.load_of_body-word.new.pass in
    let load = c.load_of_body-word.ensures in
    let index = c.args.self.now.index in
    let held = now-held c.args.self.now (Sides c.args.sequence c.args.loaded) view c.requires.stage c.requires.under_way (λ shape mask start at. at) in
    load-on c.args.shape.now mask c.args.self.now c.go_on-then-is_touching.new.self (Sides c.args.sequence c.args.loaded) (Leaving (Some c.args.sequence)) (set c.args.self.now.words c.args.loaded c.load_of_body-word.result) view next (BoxWord index c.args.loaded) c.load_of_body-word.result
    c.go_on-then-is_touching.ensures.stage c.requires.stage load.step load.made load.loaded tt c.go_on-then-is_touching.result c.go_on-then-is_touching.ensures.more (let room = held.knows.2 in omega arith) (λ start at. at) (λ start at. at) (λ six. length-set c.args.self.now.words c.args.loaded c.load_of_body-word.result ∙ six)
    (λ start mid begun taken sizes more six knows.
    sides-hit c.args.shape.now mask index start mid view next sizes more (BoxWord index c.args.loaded) c.load_of_body-word.result load.loaded c.args.sequence c.args.self.now.words c.args.loaded six refl knows c.if-loaded-lt5.false (c.is_touching.ensures.0 c.if-is_touching.true))

pub returns-clause-turn : goal.returns-clause-turn
returns-clause-turn c = λ mask.
    let view = view_of c.args.pass.now in
    let next = view_of c.load_of_body-word.new.pass in
    let load = c.load_of_body-word.ensures in
    let index = c.args.self.now.index in
    let held = now-held c.args.self.now (Sides c.args.sequence c.args.loaded) view c.requires.stage c.requires.under_way (λ shape mask start at. at) in
    load-on c.args.shape.now mask c.args.self.now c.go_on-2.new.self (Sides c.args.sequence c.args.loaded) (Leaving None) (set c.args.self.now.words c.args.loaded c.load_of_body-word.result) view next (BoxWord index c.args.loaded) c.load_of_body-word.result
    c.go_on-2.ensures.stage c.requires.stage load.step load.made load.loaded tt c.go_on-2.result c.go_on-2.ensures.more (let room = held.knows.2 in omega arith) (λ start at. at) (λ start at. at) (λ six. length-set c.args.self.now.words c.args.loaded c.load_of_body-word.result ∙ six)
    (λ start mid begun taken sizes more six knows.
    sides-apart c.args.shape.now mask index start mid view next sizes more (BoxWord index c.args.loaded) c.load_of_body-word.result load.loaded c.args.sequence c.args.self.now.words c.args.loaded six refl knows c.if-loaded-lt5.false (λ touches. false≢true (sym c.if-is_touching.false ∙ c.is_touching.ensures.1 touches)))
