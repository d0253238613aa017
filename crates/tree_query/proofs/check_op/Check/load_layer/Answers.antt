use Rattle.std.proofs.Common.{None, refl, arith}
use Rattle.word_map.specs.declared.name.Name.TheVariants.{Layer}
use Rattle.pass_table.specs.Passes.{view_of}
use Rattle.pass_table.proofs.LockedBodies.{layer-fits}
use Rattle.tree_query.specs.declared.check_op.CheckStage.TheVariants.{Inside, Sides, Leaving}
use Rattle.tree_query.specs.stages.CandidateCheck.{id_at}
use Rattle.tree_query.specs.stages.CheckLater.{guard-later}
use Rattle.tree_query.proofs.CandidateChecks.{none-asked, asked-of, unasked-of}
use Rattle.tree_query.proofs.CheckTurns.{now-held, load-stripe, load-below, load-on}
use Rattle.tree_query.proofs.CheckLoads.{layer-seen, sides-begin}
use Rattle.tree_query.proofs.check_op.Check.load_layer.Goals as goal

pub load_of_body-layer-requires-clause-named : goal.load_of_body-layer-requires-clause-named
load_of_body-layer-requires-clause-named c = load-below c.args.self.now (Inside c.args.sequence) (view_of c.args.pass.now) c.requires.stage c.requires.under_way (λ shape mask start at. at) _ c.requires.of.sizes

pub load_of_body-layer-requires-clause-stripe : goal.load_of_body-layer-requires-clause-stripe
load_of_body-layer-requires-clause-stripe c = load-stripe c.args.self.now (Inside c.args.sequence) (view_of c.args.pass.now) c.requires.stage c.requires.under_way (λ shape mask start at. at)

pub overflow_cast-layer : goal.overflow_cast-layer
overflow_cast-layer c =
    let view = view_of c.args.pass.now in
    let next = view_of c.load_of_body-layer.new.pass in
    let load = c.load_of_body-layer.ensures.loaded in
    let held = now-held c.args.self.now (Inside c.args.sequence) view c.requires.stage c.requires.under_way (λ shape mask start at. at) in
    let low = layer-fits (id_at c.args.self.now.index c.args.sequence) next (guard-later c.args.self.now.index c.args.sequence view next load.more held.knows.0) load.now c.load_of_body-layer.result load.word in
    omega arith

pub returns-then-not-is_asked-clause-turn : goal.returns-then-not-is_asked-clause-turn
returns-then-not-is_asked-clause-turn c = λ shape.
    let view = view_of c.args.pass.now in
    let next = view_of c.load_of_body-layer.new.pass in
    let load = c.load_of_body-layer.ensures in
    let index = c.args.self.now.index in
    load-on shape c.args.mask c.args.self.now c.go_on.new.self (Inside c.args.sequence) (Leaving None) c.args.self.now.words view next (Layer index) c.load_of_body-layer.result
    c.go_on.ensures.stage c.requires.stage load.step load.made load.loaded tt c.go_on.result c.go_on.ensures.more (omega arith) (λ start at. at) (λ start at. at) (λ six. six)
    (λ start mid begun taken sizes more six knows.
    none-asked shape c.args.mask (id_at index c.args.sequence) mid next c.load_of_body-layer.result (layer-seen shape c.args.mask index start mid view next sizes more (Layer index) c.load_of_body-layer.result load.loaded c.args.sequence refl knows.0 knows.1) (unasked-of c.args.mask c.load_of_body-layer.result c.is_asked.result c.is_asked.ensures c.if-not-is_asked.true))

pub returns-clause-turn : goal.returns-clause-turn
returns-clause-turn c = λ shape.
    let view = view_of c.args.pass.now in
    let next = view_of c.load_of_body-layer.new.pass in
    let load = c.load_of_body-layer.ensures in
    let index = c.args.self.now.index in
    load-on shape c.args.mask c.args.self.now c.go_on-2.new.self (Inside c.args.sequence) (Sides c.args.sequence 0) c.args.self.now.words view next (Layer index) c.load_of_body-layer.result
    c.go_on-2.ensures.stage c.requires.stage load.step load.made load.loaded tt c.go_on-2.result c.go_on-2.ensures.more (omega arith) (λ start at. at) (λ start at. at) (λ six. six)
    (λ start mid begun taken sizes more six knows.
    sides-begin shape c.args.mask index start mid view next sizes more (Layer index) c.load_of_body-layer.result load.loaded c.args.sequence c.args.self.now.words c.load_of_body-layer.result knows.0 (layer-seen shape c.args.mask index start mid view next sizes more (Layer index) c.load_of_body-layer.result load.loaded c.args.sequence refl knows.0 knows.1) (asked-of c.args.mask c.load_of_body-layer.result c.is_asked.result c.is_asked.ensures c.if-not-is_asked.false))
