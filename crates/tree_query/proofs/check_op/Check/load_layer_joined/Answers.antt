use Rattle.std.proofs.Common.{refl, arith}
use Rattle.word_map.specs.declared.name.Name.TheVariants.{Layer}
use Rattle.pass_table.specs.Passes.{view_of}
use Rattle.pass_table.proofs.LockedBodies.{layer-fits}
use Rattle.tree_query.specs.declared.check_op.CheckStage.TheVariants.{Joining, Placed}
use Rattle.tree_query.specs.stages.CandidateCheck.{id_at}
use Rattle.tree_query.specs.stages.CheckLater.{guard-later}
use Rattle.tree_query.proofs.CheckTurns.{now-held, load-stripe, load-below, load-on}
use Rattle.tree_query.proofs.CheckLoads.{layer-placed}
use Rattle.tree_query.proofs.check_op.Check.load_layer_joined.Goals as goal

pub load_of_body-layer-requires-clause-named : goal.load_of_body-layer-requires-clause-named
load_of_body-layer-requires-clause-named c = load-below c.args.self.now (Joining c.args.sequence c.args.slot) (view_of c.args.pass.now) c.requires.stage c.requires.under_way (λ shape mask start at. at) _ c.requires.of.sizes

pub load_of_body-layer-requires-clause-stripe : goal.load_of_body-layer-requires-clause-stripe
load_of_body-layer-requires-clause-stripe c = load-stripe c.args.self.now (Joining c.args.sequence c.args.slot) (view_of c.args.pass.now) c.requires.stage c.requires.under_way (λ shape mask start at. at)

pub overflow_cast-layer : goal.overflow_cast-layer
overflow_cast-layer c =
    let view = view_of c.args.pass.now in
    let next = view_of c.load_of_body-layer.new.pass in
    let load = c.load_of_body-layer.ensures.loaded in
    let held = now-held c.args.self.now (Joining c.args.sequence c.args.slot) view c.requires.stage c.requires.under_way (λ shape mask start at. at) in
    let low = layer-fits (id_at c.args.self.now.index c.args.sequence) next (guard-later c.args.self.now.index c.args.sequence view next load.more held.knows.guarded) load.now c.load_of_body-layer.result load.word in
    omega arith

pub returns-clause-turn : goal.returns-clause-turn
returns-clause-turn c = λ shape mask.
    let view = view_of c.args.pass.now in
    let next = view_of c.load_of_body-layer.new.pass in
    let load = c.load_of_body-layer.ensures in
    let index = c.args.self.now.index in
    load-on shape mask c.args.self.now c.go_on.new.self (Joining c.args.sequence c.args.slot) (Placed c.args.sequence c.args.slot c.load_of_body-layer.result) c.args.self.now.words view next (Layer index) c.load_of_body-layer.result
    c.go_on.ensures.stage c.requires.stage load.step load.made load.loaded tt c.go_on.result c.go_on.ensures.more (omega arith) (λ start at. at) (λ start at. at) (λ six. six)
    (λ start mid begun taken sizes more six knows.
    layer-placed shape mask index start mid view next sizes more (Layer index) c.load_of_body-layer.result load.loaded c.args.sequence c.args.self.now.words c.args.slot refl knows)
