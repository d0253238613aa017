use Rattle.std.proofs.Common.{refl, arith, ◌<◌, sym, ◌∙◌, subst}
use Rattle.word_map.specs.declared.name.Name.TheVariants.{PoolNext}
use Rattle.pass_table.specs.Passes.{view_of}
use Rattle.word_map.specs.declared.config.Config.{Config}
use Rattle.pass_table.proofs.WorkLater.{worked-sizes}
use Rattle.batch_add.specs.stages.TakingNodes.{AtNodes}
use Rattle.batch_add.specs.declared.node_taking.NodeStage.TheVariants.{First, Linked}
use Rattle.batch_add.proofs.TakingNodes.{nodes-on, pool-step, pool-made, link-linked, taking-pool}
use Rattle.batch_add.proofs.node_taking.NodeTaking.load_link.Goals as goal

pub returns-clause-turn : goal.returns-clause-turn
returns-clause-turn c =
    let operation = c.args.self.now in
    let view = view_of c.args.pass.now in
    let next = view_of c.load_pool_link-link.new.pass in
    let node = c.args.node in
    let link = c.load_pool_link-link.result in
    let loaded = c.load_pool_link-link.ensures.loaded in
    nodes-on operation (record operation { stage = Linked node link }) (First node) view next c.requires.stage refl refl (pool-step view next (PoolNext node) link loaded.step) (pool-made view next (PoolNext node) link loaded.step)
    (omega arith) tt (λ first start under_way at. link-linked start operation view next node link under_way.rest loaded at)

pub load_pool_link-link-requires-clause-pool : goal.load_pool_link-link-requires-clause-pool
load_pool_link-link-requires-clause-pool c =
    let operation = c.args.self.now in
    let view = view_of c.args.pass.now in
    let way = c.requires.under_way in
    let at = subst (AtNodes way.start operation view) c.requires.stage way.goes.stage in
    taking-pool way.start view _ operation.taken way.goes.rest at.some.worked

pub load_pool_link-link-requires-clause-below : goal.load_pool_link-link-requires-clause-below
load_pool_link-link-requires-clause-below c =
    let operation = c.args.self.now in
    let view = view_of c.args.pass.now in
    let way = c.requires.under_way in
    let at = subst (AtNodes way.start operation view) c.requires.stage way.goes.stage in
    subst (λ (s : Config). c.args.node < s.nodes) (sym (worked-sizes way.start view _ at.some.worked) ∙ c.requires.of.sizes) at.below
