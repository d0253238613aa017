use Rattle.std.proofs.Common.{◌≡◌, ◌≢◌, ℕ, suc, ◌-◌, ◌<◌, refl, subst, arith, ◌≤◌}
use Rattle.word_map.specs.declared.config.Config.{Config}
use Rattle.word_map.specs.declared.name.Name.TheVariants.{PoolHead}
use Rattle.pass_table.specs.Passes.{view_of}
use Rattle.batch_add.specs.declared.node_taking.NodeStage.TheVariants.{Next, First}
use Rattle.batch_add.specs.stages.TakingNodes.{AtNodes}
use Rattle.batch_add.proofs.TakingNodes.{nodes-on, pool-step, pool-made, head-some, head-first, taking-pool}
use Rattle.batch_add.proofs.node_taking.NodeTaking.load_first.Goals as goal

-- the head names this node
names : (head : ℕ) → head ≢ 0 → head ≡ suc (head - 1)
names head some = omega arith

at_least : (head : ℕ) → head ≢ 0 → 1 ≤ head
at_least head some = omega arith

pub overflow_cast-self : goal.overflow_cast-self
overflow_cast-self c =
    let operation = c.args.self.now in
    let view = view_of c.args.pass.now in
    let next = view_of c.load_pool_head-head.new.pass in
    let head = c.load_pool_head-head.result in
    let loaded = c.load_pool_head-head.ensures.loaded in
    let under_way = c.requires.under_way in
    let at = subst (AtNodes under_way.start operation view) c.requires.stage under_way.goes.stage in
    let node = loaded.some (head - 1) (names head (head-some under_way.start operation view next head under_way.goes.rest loaded at)) in
    let below = subst (λ (sizes : Config). head - 1 < sizes.nodes) c.requires.of.sizes node in
    let most = c.args.world.now.in_limits.nodes in
    omega arith

pub returns-clause-turn : goal.returns-clause-turn
returns-clause-turn c =
    let operation = c.args.self.now in
    let view = view_of c.args.pass.now in
    let next = view_of c.load_pool_head-head.new.pass in
    let head = c.load_pool_head-head.result in
    let loaded = c.load_pool_head-head.ensures.loaded in
    nodes-on operation (record operation { stage = First (head - 1) }) Next view next c.requires.stage refl refl (pool-step view next PoolHead head loaded.step) (pool-made view next PoolHead head loaded.step) (omega arith) tt
    (λ first start under_way at.
    head-first start operation view next head (head - 1) under_way.rest loaded (names head (head-some start operation view next head under_way.rest loaded at)) at)

pub load_pool_head-head-requires-clause-pool : goal.load_pool_head-head-requires-clause-pool
load_pool_head-head-requires-clause-pool c =
    let operation = c.args.self.now in
    let view = view_of c.args.pass.now in
    let way = c.requires.under_way in
    let at = subst (AtNodes way.start operation view) c.requires.stage way.goes.stage in
    taking-pool way.start view _ operation.taken way.goes.rest at.0.worked

pub overflow_sub-self : goal.overflow_sub-self
overflow_sub-self c =
    let operation = c.args.self.now in
    let view = view_of c.args.pass.now in
    let way = c.requires.under_way in
    let at = subst (AtNodes way.start operation view) c.requires.stage way.goes.stage in
    let some = head-some way.start operation view (view_of c.load_pool_head-head.new.pass) c.load_pool_head-head.result way.goes.rest c.load_pool_head-head.ensures.loaded at in
    at_least c.load_pool_head-head.result some
