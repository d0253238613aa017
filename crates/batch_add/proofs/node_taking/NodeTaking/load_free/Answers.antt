use Rattle.std.proofs.Common.{Err, refl, arith, subst}
use Rattle.word_map.specs.declared.name.Name.TheVariants.{PoolFree}
use Rattle.pass_table.specs.Passes.{view_of}
use Rattle.batch_add.specs.stages.TakingNodes.{AtNodes}
use Rattle.batch_add.specs.declared.node_taking.NodeStage.TheVariants.{Locked, Next, Leaving}
use Rattle.batch_add.proofs.TakingNodes.{nodes-on, pool-step, pool-made, free-few, free-enough, locked-pool}
use Rattle.batch_add.proofs.node_taking.NodeTaking.load_free.Goals as goal

pub returns-then-free-from-clause-turn : goal.returns-then-free-from-clause-turn
returns-then-free-from-clause-turn c =
    let operation = c.args.self.now in
    let view = view_of c.args.pass.now in
    let next = view_of c.load_count-free.new.pass in
    let free = c.load_count-free.result in
    let loaded = c.load_count-free.ensures.loaded in
    nodes-on operation (record operation { stage = Leaving (Err free) }) Locked view next c.requires.stage refl refl (pool-step view next PoolFree free loaded.step) (pool-made view next PoolFree free loaded.step) (omega arith) tt
    (λ first start under_way at. free-few start operation view next free loaded at (let few = c.if-free-from.true in let is = c.from.ensures in omega arith))

pub returns-clause-turn : goal.returns-clause-turn
returns-clause-turn c =
    let operation = c.args.self.now in
    let view = view_of c.args.pass.now in
    let next = view_of c.load_count-free.new.pass in
    let free = c.load_count-free.result in
    let loaded = c.load_count-free.ensures.loaded in
    nodes-on operation (record operation { free = free; stage = Next }) Locked view next c.requires.stage refl refl (pool-step view next PoolFree free loaded.step) (pool-made view next PoolFree free loaded.step)
    (omega arith) tt (λ first start under_way at. free-enough start operation view next free loaded at under_way.some (let enough = c.if-free-from.false in let is = c.from.ensures in omega arith))

pub load_count-free-requires-clause-pool : goal.load_count-free-requires-clause-pool
load_count-free-requires-clause-pool c =
    let operation = c.args.self.now in
    let view = view_of c.args.pass.now in
    let way = c.requires.under_way in
    let at = subst (AtNodes way.start operation view) c.requires.stage way.goes.stage in
    locked-pool way.start view way.goes.rest at.0
