use Rattle.std.proofs.Common.{Ok, refl, arith, ◌≡◌, ℕ, ◌+◌, ◌-◌, sym, subst}
use Rattle.pass_table.specs.Passes.{view_of}
use Rattle.word_map.specs.declared.name.Name.TheVariants.{PoolFree}
use Rattle.core_state.specs.View.{known_word}
use Rattle.free_list.specs.Pool.{taken_in, given_in}
use Rattle.batch_add.specs.stages.TakingNodes.{AtNodes}
use Rattle.batch_add.specs.declared.node_taking.NodeStage.TheVariants.{Taken, Leaving}
use Rattle.batch_add.proofs.TakingNodes.{nodes-on, count-step, count-made, count-stored, may-count}
use Rattle.batch_add.proofs.node_taking.NodeTaking.store_free.Goals as goal

pub returns-clause-turn : goal.returns-clause-turn
returns-clause-turn c =
    let operation = c.args.self.now in
    let view = view_of c.args.pass.now in
    let next = view_of c.store_count.new.pass in
    let stored = c.store_count.ensures.stored in
    nodes-on operation (record operation { stage = Leaving (Ok tt) }) Taken view next c.requires.stage refl refl (count-step view next _ stored) (count-made view next _ stored c.args.pass.now.number c.args.pass.now.numbered) (omega arith) tt
    (λ first start under_way at. count-stored view next _ stored start operation under_way.rest under_way.long (let is = c.from.ensures in omega arith) at)

pub store_count-requires-clause-pool : goal.store_count-requires-clause-pool
store_count-requires-clause-pool c =
    let operation = c.args.self.now in
    let view = view_of c.args.pass.now in
    let way = c.requires.under_way in
    let asks = may-count way.start operation view way.goes.rest way.goes.some (subst (AtNodes way.start operation view) c.requires.stage way.goes.stage) in
    asks.0

pub store_count-requires-clause-pooling : goal.store_count-requires-clause-pooling
store_count-requires-clause-pooling c =
    let operation = c.args.self.now in
    let view = view_of c.args.pass.now in
    let way = c.requires.under_way in
    let asks = may-count way.start operation view way.goes.rest way.goes.some (subst (AtNodes way.start operation view) c.requires.stage way.goes.stage) in
    asks.1

pub store_count-requires-clause-counts : goal.store_count-requires-clause-counts
store_count-requires-clause-counts c =
    let operation = c.args.self.now in
    let view = view_of c.args.pass.now in
    let way = c.requires.under_way in
    let asks = may-count way.start operation view way.goes.rest way.goes.some (subst (AtNodes way.start operation view) c.requires.stage way.goes.stage) in
    subst (λ (n : ℕ). operation.free - n + taken_in view.call.task ≡ known_word view PoolFree + given_in view.call.task) (sym c.from.ensures) asks.2
