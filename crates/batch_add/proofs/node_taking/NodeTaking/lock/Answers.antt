use Rattle.std.proofs.Common.{refl, arith}
use Rattle.word_map.specs.Names.{pool_lock}
use Rattle.core_state.specs.declared.view.Mode.TheVariants.{Write}
use Rattle.pass_table.specs.TakeTurns.{taking_of}
use Rattle.pass_table.specs.Passes.{view_of}
use Rattle.pass_table.proofs.Calling.{some-left}
use Rattle.batch_add.specs.declared.node_taking.NodeStage.TheVariants.{Locking, Locked}
use Rattle.batch_add.proofs.TakingNodes.{nodes-on, lock-done, lock-on, lock-more, lock-again}
use Rattle.batch_add.proofs.node_taking.NodeTaking.lock.Goals as goal

pub returns-in-Done-clause-turn : goal.returns-in-Done-clause-turn
returns-in-Done-clause-turn c =
    let operation = c.args.self.now in
    let view = view_of c.args.pass.now in
    let next = view_of c.turn.new.pass in
    let taking = c.args.taking in
    let left = some-left taking in
    nodes-on operation (record operation { stage = Locked }) (Locking taking) view next c.requires.stage refl refl c.turn.ensures.step c.turn.ensures.made (omega arith) tt
    (λ first start under_way at. lock-done start operation view next taking (c.in-Done.ensures.answers (taking_of (pool_lock start.config) Write) view at.1) c.turn.ensures.made at)

pub returns-in-More-clause-turn : goal.returns-in-More-clause-turn
returns-in-More-clause-turn c =
    let operation = c.args.self.now in
    let view = view_of c.args.pass.now in
    let next = view_of c.turn.new.pass in
    let taking = c.args.taking in
    let after = c.turn.new.self in
    lock-more operation taking after view next c.requires.stage c.turn.ensures.step c.turn.ensures.made c.in-More.ensures.loads
    (λ start at. lock-on start operation view next taking after (c.in-More.ensures.keeps (taking_of (pool_lock start.config) Write) view at.1) c.turn.ensures.made at) c.in-More.ensures.turned

pub returns-in-Again-clause-turn : goal.returns-in-Again-clause-turn
returns-in-Again-clause-turn c =
    let operation = c.args.self.now in
    let view = view_of c.args.pass.now in
    let next = view_of c.turn.new.pass in
    let taking = c.args.taking in
    let after = c.turn.new.self in
    lock-again operation taking after view next c.requires.stage c.turn.ensures.step c.turn.ensures.made c.in-Again.ensures.loads
    (λ start at. lock-on start operation view next taking after (c.in-Again.ensures.keeps (taking_of (pool_lock start.config) Write) view at.1) c.turn.ensures.made at) c.in-Again.lock c.in-Again.word
    c.in-Again.ensures.turned
