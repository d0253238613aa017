use Rattle.std.proofs.Common.{◌+◌, ◌*◌, refl, arith}
use Rattle.word_map.specs.Names.{pool_lock}
use Rattle.core_state.specs.declared.view.Mode.TheVariants.{Write}
use Rattle.pass_table.specs.TakeTurns.{taking_of}
use Rattle.pass_table.specs.Passes.{view_of}
use Rattle.pass_table.proofs.Calling.{some-left}
use Rattle.batch_add.specs.declared.giving_up.GiveStage.TheVariants.{Locking, Locked}
use Rattle.batch_add.proofs.GiveTurns.{went-on, take-more, take-again}
use Rattle.batch_add.proofs.GiveWork.{free-taken, free-goes}
use Rattle.batch_add.proofs.giving_up.GivingUp.take_pool.Goals as goal

pub returns-in-Done-clause-turn : goal.returns-in-Done-clause-turn
returns-in-Done-clause-turn c =
    let view = view_of c.args.pass.now in
    let next = view_of c.turn.new.pass in
    let taking = c.args.taking in
    let left = some-left taking in
    went-on c.go_on.result c.args.self.now c.go_on.new.self (Locking taking) Locked view next c.go_on.ensures.more c.go_on.ensures.stage c.requires.stage c.turn.ensures.step c.turn.ensures.made (omega arith) tt
    (λ start before batch after begun at.
    (at.0, free-taken start view next _ (pool_lock start.config) (c.in-Done.ensures.answers (taking_of (pool_lock start.config) Write) view at.2) c.turn.ensures.made at.1))

pub returns-in-More-clause-turn : goal.returns-in-More-clause-turn
returns-in-More-clause-turn c =
    let view = view_of c.args.pass.now in
    let next = view_of c.turn.new.pass in
    let taking = c.args.taking in
    take-more Locking (3 * c.args.self.now.kept.node_count + 3) c.args.self.now c.go_on-in-More.new.self (λ t. refl) (λ t. refl) taking c.turn.new.self view next c.go_on-in-More.ensures.stage c.requires.stage c.turn.ensures.step
    c.turn.ensures.made c.in-More.ensures.loads
    (λ start before batch after begun at.
    let on = free-goes start view next _ (pool_lock start.config) c.turn.new.self (c.in-More.ensures.keeps (taking_of (pool_lock start.config) Write) view at.2) c.turn.ensures.made at.1 in (at.0, on.0, on.1))
    c.go_on-in-More.result c.go_on-in-More.ensures.more c.in-More.ensures.turned

pub returns-in-Again-clause-turn : goal.returns-in-Again-clause-turn
returns-in-Again-clause-turn c =
    let view = view_of c.args.pass.now in
    let next = view_of c.turn.new.pass in
    let taking = c.args.taking in
    take-again Locking (3 * c.args.self.now.kept.node_count + 3) c.args.self.now c.go_on-in-Again.new.self (λ t. refl) (λ t. refl) taking c.turn.new.self view next c.go_on-in-Again.ensures.stage c.requires.stage c.turn.ensures.step
    c.turn.ensures.made c.in-Again.ensures.loads
    (λ start before batch after begun at.
    let on = free-goes start view next _ (pool_lock start.config) c.turn.new.self (c.in-Again.ensures.keeps (taking_of (pool_lock start.config) Write) view at.2) c.turn.ensures.made at.1 in (at.0, on.0, on.1))
    c.in-Again.lock c.in-Again.word c.in-Again.ensures.turned
