use Rattle.std.proofs.Common.{◌≡◌, ℕ, ◌<◌, Some, sym, ◌∙◌, ap, subst, arith}
use Rattle.word_map.specs.declared.config.Config.{Config}
use Rattle.word_map.specs.Names.{pool_lock, lock_count}
use Rattle.core_state.specs.declared.view.Mode.TheVariants.{Write}
use Rattle.core_state.specs.declared.view.View.{View}
use Rattle.pass_table.specs.declared.take_op.TakeOp.{TakeOp}
use Rattle.pass_table.proofs.TakingTurns.{loads-none}
use Rattle.pass_table.specs.TakeTurns.{taking_of, IsTaking}
use Rattle.pass_table.specs.Passes.{view_of}
use Rattle.batch_add.specs.declared.giving_up.GiveStage.TheVariants.{Bare, Locking}
use Rattle.pass_table.proofs.WorkLater.{worked-sizes}
use Rattle.batch_add.specs.stages.GivingUp.{IsGiveTurn}
use Rattle.batch_add.specs.stages.GivingLater.{free-lock}
use Rattle.batch_add.specs.stages.GiveSteps.{HasLetSlotGo}
use Rattle.batch_add.proofs.GiveTurns.{so-far, went-on, ended, few-left}
use Rattle.batch_add.proofs.GiveBodies.{nodes-many}
use Rattle.batch_add.proofs.GiveSlot.{gives-none}
use Rattle.batch_add.proofs.giving_up.GivingUp.let_slot_go.Goals as goal

pub let_slot_go-requires-clause-so_far : goal.let_slot_go-requires-clause-so_far
let_slot_go-requires-clause-so_far c = so-far c.args.self.now Bare (view_of c.args.pass.now) c.requires.under_way c.requires.stage

pub returns-then-self-eq0-clause-turn : goal.returns-then-self-eq0-clause-turn
returns-then-self-eq0-clause-turn c =
    let kept = c.args.self.now.kept in
    let next = view_of c.let_slot_go.new.pass in
    ended c.args.self.now Bare (view_of c.args.pass.now) next c.requires.stage HasLetSlotGo c.let_slot_go.ensures.step
    (λ start before batch after begun gone. gives-none start before batch after kept begun next (nodes-many kept batch begun.keeps ∙ c.if-self-eq0.true) gone)

pub new-taking-requires-clause-free : goal.new-taking-requires-clause-free
new-taking-requires-clause-free c =
    let now = so-far c.args.self.now Bare (view_of c.args.pass.now) c.requires.under_way c.requires.stage in
    free-lock now.start (view_of c.let_slot_go.new.pass) _ now.begun.rest (c.let_slot_go.ensures.step.leads now.start now.before now.batch now.after now.begun now.at) _

pub returns-clause-turn : goal.returns-clause-turn
returns-clause-turn c =
    let operation = c.args.self.now in
    let kept = operation.kept in
    let view = view_of c.args.pass.now in
    let mid = view_of c.let_slot_go.new.pass in
    let step = c.let_slot_go.ensures.step in
    let taking = c.new-taking.result in
    let few = few-left taking in
    let still : view_of c.new-taking.new.pass ≡ mid = ap view_of c.new-taking.ensures.pass in
    let lock = c.pool_lock-lock.result in
    let goes : IsTaking (taking_of lock Write) mid taking mid = subst (λ (v : View). IsTaking (taking_of lock Write) mid taking v) still c.new-taking.ensures.under_way in
    subst (λ (v : View). IsGiveTurn c.go_on.result operation c.go_on.new.self view v) (sym still)
    (went-on c.go_on.result operation c.go_on.new.self Bare (Locking taking) view mid c.go_on.ensures.more c.go_on.ensures.stage c.requires.stage step.step step.made (omega arith)
    (loads-none view mid (Some taking) (ap (λ (t : TakeOp). t.loaded) c.new-taking.ensures.begun))
    (λ start before batch after begun at.
    let gone = step.leads start before batch after begun at in
    let many = nodes-many kept batch begun.keeps in
    let some = c.if-self-eq0.false in
    let named = c.pool_lock-lock.ensures ∙ ap (λ (s : Config). pool_lock s) (sym c.requires.of.sizes ∙ worked-sizes start view _ at.worked) in (
      more_nodes kept.node_count many some,
      gone,
      subst (λ (l : ℕ). IsTaking (taking_of l Write) mid taking mid) named goes,
    )))
  where
    more_nodes : {n : ℕ} (count : ℕ) → n ≡ count → (count ≡ 0 → ⊥) → 0 < n
    more_nodes count same some = omega arith

-- the lock of the pool is one of the world's
pool-named : (lock : ℕ) (c : Config) → lock ≡ pool_lock c → lock < lock_count c
pool-named lock c is = omega arith

pub new-taking-requires-clause-named : goal.new-taking-requires-clause-named
new-taking-requires-clause-named c = pool-named c.pool_lock-lock.result c.args.world.now.map c.pool_lock-lock.ensures
