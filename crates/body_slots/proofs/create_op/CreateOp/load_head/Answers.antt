use Rattle.std.proofs.Common.{◌≡◌, ℕ, suc, ◌-◌, ◌<◌, Err, subst, arith}
use Rattle.word_map.specs.declared.config.Config.{Config}
use Rattle.pass_table.specs.Passes.{view_of}
use Rattle.body_slots.specs.stages.Creating.{AtCreate}
use Rattle.body_slots.specs.declared.create_op.CreateStage.TheVariants.{Locked, First, Leaving}
use Rattle.pass_table.proofs.Stages.{went-on}
use Rattle.body_slots.proofs.CreateTurns.{create_stages, head-step, head-made, head-first, head-none, has-list}
use Rattle.body_slots.proofs.create_op.CreateOp.load_head.Goals as goal

-- the head names this index
names : (head : ℕ) → (head ≡ 0 → ⊥) → head ≡ suc (head - 1)
names head some = omega arith

pub returns-then-head-eq0-clause-turn : goal.returns-then-head-eq0-clause-turn
returns-then-head-eq0-clause-turn c =
    let view = view_of c.args.pass.now in
    let next = view_of c.load_head-head.new.pass in
    let head = c.load_head-head.result in
    let loaded = c.load_head-head.ensures.loaded in
    went-on create_stages c.go_on.result c.args.self.now c.go_on.new.self Locked (Leaving (Err (record { head = head }))) view next c.go_on.ensures.more c.go_on.ensures.stage c.requires.stage
    (head-step view next head loaded) (head-made view next head loaded) (omega arith) tt (λ first start making at. head-none first start view next head loaded at c.if-head-eq0.true)

pub overflow_cast-head : goal.overflow_cast-head
overflow_cast-head c =
    let head = c.load_head-head.result in
    let loaded = c.load_head-head.ensures in
    let first = loaded.loaded.some (head - 1) (names head c.if-head-eq0.false) in
    let below = subst (λ (sizes : Config). head - 1 < sizes.bodies) loaded.of.sizes first.below in
    let most = c.args.world.now.in_limits.bodies in
    omega arith

pub returns-clause-turn : goal.returns-clause-turn
returns-clause-turn c =
    let view = view_of c.args.pass.now in
    let next = view_of c.load_head-head.new.pass in
    let head = c.load_head-head.result in
    let loaded = c.load_head-head.ensures.loaded in
    went-on create_stages c.go_on-2.result c.args.self.now c.go_on-2.new.self Locked (First (head - 1)) view next c.go_on-2.ensures.more c.go_on-2.ensures.stage c.requires.stage
    (head-step view next head loaded) (head-made view next head loaded) (omega arith) tt (λ first start making at. head-first first start view next head loaded at (head - 1) (names head c.if-head-eq0.false))

pub load_head-head-requires-clause-list : goal.load_head-head-requires-clause-list
load_head-head-requires-clause-list c =
    let view = view_of c.args.pass.now in
    let way = c.requires.under_way in
    let at = subst (AtCreate way.first way.start view) c.requires.stage way.goes.1 in
    has-list way.start view way.goes.0.rest at
