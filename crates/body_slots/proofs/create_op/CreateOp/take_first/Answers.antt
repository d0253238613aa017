use Rattle.std.proofs.Common.{◌≡◌, ℕ, suc, ◌-◌, ◌<◌, subst, arith}
use Rattle.word_map.specs.declared.config.Config.{Config}
use Rattle.pass_table.specs.Passes.{view_of}
use Rattle.free_list.proofs.Popping.{list-kept, still-first, takes-first}
use Rattle.body_slots.proofs.WholeCreate.{has-list-at, none-first, took-first}
use Rattle.body_slots.proofs.create_op.CreateOp.take_first.Goals as goal

pub returns-then-head-eq0-clause-keeps : goal.returns-then-head-eq0-clause-keeps
returns-then-head-eq0-clause-keeps c =
    none-first c.args.self.now (view_of c.args.pass.now) (view_of c.load_head-head.new.pass) c.load_head-head.result c.requires.stage c.load_head-head.ensures.loaded c.if-head-eq0.true

-- the head names this index
names : (head : ℕ) → (head ≡ 0 → ⊥) → head ≡ suc (head - 1)
names head some = omega arith

below : (c : goal.Else-head-eq0) → c.load_head-head.result - 1 < c.args.world.now.map.bodies
below c =
    let head = c.load_head-head.ensures in
    let first = head.loaded.some (c.load_head-head.result - 1) (names c.load_head-head.result c.if-head-eq0.false) in
    subst (λ (sizes : Config). c.load_head-head.result - 1 < sizes.bodies) head.of.sizes first.below

pub overflow_cast-index : goal.overflow_cast-index
overflow_cast-index c = let most = c.args.world.now.in_limits.bodies in let less = below c in omega arith

pub load_link-link-requires-clause-below : goal.load_link-link-requires-clause-below
load_link-link-requires-clause-below c =
    let head = c.load_head-head.ensures in
    let first = head.loaded.some (c.load_head-head.result - 1) (names c.load_head-head.result c.if-head-eq0.false) in
    subst (λ (sizes : Config). c.load_head-head.result - 1 < sizes.bodies) head.of.sizes first.below

pub take_off-requires-clause-takes : goal.take_off-requires-clause-takes
take_off-requires-clause-takes c =
    let head = c.load_head-head.result in
    let loaded = c.load_head-head.ensures.loaded in
    let view = view_of c.args.pass.now in
    let one = view_of c.load_head-head.new.pass in
    let held = list-kept view one loaded.more.rest (has-list-at c.args.self.now view c.requires.under_way c.requires.stage) in
    takes-first one (view_of c.load_link-link.new.pass) (head - 1) head c.load_link-link.result held (names head c.if-head-eq0.false) loaded.is c.load_link-link.ensures.loaded

pub returns-clause-keeps : goal.returns-clause-keeps
returns-clause-keeps c =
    let head = c.load_head-head.result in
    let link = c.load_link-link.result in
    let loaded = c.load_head-head.ensures.loaded in
    let linked = c.load_link-link.ensures.loaded in
    let view = view_of c.args.pass.now in
    let one = view_of c.load_head-head.new.pass in
    let two = view_of c.load_link-link.new.pass in
    let held = list-kept view one loaded.more.rest (has-list-at c.args.self.now view c.requires.under_way c.requires.stage) in
    let first = still-first one two (head - 1) head link held (names head c.if-head-eq0.false) loaded.is linked in
    took-first c.args.self.now view one two (view_of c.take_off.new.pass) (head - 1) head link c.requires.stage (names head c.if-head-eq0.false) loaded linked (c.take_off.ensures.taken (head - 1) first)
