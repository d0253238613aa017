use Rattle.std.proofs.Common.{◌≡◌, ℕ, suc, ◌-◌, ◌<◌, subst, arith}
use Rattle.word_map.specs.declared.config.Config.{Config}
use Rattle.pass_table.specs.Passes.{view_of}
use Rattle.free_list.proofs.Popping.{list-kept, still-first, takes-first, popped, was-empty}
use Rattle.free_list.proofs.index_list.pop_index.Goals as goal

pub returns-then-head-eq0-clause-empty : goal.returns-then-head-eq0-clause-empty
returns-then-head-eq0-clause-empty c =
    was-empty (view_of c.args.pass.now) (view_of c.load_head-head.new.pass) c.load_head-head.result c.requires.list c.load_head-head.ensures.loaded c.if-head-eq0.true

-- the head names this index
names : (head : ℕ) → (head ≡ 0 → ⊥) → head ≡ suc (head - 1)
names head some = omega arith

below : (c : goal.Else-head-eq0) → c.load_head-head.result - 1 < c.args.world.now.map.bodies
below c =
    let head = c.load_head-head.ensures in
    let first = head.loaded.some (c.load_head-head.result - 1) (names c.load_head-head.result c.if-head-eq0.false) in
    subst (λ (sizes : Config). c.load_head-head.result - 1 < sizes.bodies) head.of.sizes first.below

pub overflow_cast-index : goal.overflow_cast-index
overflow_cast-index c = let most = c.args.world.now.in_limits.bodies in let less = below c in omega arith

pub load_link-link-requires-clause-below : goal.load_link-link-requires-clause-below
load_link-link-requires-clause-below c =
    let head = c.load_head-head.ensures in
    let first = head.loaded.some (c.load_head-head.result - 1) (names c.load_head-head.result c.if-head-eq0.false) in
    subst (λ (sizes : Config). c.load_head-head.result - 1 < sizes.bodies) head.of.sizes first.below

pub take_off-requires-clause-takes : goal.take_off-requires-clause-takes
take_off-requires-clause-takes c =
    let view = view_of c.args.pass.now in
    let one = view_of c.load_head-head.new.pass in
    let loaded = c.load_head-head.ensures.loaded in
    takes-first one (view_of c.load_link-link.new.pass) (c.load_head-head.result - 1) c.load_head-head.result c.load_link-link.result (list-kept view one loaded.more.rest c.requires.list)
    (names c.load_head-head.result c.if-head-eq0.false) loaded.is c.load_link-link.ensures.loaded

pub returns-clause-popped : goal.returns-clause-popped
returns-clause-popped c =
    let view = view_of c.args.pass.now in
    let one = view_of c.load_head-head.new.pass in
    let two = view_of c.load_link-link.new.pass in
    let next = view_of c.take_off.new.pass in
    let loaded = c.load_head-head.ensures.loaded in
    let index = c.load_head-head.result - 1 in
    let list = list-kept view one loaded.more.rest c.requires.list in
    let first = still-first one two index c.load_head-head.result c.load_link-link.result list (names c.load_head-head.result c.if-head-eq0.false) loaded.is c.load_link-link.ensures.loaded in
    popped view one two next c.args.pass.now.number index c.load_head-head.result c.load_link-link.result c.args.pass.now.numbered c.requires.list
    (names c.load_head-head.result c.if-head-eq0.false) loaded c.load_link-link.ensures.loaded (c.take_off.ensures.taken index first)
