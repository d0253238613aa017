use Rattle.std.proofs.Common.{◌≡◌, ℕ, suc, ◌-◌, ◌<◌, subst, arith}
use Rattle.word_map.specs.declared.config.Config.{Config}
use Rattle.pass_table.specs.Passes.{view_of}
use Rattle.free_list.proofs.Nodes.{pool-kept, may-still, still-named, takes-node, popped-node, had-no-node}
use Rattle.free_list.proofs.node_pool.pop_node.Goals as goal

pub returns-then-head-eq0-clause-empty : goal.returns-then-head-eq0-clause-empty
returns-then-head-eq0-clause-empty c =
    had-no-node (view_of c.args.pass.now) (view_of c.load_pool_head-head.new.pass) c.load_pool_head-head.result c.requires.may.pool c.load_pool_head-head.ensures.loaded c.if-head-eq0.true

-- the head names this node
names : (head : ℕ) → (head ≡ 0 → ⊥) → head ≡ suc (head - 1)
names head some = omega arith

below : (c : goal.Else-head-eq0) → c.load_pool_head-head.result - 1 < c.args.world.now.map.nodes
below c =
    let head = c.load_pool_head-head.ensures in
    subst (λ (sizes : Config). c.load_pool_head-head.result - 1 < sizes.nodes) c.requires.of.sizes (head.loaded.some (c.load_pool_head-head.result - 1) (names c.load_pool_head-head.result c.if-head-eq0.false))

pub overflow_cast-node : goal.overflow_cast-node
overflow_cast-node c = let most = c.args.world.now.in_limits.nodes in let less = below c in omega arith

pub load_pool_link-link-requires-clause-below : goal.load_pool_link-link-requires-clause-below
load_pool_link-link-requires-clause-below c =
    subst (λ (sizes : Config). c.load_pool_head-head.result - 1 < sizes.nodes) c.requires.of.sizes
    (c.load_pool_head-head.ensures.loaded.some (c.load_pool_head-head.result - 1) (names c.load_pool_head-head.result c.if-head-eq0.false))

pub take_node_off-requires-clause-takes : goal.take_node_off-requires-clause-takes
take_node_off-requires-clause-takes c =
    let view = view_of c.args.pass.now in
    let one = view_of c.load_pool_head-head.new.pass in
    let loaded = c.load_pool_head-head.ensures.loaded in
    takes-node one (view_of c.load_pool_link-link.new.pass) (c.load_pool_head-head.result - 1) c.load_pool_head-head.result c.load_pool_link-link.result (may-still view one loaded.more.rest c.requires.may)
    (names c.load_pool_head-head.result c.if-head-eq0.false) loaded.is c.load_pool_link-link.ensures.loaded

pub returns-clause-popped : goal.returns-clause-popped
returns-clause-popped c =
    let view = view_of c.args.pass.now in
    let one = view_of c.load_pool_head-head.new.pass in
    let two = view_of c.load_pool_link-link.new.pass in
    let next = view_of c.take_node_off.new.pass in
    let loaded = c.load_pool_head-head.ensures.loaded in
    let head = c.load_pool_head-head.result in
    let link = c.load_pool_link-link.result in
    let pool = c.requires.may.pool in
    let first = still-named one two (head - 1) head link (pool-kept view one loaded.more.rest pool) (names head c.if-head-eq0.false) loaded.is c.load_pool_link-link.ensures.loaded in
    popped-node view one two next c.args.pass.now.number (head - 1) head link c.args.pass.now.numbered pool (names head c.if-head-eq0.false) loaded c.load_pool_link-link.ensures.loaded
    (c.take_node_off.ensures.taken (head - 1) first)
