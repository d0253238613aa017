use Rattle.std.proofs.Common.{◌<◌, sym, subst}
use Rattle.word_map.specs.declared.config.Config.{Config}
use Rattle.pass_table.specs.Passes.{view_of}
use Rattle.free_list.proofs.Nodes.{pool-kept, is-linked, pushed-node}
use Rattle.free_list.proofs.node_pool.push_node.Goals as goal

pub store_pool_link-requires-clause-below : goal.store_pool_link-requires-clause-below
store_pool_link-requires-clause-below c =
    subst (λ (sizes : Config). c.args.item < sizes.nodes) c.requires.of.sizes (c.load_pool_head-head.ensures.loaded.loose c.args.item c.requires.may.loose)

pub put_node_in_front-requires-clause-link : goal.put_node_in_front-requires-clause-link
put_node_in_front-requires-clause-link c =
    let view = view_of c.args.pass.now in
    let one = view_of c.load_pool_head-head.new.pass in
    let loaded = c.load_pool_head-head.ensures.loaded in
    is-linked one (view_of c.store_pool_link.new.pass) c.args.item c.load_pool_head-head.result (pool-kept view one loaded.more.rest c.requires.may.pool) (sym loaded.is) c.store_pool_link.ensures.linked

pub returns-clause-pushed : goal.returns-clause-pushed
returns-clause-pushed c =
    pushed-node (view_of c.args.pass.now) (view_of c.load_pool_head-head.new.pass) (view_of c.store_pool_link.new.pass) (view_of c.put_node_in_front.new.pass) c.args.pass.now.number c.args.item
    c.load_pool_head-head.result c.args.pass.now.numbered c.requires.may.pool c.load_pool_head-head.ensures.loaded c.store_pool_link.ensures.linked c.put_node_in_front.ensures.given
