use Rattle.std.proofs.Common.{sym}
use Rattle.pass_table.specs.Passes.{view_of}
use Rattle.free_list.proofs.Popping.{list-kept, out-more, out-linked, is-linked, pushed}
use Rattle.free_list.proofs.index_list.push_index.Goals as goal

pub store_link-requires-clause-body : goal.store_link-requires-clause-body
store_link-requires-clause-body c = out-more (view_of c.args.pass.now) (view_of c.load_head-head.new.pass) c.args.item c.load_head-head.ensures.loaded.more c.requires.may.list c.requires.may.body

pub put_in_front-requires-clause-body : goal.put_in_front-requires-clause-body
put_in_front-requires-clause-body c =
    let view = view_of c.args.pass.now in
    let one = view_of c.load_head-head.new.pass in
    let more = c.load_head-head.ensures.loaded.more in
    out-linked one (view_of c.store_link.new.pass) c.args.item c.args.item _ (list-kept view one more.rest c.requires.may.list) c.store_link.ensures.linked
    (out-more view one c.args.item more c.requires.may.list c.requires.may.body)

pub put_in_front-requires-clause-link : goal.put_in_front-requires-clause-link
put_in_front-requires-clause-link c =
    let view = view_of c.args.pass.now in
    let one = view_of c.load_head-head.new.pass in
    let loaded = c.load_head-head.ensures.loaded in
    is-linked one (view_of c.store_link.new.pass) c.args.item _ (list-kept view one loaded.more.rest c.requires.may.list) (sym loaded.is) c.store_link.ensures.linked

pub returns-clause-pushed : goal.returns-clause-pushed
returns-clause-pushed c =
    pushed (view_of c.args.pass.now) (view_of c.load_head-head.new.pass) (view_of c.store_link.new.pass) (view_of c.put_in_front.new.pass) c.args.pass.now.number c.args.item _
    c.args.pass.now.numbered c.requires.may.list c.load_head-head.ensures.loaded c.store_link.ensures.linked c.put_in_front.ensures.put
