use Rattle.std.proofs.Common.{◌∙◌, sym}
use Rattle.pass_table.specs.Passes.{view_of}
use Rattle.pass_table.proofs.Between.{more-trans}
use Rattle.body_look.proofs.Answering.{phase-told}
use Rattle.body_lock.proofs.Seeing.{seen-point}
use Rattle.body_lock.proofs.viewing.read_body.Goals as goal

pub returns-clause-seen : goal.returns-clause-seen
returns-clause-seen c =
    let id = c.args.id in
    let view = view_of c.look_guarded-found.new.pass in
    let two = view_of c.layer_of-layer.new.pass in
    let mid = view_of c.load_box-bounds.new.pass in
    let next = view_of c.load_user-user.new.pass in
    let found = c.look_guarded-found.ensures in
    let layer = c.layer_of-layer.ensures in
    let bounds = c.load_box-bounds.ensures in
    let user = c.load_user-user.ensures in
    let told = phase-told id view c.look_guarded-found.result c.in-Some.phase (sym c.phase.ensures ∙ c.in-Some.is) found.found in
    let boxed = more-trans view two mid layer.more bounds.more in
    seen-point id (view_of c.args.pass.now) view next found.more (more-trans view mid next boxed user.loaded.more) found.guarded told.0 c.layer_of-layer.result c.load_user-user.result
    c.load_box-bounds.result c.in-Some.phase layer.layer user.loaded.word (mid, boxed, bounds.bounds) told.1

pub returns-clause-more : goal.returns-clause-more
returns-clause-more c =
    let view = view_of c.look_guarded-found.new.pass in
    let two = view_of c.layer_of-layer.new.pass in
    let mid = view_of c.load_box-bounds.new.pass in
    let next = view_of c.load_user-user.new.pass in
    more-trans (view_of c.args.pass.now) view next c.look_guarded-found.ensures.more
    (more-trans view two next c.layer_of-layer.ensures.more (more-trans two mid next c.load_box-bounds.ensures.more c.load_user-user.ensures.loaded.more))
