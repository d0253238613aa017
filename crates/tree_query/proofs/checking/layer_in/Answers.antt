use Rattle.pass_table.specs.Passes.{view_of}
use Rattle.std.proofs.Common.{◌∙◌, sym}
use Rattle.pass_table.proofs.Between.{more-refl, more-trans}
use Rattle.pass_table.proofs.LockedBodies.{layer-stays}
use Rattle.tree_query.proofs.CandidateChecks.{seen-in, seen-none}
use Rattle.tree_query.proofs.checking.layer_in.Goals as goal

pub returns-in-In-clause-seen : goal.returns-in-In-clause-seen
returns-in-In-clause-seen c =
    let look = c.look_guarded.ensures in
    let load = c.load_layer.ensures in
    let view = view_of c.look_guarded.new.pass in
    let next = view_of c.load_layer.new.pass in
    seen-in c.args.id (view_of c.args.pass.now) view next look.more load.loaded.more look.guarded c.load_layer.result _ c.in-In.ensures.found
    (sym (layer-stays c.args.id view next look.guarded load.loaded.more) ∙ load.loaded.word)

pub returns-in-Joined-clause-seen : goal.returns-in-Joined-clause-seen
returns-in-Joined-clause-seen c =
    let look = c.look_guarded.ensures in
    let view = view_of c.look_guarded.new.pass in
    seen-in c.args.id (view_of c.args.pass.now) view view look.more (more-refl view look.now.alone) look.guarded c.in-Joined.layer _ c.in-Joined.ensures.found.0 c.in-Joined.ensures.found.1.lies

pub returns-in_default-clause-seen : goal.returns-in_default-clause-seen
returns-in_default-clause-seen c =
    let look = c.look_guarded.ensures in
    let view = view_of c.look_guarded.new.pass in
    seen-none c.args.id (view_of c.args.pass.now) view view look.more (more-refl view look.now.alone) look.guarded c.look_guarded.result look.now look.asked look.found c.in_default.not-In c.in_default.not-Joined

pub returns-in-In-clause-more : goal.returns-in-In-clause-more
returns-in-In-clause-more c = more-trans (view_of c.args.pass.now) (view_of c.look_guarded.new.pass) (view_of c.load_layer.new.pass) c.look_guarded.ensures.more c.load_layer.ensures.loaded.more
