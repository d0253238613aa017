use Rattle.std.proofs.Common.{◌<◌, ap, sym, subst}
use Rattle.std.specs.Prelude.{All}
use Rattle.word_map.specs.declared.config.Config.{Config}
use Rattle.word_map.specs.Limits.{IsConfig}
use Rattle.pass_table.specs.Passes.{view_of}
use Rattle.body_lock.specs.Stripes.{AreStripesOf}
use Rattle.body_lock.proofs.ReadingAll.{some-stripe, all-begun, stripes-within}
use Rattle.body_lock.proofs.multi_op.LockMultiOp.new.Goals as goal

pub unreachable-requires : goal.unreachable-requires
unreachable-requires c = some-stripe c.args.world.now.map c.args.ids.now c.stripes_of-stripes.result.bits c.stripes_of-stripes.ensures c.requires.some c.in-None.ensures.none

pub returns-clause-under_way : goal.returns-clause-under_way
returns-clause-under_way c =
    let sizes = sym c.requires.idle.of.sizes in
    let view = view_of c.args.pass.now in
    let are = subst (λ (s : Config). AreStripesOf s c.args.ids.now c.stripes_of-stripes.result.bits) sizes c.stripes_of-stripes.ensures in
    all-begun c.wanted_of.result c.mode_of-mode.result c.stripes_of-stripes.result c.new-2.result c.args.ids.now view (view_of c.new.new.pass) c.in-Some.stripe c.args.pass.now.number c.new.result
    c.args.pass.now.numbered c.requires.idle.rest (ap view_of c.new.ensures.pass) c.wanted_of.ensures c.requires.some c.requires.few
    (subst (λ (s : Config). All (λ i. i.index < s.bodies) c.args.ids.now) sizes c.requires.below) are (stripes-within view.config c.args.ids.now c.stripes_of-stripes.result.bits (subst IsConfig sizes c.args.world.now.in_limits) are) c.new-2.ensures
    c.in-Some.ensures.some c.new.ensures.under_way
