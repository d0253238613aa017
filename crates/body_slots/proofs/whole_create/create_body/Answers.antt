use Rattle.std.proofs.Common.{◌<◌, ap, sym, ◌∙◌, subst}
use Rattle.word_map.specs.declared.config.Config.{Config}
use Rattle.word_map.specs.Names.{index_lock}
use Rattle.pass_table.specs.Passes.{view_of}
use Rattle.body_slots.specs.declared.create_op.CreateStage.TheVariants.{Locked}
use Rattle.body_slots.proofs.DestroyTurns.{list-named}
use Rattle.body_slots.proofs.WholeCreate.{creation_at, locked-first, may-leave-list, left-list}
use Rattle.body_slots.proofs.whole_create.create_body.Goals as goal

pub take_write-requires-clause-named : goal.take_write-requires-clause-named
take_write-requires-clause-named g c = list-named c.index_lock-lock.result c.args.world.now.map c.index_lock-lock.ensures

pub take_write-requires-clause-order : goal.take_write-requires-clause-order
take_write-requires-clause-order g c = λ held after. c.requires.idle.rest.free held

pub create_first-answer-requires-clause-under_way : goal.create_first-answer-requires-clause-under_way
create_first-answer-requires-clause-under_way g c =
    let view = view_of c.args.pass.now in
    let next = view_of c.take_write.new.pass in
    let sizes = c.requires.idle.of.sizes in
    record {
      first = creation_at c.args.layer c.args.bounds c.args.user Locked;
      start = view;
      goes =
          locked-first c.args.layer c.args.bounds c.args.user view next c.index_lock-lock.result c.args.pass.now.number (c.index_lock-lock.ensures ∙ ap index_lock (sym sizes)) c.args.pass.now.numbered
          (subst (λ (s : Config). c.args.layer < s.layers) (sym sizes) c.requires.in_layers) c.ranges.user.fits c.requires.idle.rest c.take_write.ensures.taken c.take_write.ensures.made;
    }

pub release-requires-clause-named : goal.release-requires-clause-named
release-requires-clause-named g c = list-named c.index_lock-lock.result c.args.world.now.map c.index_lock-lock.ensures

pub release-requires-clause-may : goal.release-requires-clause-may
release-requires-clause-may g c =
    let view = view_of c.args.pass.now in
    let next = view_of c.take_write.new.pass in
    let sizes = c.requires.idle.of.sizes in
    let lock = c.index_lock-lock.ensures ∙ ap index_lock (sym sizes) in
    let begun =
    locked-first c.args.layer c.args.bounds c.args.user view next c.index_lock-lock.result c.args.pass.now.number lock c.args.pass.now.numbered
    (subst (λ (s : Config). c.args.layer < s.layers) (sym sizes) c.requires.in_layers) c.ranges.user.fits c.requires.idle.rest c.take_write.ensures.taken c.take_write.ensures.made
    in
    may-leave-list c.args.layer c.args.bounds c.args.user view (view_of c.create_first-answer.new.pass) c.create_first-answer.result c.index_lock-lock.result lock
    (c.create_first-answer.ensures.keeps (creation_at c.args.layer c.args.bounds c.args.user Locked) view begun)

pub returns-clause-ended : goal.returns-clause-ended
returns-clause-ended g c =
    let view = view_of c.args.pass.now in
    let next = view_of c.take_write.new.pass in
    let sizes = c.requires.idle.of.sizes in
    let lock = c.index_lock-lock.ensures ∙ ap index_lock (sym sizes) in
    let begun =
    locked-first c.args.layer c.args.bounds c.args.user view next c.index_lock-lock.result c.args.pass.now.number lock c.args.pass.now.numbered
    (subst (λ (s : Config). c.args.layer < s.layers) (sym sizes) c.requires.in_layers) c.ranges.user.fits c.requires.idle.rest c.take_write.ensures.taken c.take_write.ensures.made
    in
    (left-list c.args.layer c.args.bounds c.args.user view (view_of c.create_first-answer.new.pass) c.create_first-answer.result c.index_lock-lock.result lock
    (c.create_first-answer.ensures.keeps (creation_at c.args.layer c.args.bounds c.args.user Locked) view begun) (view_of c.release.new.pass) _ c.release.ensures.step.1).0

pub returns-clause-answer : goal.returns-clause-answer
returns-clause-answer g c =
    let view = view_of c.args.pass.now in
    let next = view_of c.take_write.new.pass in
    let sizes = c.requires.idle.of.sizes in
    let lock = c.index_lock-lock.ensures ∙ ap index_lock (sym sizes) in
    let begun =
    locked-first c.args.layer c.args.bounds c.args.user view next c.index_lock-lock.result c.args.pass.now.number lock c.args.pass.now.numbered
    (subst (λ (s : Config). c.args.layer < s.layers) (sym sizes) c.requires.in_layers) c.ranges.user.fits c.requires.idle.rest c.take_write.ensures.taken c.take_write.ensures.made
    in
    (left-list c.args.layer c.args.bounds c.args.user view (view_of c.create_first-answer.new.pass) c.create_first-answer.result c.index_lock-lock.result lock
    (c.create_first-answer.ensures.keeps (creation_at c.args.layer c.args.bounds c.args.user Locked) view begun) (view_of c.release.new.pass) _ c.release.ensures.step.1).1
