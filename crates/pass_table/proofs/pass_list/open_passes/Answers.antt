use Rattle.std.proofs.Common.{length, ap}
use Rattle.word_map.specs.declared.config.Config.{Config}
use Rattle.pass_table.proofs.Ruling.{AreFresh-none, fresh-more, last-number, number-below, last-view, all-fresh}
use Rattle.pass_table.proofs.pass_list.open_passes.Goals as goal

pub loop-number-init : goal.loop-number-init
loop-number-init c = record {
  count = ap length c.in_ok-list.ensures.items;
  fresh = AreFresh-none c.args.world.now c.in_ok-list.list.items c.in_ok-list.ensures.items;
  last = c.requires;
}

pub open_next-pass-requires : goal.open_next-pass-requires
open_next-pass-requires c = record {
  last = c.loop-number.invariant.last;
  more = number-below c.config-passes.result.passes c.args.world.now.map.passes c.loop-number.number (ap (λ (d : Config). d.passes) c.config-passes.ensures.sizes) c.loop-number-test.true;
}

pub loop-number-preserved : goal.loop-number-preserved
loop-number-preserved c =
    let so_far = c.loop-number.invariant in
    let more = fresh-more c.args.world.now c.loop-number.list.items c.push.new.self.items c.open_next-pass.result.0 c.loop-number.number c.in_ok-push.ensures.items so_far.count so_far.fresh c.open_next-pass.ensures.pass in
    record { count = more.0; fresh = more.1; last = c.open_next-pass.ensures.next }

pub fresh-requires-clause-table : goal.fresh-requires-clause-table
fresh-requires-clause-table c = c.loop-number.invariant.last.table

pub fresh-requires-clause-view : goal.fresh-requires-clause-view
fresh-requires-clause-view c =
    let number = c.loop-number.number in
    let passes = c.config-passes.result.passes in
    last-view c.args.world.now c.loop-number.last passes number c.loop-number.invariant.last (ap (λ (d : Config). d.passes) c.config-passes.ensures.sizes) (last-number passes number c.loop-number.auto.number-end c.loop-number-test.false)

pub returns : goal.returns
returns c =
    let number = c.loop-number.number in
    let passes = c.config-passes.result.passes in
    let so_far = c.loop-number.invariant in
    all-fresh c.args.world.now c.loop-number.list.items c.push-2.new.self.items c.fresh.result passes number (ap (λ (d : Config). d.passes) c.config-passes.ensures.sizes) c.config-passes.ensures.in_limits.passes.0
    (last-number passes number c.loop-number.auto.number-end c.loop-number-test.false) c.in_ok-push-2.ensures.items so_far.count so_far.fresh c.fresh.ensures
