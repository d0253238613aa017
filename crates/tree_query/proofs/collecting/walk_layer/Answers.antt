use Rattle.std.proofs.Common.{◌+◌, ◌++◌, List, refl, ap, sym, ◌∙◌, subst, arith}
use Rattle.word_map.specs.declared.config.Config.{Config}
use Rattle.word_map.specs.declared.name.Name.{Name}
use Rattle.pass_table.specs.Passes.{view_of}
use Rattle.tree_query.specs.Collecting.{IsCollecting, word_place, words_from}
use Rattle.tree_query.proofs.WordWalks.{slots-all, next-slot, no-slot}
use Rattle.tree_query.proofs.collecting.walk_layer.Goals as goal

pub loop-slot-init : goal.loop-slot-init
loop-slot-init c = record {
  of = c.requires.of;
  room = refl;
  empty = c.requires.empty;
  on = λ trip rest at.
      subst (λ (l : List Name). IsCollecting trip c.args.shape.now c.args.finder.now (view_of c.args.pass.now) (word_place (l ++ rest))) (sym (slots-all c.args.world.now.map c.args.layer)) at;
}

pub walk_slot-requires-clause-named : goal.walk_slot-requires-clause-named
walk_slot-requires-clause-named c =
    let sizes = ap (λ (d : Config). d.slots) c.config-slots.ensures.sizes in
    let low = c.loop-slot-test.true in
    (c.requires.named, omega arith)

pub walk_slot-requires-clause-at : goal.walk_slot-requires-clause-at
walk_slot-requires-clause-at c =
    let at = c.requires.at in
    let loop = c.loop-slot in
    let map = c.args.world.now.map in
    let sizes = ap (λ (d : Config). d.slots) c.config-slots.ensures.sizes in
    let low = c.loop-slot-test.true in (
      at.0,
      words_from map c.args.layer (loop.slot + 1) ++ at.1,
      subst (λ (l : List Name). IsCollecting at.0 c.args.shape.now loop.finder (view_of loop.pass) (word_place (l ++ at.1))) (next-slot map c.args.layer loop.slot (omega arith)) (loop.invariant.on at.0 at.1 at.2),
    )

pub loop-slot-preserved : goal.loop-slot-preserved
loop-slot-preserved c =
    let loop = c.loop-slot in
    let map = c.args.world.now.map in
    let sizes = ap (λ (d : Config). d.slots) c.config-slots.ensures.sizes in
    let low = c.loop-slot-test.true in
    let walked = c.walk_slot.ensures in
    record {
      of = walked.of;
      room = walked.room ∙ loop.invariant.room;
      empty = walked.empty;
      on = λ trip rest at.
          walked.on trip (words_from map c.args.layer (loop.slot + 1) ++ rest)
          (subst (λ (l : List Name). IsCollecting trip c.args.shape.now loop.finder (view_of loop.pass) (word_place (l ++ rest))) (next-slot map c.args.layer loop.slot (omega arith)) (loop.invariant.on trip rest at));
    }

pub walk_main-requires-clause-at : goal.walk_main-requires-clause-at
walk_main-requires-clause-at c =
    let at = c.requires.at in
    let loop = c.loop-slot in
    let map = c.args.world.now.map in
    let sizes = ap (λ (d : Config). d.slots) c.config-slots.ensures.sizes in
    let past = c.loop-slot-test.false in (
      at.0,
      at.1,
      subst (λ (l : List Name). IsCollecting at.0 c.args.shape.now loop.finder (view_of loop.pass) (word_place (l ++ at.1))) (no-slot map c.args.layer loop.slot (omega arith)) (loop.invariant.on at.0 at.1 at.2),
    )

pub returns-clause-on : goal.returns-clause-on
returns-clause-on c = λ trip rest at.
    let loop = c.loop-slot in
    let map = c.args.world.now.map in
    let sizes = ap (λ (d : Config). d.slots) c.config-slots.ensures.sizes in
    let past = c.loop-slot-test.false in
    c.walk_main.ensures.on trip rest
    (subst (λ (l : List Name). IsCollecting trip c.args.shape.now loop.finder (view_of loop.pass) (word_place (l ++ rest))) (no-slot map c.args.layer loop.slot (omega arith)) (loop.invariant.on trip rest at))
