use Rattle.std.proofs.Common.{◌+◌, List, refl, ap, sym, ◌∙◌, subst, arith}
use Rattle.word_map.specs.declared.config.Config.{Config}
use Rattle.word_map.specs.declared.name.Name.{Name}
use Rattle.pass_table.specs.Passes.{view_of}
use Rattle.tree_query.specs.Collecting.{IsCollecting, word_place, layers_from}
use Rattle.tree_query.proofs.WordWalks.{layers-all, next-layer, no-layer}
use Rattle.tree_query.proofs.collecting.walk_layers.Goals as goal

pub loop-layer-init : goal.loop-layer-init
loop-layer-init c = record {
  of = c.requires.of;
  room = refl;
  empty = c.requires.empty;
  on = λ trip at. subst (λ (l : List Name). IsCollecting trip c.args.shape.now c.args.finder.now (view_of c.args.pass.now) (word_place l)) (sym (layers-all c.args.world.now.map c.args.mask)) at;
}

pub walk_asked-requires-clause-named : goal.walk_asked-requires-clause-named
walk_asked-requires-clause-named c =
    let sizes = ap (λ (d : Config). d.layers) c.config-layers.ensures.sizes in
    let low = c.loop-layer-test.true in
    omega arith

pub walk_asked-requires-clause-at : goal.walk_asked-requires-clause-at
walk_asked-requires-clause-at c =
    let at = c.requires.at in
    let loop = c.loop-layer in
    let map = c.args.world.now.map in
    let sizes = ap (λ (d : Config). d.layers) c.config-layers.ensures.sizes in
    let low = c.loop-layer-test.true in (
      at.0,
      layers_from map c.args.mask (loop.layer + 1),
      subst (λ (l : List Name). IsCollecting at.0 c.args.shape.now loop.finder (view_of loop.pass) (word_place l)) (next-layer map c.args.mask loop.layer (omega arith)) (loop.invariant.on at.0 at.1),
    )

pub loop-layer-preserved : goal.loop-layer-preserved
loop-layer-preserved c =
    let loop = c.loop-layer in
    let map = c.args.world.now.map in
    let sizes = ap (λ (d : Config). d.layers) c.config-layers.ensures.sizes in
    let low = c.loop-layer-test.true in
    let walked = c.walk_asked.ensures in
    record {
      of = walked.of;
      room = walked.room ∙ loop.invariant.room;
      empty = walked.empty;
      on = λ trip at.
          walked.on trip (layers_from map c.args.mask (loop.layer + 1))
          (subst (λ (l : List Name). IsCollecting trip c.args.shape.now loop.finder (view_of loop.pass) (word_place l)) (next-layer map c.args.mask loop.layer (omega arith)) (loop.invariant.on trip at));
    }

pub returns-clause-on : goal.returns-clause-on
returns-clause-on c = λ trip at.
    let loop = c.loop-layer in
    let sizes = ap (λ (d : Config). d.layers) c.config-layers.ensures.sizes in
    let past = c.loop-layer-test.false in
    subst (λ (l : List Name). IsCollecting trip c.args.shape.now loop.finder (view_of loop.pass) (word_place l)) (no-layer c.args.world.now.map c.args.mask loop.layer (omega arith)) (loop.invariant.on trip at)
