use Rattle.std.proofs.Common.{subst}
use Rattle.word_map.specs.declared.config.Config.{Config}
use Rattle.core_state.specs.Walking.{asked_words}
use Rattle.pass_table.specs.Passes.{view_of}
use Rattle.tree_query.specs.Collecting.{IsCollecting, word_place}
use Rattle.tree_query.proofs.WholeWalks.{trip_of, walk-begins, walk-ends}
use Rattle.tree_query.proofs.collecting.walk_all.Goals as goal

pub walk_layers-requires-clause-at : goal.walk_layers-requires-clause-at
walk_layers-requires-clause-at c =
    let begun = c.begin.ensures.begins in
    let shape = c.args.shape.now in
    let start = view_of c.args.pass.now in
    let mid = view_of c.begin.new.pass in
    let trip = trip_of shape c.args.mask start begun.0 begun.1 in
    let finder = c.clear.new.self in (
      trip,
      subst (λ (s : Config). IsCollecting trip shape finder mid (word_place (asked_words s c.args.mask))) c.requires.of.sizes
          (walk-begins shape c.args.mask start mid begun.0 begun.1 finder begun.2 begun.3 c.clear.ensures.none c.clear.ensures.loads),
    )

pub end-requires-clause-walks : goal.end-requires-clause-walks
end-requires-clause-walks c =
    let begun = c.begin.ensures.begins in
    let shape = c.args.shape.now in
    let start = view_of c.args.pass.now in
    let mid = view_of c.begin.new.pass in
    let trip = trip_of shape c.args.mask start begun.0 begun.1 in
    let finder = c.clear.new.self in
    let walked =
    c.walk_layers.ensures.on trip
    (subst (λ (s : Config). IsCollecting trip shape finder mid (word_place (asked_words s c.args.mask))) c.requires.of.sizes
    (walk-begins shape c.args.mask start mid begun.0 begun.1 finder begun.2 begun.3 c.clear.ensures.none c.clear.ensures.loads))
    in
    walked.on.walking.on

pub returns-clause-collected : goal.returns-clause-collected
returns-clause-collected c =
    let begun = c.begin.ensures.begins in
    let ended = c.end.ensures.ends in
    let shape = c.args.shape.now in
    let start = view_of c.args.pass.now in
    let mid = view_of c.begin.new.pass in
    let trip = trip_of shape c.args.mask start begun.0 begun.1 in
    let finder = c.clear.new.self in
    let walked =
    c.walk_layers.ensures.on trip
    (subst (λ (s : Config). IsCollecting trip shape finder mid (word_place (asked_words s c.args.mask))) c.requires.of.sizes
    (walk-begins shape c.args.mask start mid begun.0 begun.1 finder begun.2 begun.3 c.clear.ensures.none c.clear.ensures.loads))
    in
    walk-ends shape c.args.mask start (view_of c.walk_layers.new.pass) (view_of c.end.new.pass) begun.0 begun.1 ended.0 ended.1 c.walk_layers.new.finder begun.2 walked c.walk_layers.new.pass.current ended.2 ended.3
