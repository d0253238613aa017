use Rattle.std.proofs.Common.{ap, sym, subst}
use Rattle.word_map.specs.Limits.{IsConfig}
use Rattle.pass_table.specs.Passes.{view_of}
use Rattle.tree_query.specs.stages.WalkPlaces.{is_reading}
use Rattle.tree_query.proofs.WalkTurns.{loads-few}
use Rattle.tree_query.proofs.WalkTurnEnds.{end-turn}
use Rattle.tree_query.proofs.walk.Walk.end_walk.Goals as goal

pub returns-clause-turn : goal.returns-clause-turn
returns-clause-turn c =
    let pass = c.args.pass.now in
    let old = c.args.self.now in
    let ends = c.end.ensures.ends in
    let few = loads-few old c.args.finder.now (view_of pass) c.requires.under_way (ap is_reading c.requires.stage) pass.current (subst IsConfig (sym c.requires.of.sizes) c.args.world.now.in_limits) in
    end-turn old c.args.finder.now (view_of pass) (view_of c.end.new.pass) ends.0 ends.1 c.requires.stage ends.2 ends.3 pass.current c.requires.under_way few c.end.ensures.step c.end.ensures.made
