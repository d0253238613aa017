use Rattle.std.proofs.Common.{◌<◌, refl, sym, ap, subst, arith}
use Rattle.word_map.specs.Limits.{IsConfig}
use Rattle.word_map.specs.Names.{node_count}
use Rattle.word_map.specs.declared.config.Config.{Config}
use Rattle.word_map.specs.declared.name.Name.TheVariants.{Child as ChildName}
use Rattle.pass_table.specs.Passes.{view_of}
use Rattle.tree_query.specs.declared.walk.WalkStage.TheVariants.{Child}
use Rattle.tree_query.specs.stages.WalkPlaces.{is_reading}
use Rattle.tree_query.proofs.Kept.{puts-none}
use Rattle.tree_query.proofs.WalkTurns.{just_now, loads-few, stays-climbing, reading-turn}
use Rattle.tree_query.proofs.WalkLeads.{child-asks, child-leads}
use Rattle.tree_query.proofs.walk.Walk.read_child.Goals as goal

pub load_child-word-requires-clause-named : goal.load_child-word-requires-clause-named
load_child-word-requires-clause-named c =
    let pass = c.args.pass.now in
    subst (λ (s : Config). (c.args.self.now.node < node_count s) × (c.args.self.now.child < 4)) c.requires.of.sizes
    (child-asks c.args.self.now c.args.finder.now (view_of pass) c.requires.under_way c.requires.stage pass.current)

pub overflow_add-finder : goal.overflow_add-finder
overflow_add-finder c =
    let pass = c.args.pass.now in
    let few = loads-few c.args.self.now c.args.finder.now (view_of pass) c.requires.under_way (ap is_reading c.requires.stage) pass.current (subst IsConfig (sym c.requires.of.sizes) c.args.world.now.in_limits) in
    omega arith

pub returns-clause-turn : goal.returns-clause-turn
returns-clause-turn c =
    let pass = c.args.pass.now in
    let old = c.args.self.now in
    let held = c.args.finder.now in
    let way = c.requires.under_way in
    let loaded = c.load_child-word.ensures in
    let took = c.take_child.ensures in
    let reads = ap is_reading c.requires.stage in
    let few = loads-few old held (view_of pass) way reads pass.current (subst IsConfig (sym c.requires.of.sizes) c.args.world.now.in_limits) in
    reading-turn old c.take_child.new.self held _ (view_of pass) (view_of c.load_child-word.new.pass) (ChildName old.node old.child) c.load_child-word.result way few reads took.keeps.plan
    (stays-climbing old c.take_child.new.self Child c.requires.stage (λ same. absurd cc) took.keeps) refl refl loaded.on loaded.step loaded.made
    (λ side. let now = took.side side in just_now (λ i. ChildName (sym now.0 i) (sym now.1 i)) (sym now.2) now.3)
    (λ s query at asks sized place.
    child-leads s query old c.take_child.new.self held _ at c.load_child-word.result c.requires.stage sized place (puts-none held _ (λ index. refl) (λ index. refl))
    (λ q stack level nodes. took.there s q stack level sized nodes))
