use Rattle.std.proofs.Common.{◌<◌, refl, sym, ap, ◌∙◌, subst, arith}
use Rattle.word_map.specs.Limits.{IsConfig}
use Rattle.word_map.specs.declared.config.Config.{Config}
use Rattle.pass_table.specs.Passes.{view_of}
use Rattle.word_map.specs.declared.name.Name.TheVariants.{Main}
use Rattle.tree_query.specs.stages.WalkPlaces.{is_reading}
use Rattle.std.proofs.lemmas.Bool.{false≢true}
use Rattle.tree_query.proofs.Kept.{puts-none}
use Rattle.tree_query.proofs.WalkTurns.{loads-few, reading-turn}
use Rattle.tree_query.proofs.WalkLeads.{main-asks, main-inside, main-fits, main-leads}
use Rattle.tree_query.proofs.walk.Walk.read_main.Goals as goal

pub load_main-word-requires-clause-named : goal.load_main-word-requires-clause-named
load_main-word-requires-clause-named c =
    let pass = c.args.pass.now in
    let old = c.args.self.now in
    subst (λ (s : Config). old.layer < s.layers) c.requires.of.sizes (main-asks old c.requires.stage c.requires.past c.args.finder.now (view_of pass) c.requires.under_way pass.current)

pub overflow_add-finder : goal.overflow_add-finder
overflow_add-finder c =
    let pass = c.args.pass.now in
    let few = loads-few c.args.self.now c.args.finder.now (view_of pass) c.requires.under_way (ap is_reading c.requires.stage) pass.current (subst IsConfig (sym c.requires.of.sizes) c.args.world.now.in_limits) in
    omega arith

pub take_main-requires-clause-in_range : goal.take_main-requires-clause-in_range
take_main-requires-clause-in_range c =
    let loaded = c.load_main-word in
    main-fits c.args.self.now c.requires.stage c.requires.past c.args.finder.now (view_of c.args.pass.now) (view_of loaded.new.pass) loaded.result c.requires.under_way loaded.ensures.on loaded.new.pass.current
    (subst IsConfig (sym loaded.ensures.of.sizes) c.args.world.now.in_limits)

pub take_main-requires-clause-inside : goal.take_main-requires-clause-inside
take_main-requires-clause-inside c = main-inside c.args.self.now c.requires.stage c.requires.past c.args.finder.now (view_of c.args.pass.now) c.requires.under_way

pub returns-clause-turn : goal.returns-clause-turn
returns-clause-turn c =
    let pass = c.args.pass.now in
    let old = c.args.self.now in
    let held = c.args.finder.now in
    let value = c.load_main-word.result in
    let loaded = c.load_main-word.ensures in
    let took = c.take_main.ensures in
    let reads = ap is_reading c.requires.stage in
    let few = loads-few old held (view_of pass) c.requires.under_way reads pass.current (subst IsConfig (sym c.requires.of.sizes) c.args.world.now.in_limits) in
    reading-turn old c.take_main.new.self held _ (view_of pass) (view_of c.load_main-word.new.pass) (Main old.layer) value c.requires.under_way few reads took.keeps (record { above = let less = took.layer.0 in omega arith; within = λ within. took.layer.1; passes = λ word last. took.layer.0 })
    refl refl loaded.on loaded.step loaded.made (λ side. absurd (false≢true (sym took.none ∙ side)))
    (λ s query at asks sized place.
    main-leads old c.requires.stage c.requires.past s query c.take_main.new.self held _ at value sized place (puts-none held _ (λ index. refl) (λ index. refl)) (λ none. took.there s sized none))
