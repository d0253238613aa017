use Rattle.std.proofs.Common.{◌<◌, [], ◌∷◌, refl, sym, ap, subst, arith}
use Rattle.word_map.specs.Limits.{IsConfig}
use Rattle.word_map.specs.Names.{node_count}
use Rattle.word_map.specs.declared.config.Config.{Config}
use Rattle.pass_table.specs.Passes.{view_of}
use Rattle.tree_query.specs.declared.walk.WalkStage.TheVariants.{HighX, HighY}
use Rattle.tree_query.specs.stages.WalkPlaces.{is_reading}
use Rattle.tree_query.proofs.Kept.{puts-none}
use Rattle.tree_query.proofs.WalkTurns.{loads-few}
use Rattle.tree_query.proofs.WalkLeads.{side-asks, side-turn}
use Rattle.tree_query.proofs.walk.Walk.read_high_x.Goals as goal

pub load_side-self-requires-clause-named : goal.load_side-self-requires-clause-named
load_side-self-requires-clause-named c =
    let pass = c.args.pass.now in
    let old = c.args.self.now in
    subst (λ (s : Config). (old.node < node_count s) × (old.child < 4) × (3 < 6)) c.requires.of.sizes
    (side-asks old HighX (old.x0 ∷ old.y0 ∷ old.z0 ∷ []) c.requires.stage (λ level. refl) c.args.finder.now (view_of pass) c.requires.under_way refl pass.current)

pub overflow_add-finder : goal.overflow_add-finder
overflow_add-finder c =
    let pass = c.args.pass.now in
    let few = loads-few c.args.self.now c.args.finder.now (view_of pass) c.requires.under_way (ap is_reading c.requires.stage) pass.current (subst IsConfig (sym c.requires.of.sizes) c.args.world.now.in_limits) in
    omega arith

pub returns-clause-turn : goal.returns-clause-turn
returns-clause-turn c =
    let pass = c.args.pass.now in
    let old = c.args.self.now in
    let held = c.args.finder.now in
    let value = c.load_side-self.result in
    let loaded = c.load_side-self.ensures in
    let few = loads-few old held (view_of pass) c.requires.under_way (ap is_reading c.requires.stage) pass.current (subst IsConfig (sym c.requires.of.sizes) c.args.world.now.in_limits) in
    side-turn old (record old { x1 = value; stage = HighY }) held _ (view_of pass) (view_of c.load_side-self.new.pass) value HighX (old.x0 ∷ old.y0 ∷ old.z0 ∷ []) c.requires.under_way few c.requires.stage refl refl (λ level. refl) refl
    (λ same. absurd cc)
    (record { plan = record { shape = refl; mask = refl; lowest = refl; layers = refl; slots = refl }; layer = refl; slot = refl })
    refl refl refl refl refl (puts-none held _ (λ index. refl) (λ index. refl)) loaded.on loaded.step loaded.made
    (λ s stack level nodes. record { level = level; stack = stack; nodes = nodes; place = refl; reads = refl; fits = tt })
