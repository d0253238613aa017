use Rattle.std.proofs.Common.{◌<◌, [], ◌∷◌, refl, sym, ap, ◌∙◌, subst, arith}
use Rattle.std.proofs.lemmas.Bool.{false≢true}
use Rattle.word_map.specs.Limits.{IsConfig}
use Rattle.word_map.specs.Names.{node_count}
use Rattle.word_map.specs.declared.config.Config.{Config}
use Rattle.word_map.specs.declared.name.Name.TheVariants.{Bound}
use Rattle.pass_table.specs.Passes.{view_of}
use Rattle.tree_query.specs.declared.walk.WalkStage.TheVariants.{HighZ}
use Rattle.tree_query.specs.stages.WalkPlaces.{is_reading}
use Rattle.tree_query.proofs.WalkTurns.{sizes-on, loads-few, stays-climbing, reading-turn}
use Rattle.tree_query.proofs.WalkLeads.{side-asks}
use Rattle.tree_query.proofs.LastSides.{space-on, last-body, last-some, last-small, last-leads}
use Rattle.tree_query.proofs.walk.Walk.read_high_z.Goals as goal

pub load_side-z1-requires-clause-named : goal.load_side-z1-requires-clause-named
load_side-z1-requires-clause-named c =
    let pass = c.args.pass.now in
    let old = c.args.self.now in
    subst (λ (s : Config). (old.node < node_count s) × (old.child < 4) × (5 < 6)) c.requires.of.sizes
    (side-asks old HighZ (old.x0 ∷ old.y0 ∷ old.z0 ∷ old.x1 ∷ old.y1 ∷ []) c.requires.stage (λ level. refl) c.args.finder.now (view_of pass) c.requires.under_way refl pass.current)

pub overflow_add-finder : goal.overflow_add-finder
overflow_add-finder c =
    let pass = c.args.pass.now in
    let few = loads-few c.args.self.now c.args.finder.now (view_of pass) c.requires.under_way (ap is_reading c.requires.stage) pass.current (subst IsConfig (sym c.requires.of.sizes) c.args.world.now.in_limits) in
    omega arith

pub keep_child-requires-clause-some : goal.keep_child-requires-clause-some
keep_child-requires-clause-some c =
    let pass = c.args.pass.now in
    last-some c.args.self.now c.requires.stage c.args.finder.now (view_of pass) c.requires.under_way pass.current

pub keep_child-requires-clause-in_range : goal.keep_child-requires-clause-in_range
keep_child-requires-clause-in_range c =
    let pass = c.args.pass.now in
    let next = c.load_side-z1.new.pass in
    let limits = c.args.world.now.in_limits in
    last-small c.args.self.now c.requires.stage c.args.finder.now (view_of pass) c.requires.under_way pass.current (view_of next) c.load_side-z1.result c.load_side-z1.ensures.on
    c.is_touching-touches.result c.is_touching-touches.ensures next.current (subst IsConfig (sym c.requires.of.sizes) limits) (subst IsConfig (sym c.load_side-z1.ensures.of.sizes) limits)

pub keep_child-requires-clause-room : goal.keep_child-requires-clause-room
keep_child-requires-clause-room c = λ index is.
    let pass = c.args.pass.now in
    let way = c.requires.under_way in
    let body = last-body c.args.self.now c.requires.stage c.args.finder.now (view_of pass) way pass.current index is in
    let below = subst (λ (s : Config). index < s.bodies) (sizes-on c.args.self.now c.args.finder.now (view_of pass) way (ap is_reading c.requires.stage)) body in
    let room = way.goes.roomy in
    let fits = way.goes.fits in
    omega arith

pub keep_child-requires-clause-space : goal.keep_child-requires-clause-space
keep_child-requires-clause-space c =
    let pass = c.args.pass.now in
    space-on c.args.self.now c.args.finder.now (view_of pass) c.requires.under_way (ap is_reading c.requires.stage) pass.current

pub returns-clause-turn : goal.returns-clause-turn
returns-clause-turn c =
    let pass = c.args.pass.now in
    let old = c.args.self.now in
    let held = c.args.finder.now in
    let after = c.leave_child.new.self in
    let value = c.load_side-z1.result in
    let loaded = c.load_side-z1.ensures in
    let kept = c.keep_child.ensures in
    let left = c.leave_child.ensures in
    let reads = ap is_reading c.requires.stage in
    let few = loads-few old held (view_of pass) c.requires.under_way reads pass.current (subst IsConfig (sym c.requires.of.sizes) c.args.world.now.in_limits) in
    reading-turn old after held c.keep_child.new.finder (view_of pass) (view_of c.load_side-z1.new.pass) (Bound old.node old.child 5) value c.requires.under_way few reads
    (record { shape = left.keeps.plan.shape; mask = left.keeps.plan.mask; lowest = left.keeps.plan.lowest; layers = left.keeps.plan.layers; slots = left.keeps.plan.slots })
    (stays-climbing old after HighZ c.requires.stage (λ same. absurd cc)
    (record {
      plan = record { shape = left.keeps.plan.shape; mask = left.keeps.plan.mask; lowest = left.keeps.plan.lowest; layers = left.keeps.plan.layers; slots = left.keeps.plan.slots };
      layer = left.keeps.layer;
      slot = left.keeps.slot;
    }))
    kept.loads kept.room loaded.on loaded.step loaded.made (λ side. absurd (false≢true (sym left.none ∙ side)))
    (λ s query at asks sized place.
    last-leads old c.requires.stage s query after held c.keep_child.new.finder at value c.is_touching-touches.result c.keep_child.new.stack.items asks c.is_touching-touches.ensures place kept.stack
    (record { has = kept.puts.has; seqs = kept.puts.seqs }) (λ stack level nodes. left.there s stack level (record { layers = sized.layers; slots = sized.slots }) nodes))
