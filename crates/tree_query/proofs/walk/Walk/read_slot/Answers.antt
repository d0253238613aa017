use Rattle.std.proofs.Common.{◌<◌, refl, sym, ap, ◌∙◌, subst, arith}
use Rattle.word_map.specs.Limits.{IsConfig}
use Rattle.word_map.specs.declared.config.Config.{Config}
use Rattle.pass_table.specs.Passes.{view_of}
use Rattle.word_map.specs.declared.name.Name.TheVariants.{Slot}
use Rattle.tree_query.specs.stages.WalkPlaces.{is_reading}
use Rattle.std.proofs.lemmas.Bool.{false≢true}
use Rattle.tree_query.proofs.Kept.{puts-none}
use Rattle.tree_query.proofs.WalkTurns.{loads-few, reading-turn}
use Rattle.tree_query.proofs.WalkLeads.{slot-asks, slot-fits, slot-leads, slot-climbs}
use Rattle.tree_query.proofs.walk.Walk.read_slot.Goals as goal

pub load_slot-word-requires-clause-named : goal.load_slot-word-requires-clause-named
load_slot-word-requires-clause-named c =
    let pass = c.args.pass.now in
    let old = c.args.self.now in
    subst (λ (s : Config). (old.layer < s.layers) × (old.slot < s.slots)) c.requires.of.sizes (slot-asks old c.requires.stage c.requires.low c.args.finder.now (view_of pass) c.requires.under_way pass.current)

pub overflow_add-finder : goal.overflow_add-finder
overflow_add-finder c =
    let pass = c.args.pass.now in
    let few = loads-few c.args.self.now c.args.finder.now (view_of pass) c.requires.under_way (ap is_reading c.requires.stage) pass.current (subst IsConfig (sym c.requires.of.sizes) c.args.world.now.in_limits) in
    omega arith

pub take_slot-requires-clause-in_range : goal.take_slot-requires-clause-in_range
take_slot-requires-clause-in_range c =
    let loaded = c.load_slot-word in
    slot-fits c.args.self.now c.requires.stage c.requires.low c.args.finder.now (view_of c.args.pass.now) (view_of loaded.new.pass) loaded.result c.requires.under_way loaded.ensures.on loaded.new.pass.current
    (subst IsConfig (sym loaded.ensures.of.sizes) c.args.world.now.in_limits)

pub returns-clause-turn : goal.returns-clause-turn
returns-clause-turn c =
    let pass = c.args.pass.now in
    let old = c.args.self.now in
    let held = c.args.finder.now in
    let value = c.load_slot-word.result in
    let loaded = c.load_slot-word.ensures in
    let took = c.take_slot.ensures in
    let reads = ap is_reading c.requires.stage in
    let few = loads-few old held (view_of pass) c.requires.under_way reads pass.current (subst IsConfig (sym c.requires.of.sizes) c.args.world.now.in_limits) in
    reading-turn old c.take_slot.new.self held _ (view_of pass) (view_of c.load_slot-word.new.pass) (Slot old.layer old.slot) value c.requires.under_way few reads took.keeps (slot-climbs old c.requires.stage c.requires.low c.take_slot.new.self took.layer)
    refl refl loaded.on loaded.step loaded.made (λ side. absurd (false≢true (sym took.none ∙ side)))
    (λ s query at asks sized place.
    slot-leads old c.requires.stage c.requires.low s query c.take_slot.new.self held _ at value sized place (puts-none held _ (λ index. refl) (λ index. refl)) (λ inside none. took.there s inside none))
