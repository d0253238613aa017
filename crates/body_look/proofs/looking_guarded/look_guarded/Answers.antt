use Rattle.std.proofs.Common.{◌<◌, ◌∙◌, sym, subst}
use Rattle.word_map.specs.declared.config.Config.{Config}
use Rattle.word_map.proofs.Words.{no-tree}
use Rattle.pass_table.specs.Passes.{view_of}
use Rattle.pass_table.proofs.Between.{more-trans}
use Rattle.pass_table.proofs.LockedBodies.{phase-stays, layer-below}
use Rattle.body_look.proofs.Finding.{phase-low, finds-out, finds-in, names-slot, finds-held, finds-joined}
use Rattle.body_look.proofs.looking_guarded.look_guarded.Goals as goal

pub from_word-requires : goal.from_word-requires
from_word-requires c =
    let load = c.load_phase.ensures in
    record { in_range = phase-low c.args.id (view_of c.load_phase.new.pass) load.guarded load.loaded.now c.load_phase.result load.loaded.word }

pub returns-in-Out-clause-found : goal.returns-in-Out-clause-found
returns-in-Out-clause-found c =
    let load = c.load_phase.ensures in
    finds-out c.args.id (view_of c.load_phase.new.pass) load.guarded load.loaded.now (load.loaded.word ∙ sym c.in-Out.ensures)

pub returns-in-In-clause-found : goal.returns-in-In-clause-found
returns-in-In-clause-found c =
    let load = c.load_phase.ensures in
    finds-in c.args.id (view_of c.load_phase.new.pass) load.guarded load.loaded.now (load.loaded.word ∙ sym c.in-In.ensures)

pub load_slot-word-requires-clause-layers : goal.load_slot-word-requires-clause-layers
load_slot-word-requires-clause-layers c =
    let layer = c.load_layer-layer.ensures in
    subst (λ (s : Config). c.load_layer-layer.result < s.layers) layer.of.sizes (layer-below c.args.id (view_of c.load_layer-layer.new.pass) layer.guarded layer.loaded.now c.load_layer-layer.result layer.loaded.word)

pub load_slot-word-requires-clause-slots : goal.load_slot-word-requires-clause-slots
load_slot-word-requires-clause-slots c =
    let load = c.load_phase.ensures in
    subst (λ (s : Config). c.in-Joined.slot < s.slots) load.of.sizes
    (names-slot c.args.id (view_of c.load_phase.new.pass) load.guarded load.loaded.now c.in-Joined.slot (load.loaded.word ∙ sym c.in-Joined.ensures))

pub returns-then-names_tree-clause-more : goal.returns-then-names_tree-clause-more
returns-then-names_tree-clause-more c =
    let one = view_of c.load_phase.new.pass in
    let two = view_of c.load_layer-layer.new.pass in
    let next = view_of c.load_slot-word.new.pass in
    more-trans (view_of c.args.pass.now) one next c.load_phase.ensures.loaded.more (more-trans one two next c.load_layer-layer.ensures.loaded.more c.load_slot-word.ensures.loaded.more)

pub returns-else-names_tree-clause-more : goal.returns-else-names_tree-clause-more
returns-else-names_tree-clause-more c =
    let one = view_of c.load_phase.new.pass in
    let two = view_of c.load_layer-layer.new.pass in
    let next = view_of c.load_slot-word.new.pass in
    more-trans (view_of c.args.pass.now) one next c.load_phase.ensures.loaded.more (more-trans one two next c.load_layer-layer.ensures.loaded.more c.load_slot-word.ensures.loaded.more)

pub returns-then-names_tree-clause-found : goal.returns-then-names_tree-clause-found
returns-then-names_tree-clause-found c =
    let one = view_of c.load_phase.new.pass in
    let two = view_of c.load_layer-layer.new.pass in
    let phase = c.load_phase.ensures in
    let layer = c.load_layer-layer.ensures in
    finds-joined c.args.id two (view_of c.load_slot-word.new.pass) c.load_layer-layer.result c.in-Joined.slot c.load_slot-word.result layer.guarded
    (phase-stays c.args.id one two phase.guarded layer.loaded.more ∙ (phase.loaded.word ∙ sym c.in-Joined.ensures)) layer.loaded.word c.load_slot-word.ensures.loaded (c.names_tree.ensures.0 c.if-names_tree.true)

pub returns-else-names_tree-clause-found : goal.returns-else-names_tree-clause-found
returns-else-names_tree-clause-found c =
    let one = view_of c.load_phase.new.pass in
    let two = view_of c.load_layer-layer.new.pass in
    let phase = c.load_phase.ensures in
    let layer = c.load_layer-layer.ensures in
    finds-held c.args.id two (view_of c.load_slot-word.new.pass) c.load_layer-layer.result c.in-Joined.slot c.load_slot-word.result layer.guarded
    (phase-stays c.args.id one two phase.guarded layer.loaded.more ∙ (phase.loaded.word ∙ sym c.in-Joined.ensures)) layer.loaded.word c.load_slot-word.ensures.loaded (no-tree c.load_slot-word.result c.names_tree.ensures.1 c.if-names_tree.false)
