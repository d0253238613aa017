use Rattle.std.proofs.Common.{◌<◌, ◌∙◌, None, refl, sym, subst, arith}
use Rattle.word_map.specs.declared.config.Config.{Config}
use Rattle.word_map.specs.declared.name.Name.TheVariants.{Slot}
use Rattle.word_map.proofs.Words.{no-tree}
use Rattle.pass_table.specs.Passes.{view_of}
use Rattle.tree_query.specs.declared.check_op.CheckStage.TheVariants.{Placed, Sides, Leaving}
use Rattle.tree_query.specs.stages.CandidateCheck.{id_at}
use Rattle.tree_query.proofs.CandidateChecks.{none-asked, asked-of, unasked-of}
use Rattle.tree_query.proofs.CheckTurns.{now-held, load-sizes, load-on}
use Rattle.tree_query.proofs.CheckLoads.{slot-held, slot-seen, sides-begin}
use Rattle.tree_query.proofs.check_op.Check.load_slot.Goals as goal

pub load_of_slot-word-requires-clause-layers : goal.load_of_slot-word-requires-clause-layers
load_of_slot-word-requires-clause-layers c =
    let view = view_of c.args.pass.now in
    let held = now-held c.args.self.now (Placed c.args.sequence c.args.slot c.args.layer) view c.requires.stage c.requires.under_way (λ shape mask start at. at) in
    let sizes = load-sizes c.args.self.now (Placed c.args.sequence c.args.slot c.args.layer) view c.requires.stage c.requires.under_way (λ shape mask start at. at) in
    subst (λ (s : Config). c.args.layer < s.layers) (sym sizes ∙ c.requires.of.sizes) held.knows.2

pub load_of_slot-word-requires-clause-slots : goal.load_of_slot-word-requires-clause-slots
load_of_slot-word-requires-clause-slots c =
    let view = view_of c.args.pass.now in
    let held = now-held c.args.self.now (Placed c.args.sequence c.args.slot c.args.layer) view c.requires.stage c.requires.under_way (λ shape mask start at. at) in
    let sizes = load-sizes c.args.self.now (Placed c.args.sequence c.args.slot c.args.layer) view c.requires.stage c.requires.under_way (λ shape mask start at. at) in
    subst (λ (s : Config). c.args.slot < s.slots) (sym sizes ∙ c.requires.of.sizes) held.knows.0.in_slots

pub returns-then-not-names_tree-clause-turn : goal.returns-then-not-names_tree-clause-turn
returns-then-not-names_tree-clause-turn c = λ shape.
    let view = view_of c.args.pass.now in
    let next = view_of c.load_of_slot-word.new.pass in
    let load = c.load_of_slot-word.ensures in
    let index = c.args.self.now.index in
    load-on shape c.args.mask c.args.self.now c.go_on.new.self (Placed c.args.sequence c.args.slot c.args.layer) (Leaving None) c.args.self.now.words view next (Slot c.args.layer c.args.slot) c.load_of_slot-word.result
    c.go_on.ensures.stage c.requires.stage load.step load.made load.loaded tt c.go_on.result c.go_on.ensures.more (omega arith) (λ start at. at) (λ start at. at) (λ six. six)
    (λ start mid begun taken sizes more six knows.
    slot-held shape c.args.mask index start mid view next sizes more (Slot c.args.layer c.args.slot) c.load_of_slot-word.result load.loaded c.args.sequence c.args.slot c.args.layer refl knows.0 knows.1 (no-tree c.load_of_slot-word.result c.names_tree.ensures.1 c.if-not-names_tree.true))

pub returns-then-not-is_asked-clause-turn : goal.returns-then-not-is_asked-clause-turn
returns-then-not-is_asked-clause-turn c = λ shape.
    let view = view_of c.args.pass.now in
    let next = view_of c.load_of_slot-word.new.pass in
    let load = c.load_of_slot-word.ensures in
    let index = c.args.self.now.index in
    load-on shape c.args.mask c.args.self.now c.go_on-then-not-is_asked.new.self (Placed c.args.sequence c.args.slot c.args.layer) (Leaving None) c.args.self.now.words view next (Slot c.args.layer c.args.slot) c.load_of_slot-word.result
    c.go_on-then-not-is_asked.ensures.stage c.requires.stage load.step load.made load.loaded tt c.go_on-then-not-is_asked.result c.go_on-then-not-is_asked.ensures.more (omega arith) (λ start at. at) (λ start at. at) (λ six. six)
    (λ start mid begun taken sizes more six knows.
    none-asked shape c.args.mask (id_at index c.args.sequence) mid next c.args.layer (slot-seen shape c.args.mask index start mid view next sizes more (Slot c.args.layer c.args.slot) c.load_of_slot-word.result load.loaded c.args.sequence c.args.slot c.args.layer refl knows.0 knows.1 (c.names_tree.ensures.0 c.if-not-names_tree.false)) (unasked-of c.args.mask c.args.layer c.is_asked.result c.is_asked.ensures c.if-not-is_asked.true))

pub returns-clause-turn : goal.returns-clause-turn
returns-clause-turn c = λ shape.
    let view = view_of c.args.pass.now in
    let next = view_of c.load_of_slot-word.new.pass in
    let load = c.load_of_slot-word.ensures in
    let index = c.args.self.now.index in
    load-on shape c.args.mask c.args.self.now c.go_on-2.new.self (Placed c.args.sequence c.args.slot c.args.layer) (Sides c.args.sequence 0) c.args.self.now.words view next (Slot c.args.layer c.args.slot) c.load_of_slot-word.result
    c.go_on-2.ensures.stage c.requires.stage load.step load.made load.loaded tt c.go_on-2.result c.go_on-2.ensures.more (omega arith) (λ start at. at) (λ start at. at) (λ six. six)
    (λ start mid begun taken sizes more six knows.
    sides-begin shape c.args.mask index start mid view next sizes more (Slot c.args.layer c.args.slot) c.load_of_slot-word.result load.loaded c.args.sequence c.args.self.now.words c.args.layer knows.0.guarded (slot-seen shape c.args.mask index start mid view next sizes more (Slot c.args.layer c.args.slot) c.load_of_slot-word.result load.loaded c.args.sequence c.args.slot c.args.layer refl knows.0 knows.1 (c.names_tree.ensures.0 c.if-not-names_tree.false)) (asked-of c.args.mask c.args.layer c.is_asked.result c.is_asked.ensures c.if-not-is_asked.false))
