use Rattle.std.proofs.Common.{◌<◌, subst}
use Rattle.word_map.specs.declared.config.Config.{Config}
use Rattle.word_map.proofs.Words.{no-tree}
use Rattle.pass_table.specs.Passes.{view_of}
use Rattle.body_look.specs.declared.look_op.LookStage.TheVariants.{Placed}
use Rattle.body_look.proofs.LookTurns.{live-guarded, slot-named, slot-held, slot-joined}
use Rattle.body_look.proofs.look_op.LookOp.load_slot.Goals as goal

pub load_slot-word-requires-clause-guarded : goal.load_slot-word-requires-clause-guarded
load_slot-word-requires-clause-guarded c =
    live-guarded c.args.self.now (Placed c.args.slot c.args.layer) (view_of c.args.pass.now) c.requires.stage c.requires.under_way (λ start at. at.0.live)

pub load_slot-word-requires-clause-layers : goal.load_slot-word-requires-clause-layers
load_slot-word-requires-clause-layers c =
    subst (λ (s : Config). c.args.layer < s.layers) c.requires.of.sizes (slot-named c.args.self.now (view_of c.args.pass.now) c.args.slot c.args.layer c.requires.stage c.requires.under_way).0

pub load_slot-word-requires-clause-slots : goal.load_slot-word-requires-clause-slots
load_slot-word-requires-clause-slots c =
    subst (λ (s : Config). c.args.slot < s.slots) c.requires.of.sizes (slot-named c.args.self.now (view_of c.args.pass.now) c.args.slot c.args.layer c.requires.stage c.requires.under_way).1

pub returns-then-names_tree-clause-turn : goal.returns-then-names_tree-clause-turn
returns-then-names_tree-clause-turn c =
    let load = c.load_slot-word.ensures in
    slot-joined c.args.self.now (view_of c.args.pass.now) (view_of c.load_slot-word.new.pass) c.args.slot c.args.layer c.load_slot-word.result c.requires.stage load.step load.made load.loaded
    (c.names_tree.ensures.0 c.if-names_tree.true)

pub returns-clause-turn : goal.returns-clause-turn
returns-clause-turn c =
    let load = c.load_slot-word.ensures in
    slot-held c.args.self.now (view_of c.args.pass.now) (view_of c.load_slot-word.new.pass) c.args.slot c.args.layer c.load_slot-word.result c.requires.stage load.step load.made load.loaded
    (no-tree c.load_slot-word.result c.names_tree.ensures.1 c.if-names_tree.false)
