use Rattle.std.proofs.Common.{ℕ, None, ◌∙◌, ◌≡◌, refl, sym, subst, arith}
use Rattle.body_ident.specs.Id.{Id}
use Rattle.word_map.specs.declared.name.Name.TheVariants.{Layer}
use Rattle.pass_table.specs.Bodies.{IsGuarded, Loaded}
use Rattle.pass_table.specs.Passes.{view_of}
use Rattle.batch_add.specs.declared.mark_op.MarkRefused.TheVariants.{WrongLayer}
use Rattle.batch_add.specs.declared.mark_op.MarkStage.TheVariants.{Outside, Sides, Refusing}
use Rattle.batch_add.specs.stages.Marking.{marks_of, none_loaded}
use Rattle.batch_add.specs.stages.MarkLater.{body-guarded}
use Rattle.batch_add.proofs.MarkTurns.{went-on}
use Rattle.batch_add.proofs.MarkLoads.{layer-wrong}
use Rattle.batch_add.proofs.MarkSides.{layer-here}
use Rattle.batch_add.proofs.MarkEnds.{going-at}
use Rattle.batch_add.proofs.mark_op.Marking.load_layer.Goals as goal

pub load_layer-layer-requires-clause-guarded : goal.load_layer-layer-requires-clause-guarded
load_layer-layer-requires-clause-guarded c =
    let view = view_of c.args.pass.now in
    let operation = c.args.self.now in
    let way = c.requires.under_way in
    let goes = way.goes.goes in
    let at = going-at operation Outside way.start view goes c.requires.stage in
    subst (λ (i : Id). IsGuarded i view) (sym c.id.ensures) (body-guarded operation.layer operation.slot way.start goes.before goes.batch (marks_of operation) goes.begun view at.0 at.1.0)

pub returns-then-layer-self-clause-turn : goal.returns-then-layer-self-clause-turn
returns-then-layer-self-clause-turn c =
    let view = view_of c.args.pass.now in
    let next = view_of c.load_layer-layer.new.pass in
    let operation = c.args.self.now in
    let layer = c.load_layer-layer.result in
    let load = c.load_layer-layer.ensures in
    went-on c.go_on.result operation c.go_on.new.self Outside operation.look (Sides none_loaded 0) view next c.go_on.ensures.more c.go_on.ensures.stage c.requires.stage load.step load.made (omega arith) tt
    (λ start before batch begun at.
    layer-here operation.layer operation.slot start before batch (marks_of operation) begun view next layer (subst (λ (i : Id). Loaded view next (Layer i.index) layer) c.id.ensures load.loaded) at none_loaded
    (c.if-layer-self.true ∙ sym begun.for_newest.for_slot.0) refl)

pub returns-clause-turn : goal.returns-clause-turn
returns-clause-turn c =
    let view = view_of c.args.pass.now in
    let next = view_of c.load_layer-layer.new.pass in
    let operation = c.args.self.now in
    let layer = c.load_layer-layer.result in
    let load = c.load_layer-layer.ensures in
    went-on c.go_on-2.result operation c.go_on-2.new.self Outside operation.look (Refusing (WrongLayer layer)) view next c.go_on-2.ensures.more
    (subst (λ (n : ℕ). c.go_on-2.new.self ≡ record operation { stage = Refusing (WrongLayer n); made = None }) c.from.ensures c.go_on-2.ensures.stage) c.requires.stage load.step load.made (omega arith) tt
    (λ start before batch begun at.
    layer-wrong operation.layer operation.slot start before batch (marks_of operation) begun view next layer (subst (λ (i : Id). Loaded view next (Layer i.index) layer) c.id.ensures load.loaded) at
    (λ same. c.if-layer-self.false (same ∙ begun.for_newest.for_slot.0)))
