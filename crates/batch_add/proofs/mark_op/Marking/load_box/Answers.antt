use Rattle.std.proofs.Common.{ℕ, ◌∙◌, refl, sym, subst, ap}
use Rattle.body_ident.specs.Id.{Id}
use Rattle.word_map.specs.declared.name.Name.TheVariants.{Layer}
use Rattle.pass_table.specs.Bodies.{IsGuarded, Loaded}
use Rattle.pass_table.specs.Passes.{view_of}
use Rattle.batch_add.specs.declared.mark_op.MarkStage.TheVariants.{Outside, Boxed, Refusing}
use Rattle.batch_add.specs.declared.mark_op.MarkRefused.TheVariants.{WrongLayer}
use Rattle.batch_add.specs.stages.Marking.{marks_of, MarksOn, at_mark, no_sides, none_loaded}
use Rattle.batch_add.specs.stages.MarkLater.{body-guarded}
use Rattle.batch_add.proofs.MarkLoads.{layer-wrong}
use Rattle.batch_add.proofs.MarkSides.{layer-here}
use Rattle.batch_add.proofs.MarkEnds.{going-at}
use Rattle.batch_add.proofs.WholeMarks.{marks-from, marks-then}
use Rattle.batch_add.proofs.mark_op.Marking.load_box.Goals as goal

pub load_layer-layer-requires-clause-guarded : goal.load_layer-layer-requires-clause-guarded
load_layer-layer-requires-clause-guarded c =
    let view = view_of c.args.pass.now in
    let operation = c.args.self.now in
    let way = c.requires.under_way in
    let goes = way.goes.goes in
    let at = going-at operation Outside way.start view goes c.requires.stage in
    subst (λ (i : Id). IsGuarded i view) (sym c.id.ensures) (body-guarded operation.layer operation.slot way.start goes.before goes.batch (marks_of operation) goes.begun view at.0 at.1.0)

-- its layer is the batch's
pub load_sides-bounds-requires-clause-under_way : goal.load_sides-bounds-requires-clause-under_way
load_sides-bounds-requires-clause-under_way c =
    let view = view_of c.args.pass.now in
    let next = view_of c.load_layer-layer.new.pass in
    let operation = c.args.self.now in
    let layer = c.load_layer-layer.result in
    let way = c.requires.under_way in
    let here : MarksOn operation view (at_mark operation no_sides) next =
    marks-from operation (at_mark operation no_sides) Outside operation.look no_sides view next refl c.requires.stage
    (λ start before batch begun at.
    layer-here operation.layer operation.slot start before batch (marks_of operation) begun view next layer (subst (λ (i : Id). Loaded view next (Layer i.index) layer) c.id.ensures c.load_layer-layer.ensures.loaded) at none_loaded
    (c.if-layer-self.true ∙ sym begun.for_newest.for_slot.0) refl) in
    record { first = way.first; start = way.start; goes = here way.first way.start way.goes }

pub returns-then-layer-self-clause-keeps : goal.returns-then-layer-self-clause-keeps
returns-then-layer-self-clause-keeps c =
    let view = view_of c.args.pass.now in
    let mid = view_of c.load_layer-layer.new.pass in
    let operation = c.args.self.now in
    let layer = c.load_layer-layer.result in
    let here : MarksOn operation view (at_mark operation no_sides) mid =
    marks-from operation (at_mark operation no_sides) Outside operation.look no_sides view mid refl c.requires.stage
    (λ start before batch begun at.
    layer-here operation.layer operation.slot start before batch (marks_of operation) begun view mid layer (subst (λ (i : Id). Loaded view mid (Layer i.index) layer) c.id.ensures c.load_layer-layer.ensures.loaded) at none_loaded
    (c.if-layer-self.true ∙ sym begun.for_newest.for_slot.0) refl) in
    marks-then operation (at_mark operation no_sides) (at_mark operation (Boxed c.load_sides-bounds.result)) view mid (view_of c.load_sides-bounds.new.pass) here c.load_sides-bounds.ensures.keeps

-- it is another one
pub returns-else-layer-self-clause-keeps : goal.returns-else-layer-self-clause-keeps
returns-else-layer-self-clause-keeps c =
    let view = view_of c.args.pass.now in
    let next = view_of c.load_layer-layer.new.pass in
    let operation = c.args.self.now in
    let layer = c.load_layer-layer.result in
    marks-from operation _ Outside operation.look (Refusing (WrongLayer layer)) view next
    (ap (λ (n : ℕ). at_mark operation (Refusing (WrongLayer n))) c.from.ensures) c.requires.stage
    (λ start before batch begun at.
    layer-wrong operation.layer operation.slot start before batch (marks_of operation) begun view next layer (subst (λ (i : Id). Loaded view next (Layer i.index) layer) c.id.ensures c.load_layer-layer.ensures.loaded) at
    (λ same. c.if-layer-self.false (same ∙ begun.for_newest.for_slot.0)))
