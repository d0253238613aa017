use Rattle.std.proofs.Common.{◌≡◌, ◌+◌, ℕ, set, refl, sym, ◌∙◌, subst, arith}
use Rattle.std.proofs.lemmas.List.{length-set}
use Rattle.body_ident.specs.Id.{Id}
use Rattle.word_map.specs.declared.name.Name.TheVariants.{BoxWord}
use Rattle.pass_table.specs.Bodies.{IsGuarded, Loaded}
use Rattle.pass_table.specs.Passes.{view_of}
use Rattle.batch_add.specs.declared.mark_op.MarkStage.TheVariants.{Sides, Boxed}
use Rattle.batch_add.specs.stages.Marking.{marks_of, MarksOn, at_mark, no_sides}
use Rattle.batch_add.proofs.MarkSides.{side-next, side-last, side-box}
use Rattle.batch_add.proofs.WholeMarks.{marks-from, marks-then, sides-guarded}
use Rattle.batch_add.proofs.mark_op.Marking.load_sides.Goals as goal

pub loop-side-init : goal.loop-side-init
loop-side-init c = (c.requires.of, refl, λ first start goes. goes)

pub load_side-requires-clause-guarded : goal.load_side-requires-clause-guarded
load_side-requires-clause-guarded c =
    let view = view_of c.loop-side.pass in
    let way = c.requires.under_way in
    subst (λ (i : Id). IsGuarded i view) (sym c.id-id.ensures)
    (sides-guarded c.args.self.now c.loop-side.words c.loop-side.side way.first way.start view (c.loop-side.invariant.2 way.first way.start way.goes))

pub loop-side-preserved : goal.loop-side-preserved
loop-side-preserved c =
    let operation = c.args.self.now in
    let begun = view_of c.args.pass.now in
    let view = view_of c.loop-side.pass in
    let next = view_of c.load_side.new.pass in
    let words = c.loop-side.words in
    let k = c.loop-side.side in
    let found = c.load_side.result in
    let more = Sides (set words k found) (k + 1) in (
      c.load_side.ensures.of,
      length-set words k found ∙ c.loop-side.invariant.1,
      marks-then (at_mark operation no_sides) (at_mark operation (Sides words k)) (at_mark operation more) begun view next c.loop-side.invariant.2
          (marks-from (at_mark operation (Sides words k)) (at_mark operation more) (Sides words k) operation.look more view next refl refl
          (λ start before batch begun at.
          side-next operation.layer operation.slot start before batch (marks_of operation) begun view next words k found (subst (λ (i : Id). Loaded view next (BoxWord i.index k) found) c.id-id.ensures c.load_side.ensures.loaded) at
          (omega arith))),
    )

pub load_side-requires-2-clause-guarded : goal.load_side-requires-2-clause-guarded
load_side-requires-2-clause-guarded c =
    let view = view_of c.loop-side.pass in
    let way = c.requires.under_way in
    subst (λ (i : Id). IsGuarded i view) (sym c.id-id.ensures)
    (sides-guarded c.args.self.now c.loop-side.words c.loop-side.side way.first way.start view (c.loop-side.invariant.2 way.first way.start way.goes))

pub unreachable-requires : goal.unreachable-requires
unreachable-requires c =
    let operation = c.args.self.now in
    let view = view_of c.loop-side.pass in
    let next = view_of c.load_side-2.new.pass in
    let words = c.loop-side.words in
    let found = c.load_side-2.result in
    let way = c.requires.under_way in
    let last : c.loop-side.side ≡ 5 = omega arith in
    let at5 = subst (λ (k : ℕ). MarksOn (at_mark operation no_sides) (view_of c.args.pass.now) (at_mark operation (Sides words k)) view) last c.loop-side.invariant.2 in
    let goes = (at5 way.first way.start way.goes).goes in
    side-box operation.layer operation.slot way.start goes.before goes.batch (marks_of operation) goes.begun view next words 5 found
    (subst (λ (i : Id). Loaded view next (BoxWord i.index 5) found) c.id-id.ensures c.load_side-2.ensures.loaded) goes.at (omega arith) (λ b. c.in-None.ensures.none b)

pub returns-clause-keeps : goal.returns-clause-keeps
returns-clause-keeps c =
    let operation = c.args.self.now in
    let begun = view_of c.args.pass.now in
    let view = view_of c.loop-side.pass in
    let next = view_of c.load_side-2.new.pass in
    let words = c.loop-side.words in
    let found = c.load_side-2.result in
    let bounds = c.in-Some.bounds in
    let last : c.loop-side.side ≡ 5 = omega arith in
    let at5 = subst (λ (k : ℕ). MarksOn (at_mark operation no_sides) begun (at_mark operation (Sides words k)) view) last c.loop-side.invariant.2 in
    marks-then (at_mark operation no_sides) (at_mark operation (Sides words 5)) (at_mark operation (Boxed bounds)) begun view next at5
    (marks-from (at_mark operation (Sides words 5)) (at_mark operation (Boxed bounds)) (Sides words 5) operation.look (Boxed bounds) view next refl refl
    (λ start before batch begun at.
    side-last operation.layer operation.slot start before batch (marks_of operation) begun view next words 5 found (subst (λ (i : Id). Loaded view next (BoxWord i.index 5) found) c.id-id.ensures c.load_side-2.ensures.loaded) at
    (omega arith) bounds c.in-Some.ensures.some))
