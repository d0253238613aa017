use Rattle.std.proofs.Common.{◌+◌, set, sym, subst, arith}
use Rattle.body_ident.specs.Id.{Id}
use Rattle.word_map.specs.declared.name.Name.TheVariants.{BoxWord}
use Rattle.pass_table.specs.Bodies.{IsGuarded, Loaded}
use Rattle.pass_table.specs.Passes.{view_of}
use Rattle.batch_add.specs.declared.mark_op.MarkStage.TheVariants.{Sides, Boxed}
use Rattle.batch_add.specs.stages.Marking.{marks_of}
use Rattle.batch_add.proofs.MarkTurns.{went-on}
use Rattle.batch_add.specs.stages.MarkLater.{body-guarded}
use Rattle.batch_add.proofs.MarkSides.{side-next, side-last, side-box}
use Rattle.batch_add.proofs.MarkEnds.{going-at}
use Rattle.batch_add.proofs.mark_op.Marking.load_side.Goals as goal

pub load_side-requires-clause-guarded : goal.load_side-requires-clause-guarded
load_side-requires-clause-guarded c =
    let view = view_of c.args.pass.now in
    let operation = c.args.self.now in
    let way = c.requires.under_way in
    let goes = way.goes.goes in
    let at = going-at operation (Sides c.args.words c.args.loaded) way.start view goes c.requires.stage in
    subst (λ (i : Id). IsGuarded i view) (sym c.id.ensures) (body-guarded operation.layer operation.slot way.start goes.before goes.batch (marks_of operation) goes.begun view at.0 at.1.0.0)

pub returns-then-loaded-lt5-clause-turn : goal.returns-then-loaded-lt5-clause-turn
returns-then-loaded-lt5-clause-turn c =
    let view = view_of c.args.pass.now in
    let next = view_of c.load_side.new.pass in
    let operation = c.args.self.now in
    let words = c.args.words in
    let loaded = c.args.loaded in
    let found = c.load_side.result in
    let load = c.load_side.ensures in
    let less = c.if-loaded-lt5.true in
    went-on c.go_on.result operation c.go_on.new.self (Sides words loaded) operation.look (Sides (set words loaded found) (loaded + 1)) view next c.go_on.ensures.more c.go_on.ensures.stage c.requires.stage
    load.step load.made (omega arith) tt
    (λ start before batch begun at.
    side-next operation.layer operation.slot start before batch (marks_of operation) begun view next words loaded found
    (subst (λ (i : Id). Loaded view next (BoxWord i.index loaded) found) c.id.ensures load.loaded) at less)

pub unreachable-requires : goal.unreachable-requires
unreachable-requires c =
    let view = view_of c.args.pass.now in
    let next = view_of c.load_side.new.pass in
    let operation = c.args.self.now in
    let words = c.args.words in
    let loaded = c.args.loaded in
    let found = c.load_side.result in
    let way = c.requires.under_way in
    let goes = way.goes.goes in
    side-box operation.layer operation.slot way.start goes.before goes.batch (marks_of operation) goes.begun view next words loaded found
    (subst (λ (i : Id). Loaded view next (BoxWord i.index loaded) found) c.id.ensures c.load_side.ensures.loaded)
    (going-at operation (Sides words loaded) way.start view goes c.requires.stage) c.if-loaded-lt5.false (λ b. c.in-None.ensures.none b)

pub returns-clause-turn : goal.returns-clause-turn
returns-clause-turn c =
    let view = view_of c.args.pass.now in
    let next = view_of c.load_side.new.pass in
    let operation = c.args.self.now in
    let words = c.args.words in
    let loaded = c.args.loaded in
    let found = c.load_side.result in
    let load = c.load_side.ensures in
    let last = c.if-loaded-lt5.false in
    let way = c.requires.under_way in
    let room = (going-at operation (Sides words loaded) way.start view way.goes.goes c.requires.stage).2 in
    went-on c.go_on-in-Some.result operation c.go_on-in-Some.new.self (Sides words loaded) operation.look (Boxed c.in-Some.bounds) view next c.go_on-in-Some.ensures.more c.go_on-in-Some.ensures.stage c.requires.stage
    load.step load.made (omega arith) tt
    (λ start before batch begun at.
    side-last operation.layer operation.slot start before batch (marks_of operation) begun view next words loaded found
    (subst (λ (i : Id). Loaded view next (BoxWord i.index loaded) found) c.id.ensures load.loaded) at last c.in-Some.bounds c.in-Some.ensures.some)
