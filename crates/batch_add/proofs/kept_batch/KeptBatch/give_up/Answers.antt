use Rattle.pass_table.specs.Passes.{view_of}
use Rattle.batch_add.specs.declared.giving_up.GiveStage.TheVariants.{Bare}
use Rattle.batch_add.specs.stages.GiveSteps.{AtStage, HasUnmarked, HasLetSlotGo}
use Rattle.batch_add.proofs.GiveBodies.{none-unmarked}
use Rattle.batch_add.proofs.WholeGiving.{begun-so-far, so-far-on}
use Rattle.batch_add.proofs.kept_batch.KeptBatch.give_up.Goals as goal

pub unmark_all-requires-clause-so_far : goal.unmark_all-requires-clause-so_far
unmark_all-requires-clause-so_far g c = begun-so-far c.args.self.now (view_of c.args.pass.now) c.args.pass.now.number c.args.pass.now.numbered c.requires.begun

pub let_slot_go-requires-clause-so_far : goal.let_slot_go-requires-clause-so_far
let_slot_go-requires-clause-so_far g c =
    let kept = c.args.self.now in
    let start = view_of c.args.pass.now in
    let mid = view_of c.unmark_all.new.pass in
    so-far-on kept (HasUnmarked 0) (AtStage Bare) start mid (begun-so-far kept start c.args.pass.now.number c.args.pass.now.numbered c.requires.begun) c.unmark_all.ensures.leads

pub give_nodes-requires-clause-so_far : goal.give_nodes-requires-clause-so_far
give_nodes-requires-clause-so_far g c =
    let kept = c.args.self.now in
    let start = view_of c.args.pass.now in
    so-far-on kept (HasUnmarked 0) HasLetSlotGo start (view_of c.let_slot_go.new.pass) (begun-so-far kept start c.args.pass.now.number c.args.pass.now.numbered c.requires.begun)
    (λ view before batch after begun none. c.let_slot_go.ensures.step.leads view before batch after begun (c.unmark_all.ensures.leads view before batch after begun none))

pub returns-clause-given_up : goal.returns-clause-given_up
returns-clause-given_up g c before batch after begun =
    let start = view_of c.args.pass.now in
    let none = none-unmarked c.args.self.now start c.args.pass.now.number c.args.pass.now.numbered before batch after begun in
    let bare = c.unmark_all.ensures.leads start before batch after begun none in
    let gone = c.let_slot_go.ensures.step.leads start before batch after begun bare in
    c.give_nodes.ensures.leads start before batch after begun gone
