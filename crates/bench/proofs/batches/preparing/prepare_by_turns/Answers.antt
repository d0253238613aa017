use Rattle.std.specs.Prelude.{◌≡◌, List, Result}
use Rattle.std.proofs.Common.{ℕ, subst}
use Rattle.body_ident.specs.Id.{Id}
use Rattle.core_state.specs.declared.view.View.{View}
use Rattle.pass_table.specs.Belongings.{belongings_of}
use Rattle.pass_table.specs.Passes.{view_of}
use Rattle.batch_add.specs.declared.answers.PrepareRefused.{PrepareRefused}
use Rattle.batch_add.specs.declared.prepare_op.PrepareOp.{PrepareOp}
use Rattle.batch_add.specs.declared.prepared.Prepared.{Prepared}
use Rattle.batch_add.specs.stages.Preparing.{ids_of, HasPreparedOr}
use Rattle.batch_add.specs.PreparedLists.{batches_of}
use Rattle.batch_add.specs.Answers.{IsPrepareAnswer, PrepareAnswers}
use Rattle.batch_add.proofs.PreparedLists.{all-kept, listed-beside}
use Rattle.batch_add.proofs.Resting.{answers-so, prepare-rest, prepare-others, prepare-good, prepare-apart}
use Rattle.bench.proofs.batches.preparing.prepare_by_turns.Goals as goal

-- what the turns answer is what the call does
answered : (ids : List Id) (start next : View) (operation : PrepareOp) (answer : Result Prepared PrepareRefused) → operation.layer ≡ 0 → ids_of operation ≡ ids → HasPreparedOr operation start next answer
    → PrepareAnswers 0 ids start next answer
answered ids start next operation answer layer same has =
    answers-so 0 ids start next answer
    (subst (λ (l : ℕ). IsPrepareAnswer l ids start next answer) layer (subst (λ (l : List Id). IsPrepareAnswer operation.layer l start next answer) same has))

pub returns-in-Ok-clause-idle : goal.returns-in-Ok-clause-idle
returns-in-Ok-clause-idle g c =
    let start = view_of c.args.pass.now in
    let next = view_of c.drive.new.pass in
    let begun = c.in-Ok.ensures.begun in
    record {
      of = c.drive.ensures.of;
      rest =
          prepare-rest 0 c.args.ids.now start next c.drive.result c.requires.idle.rest
          (answered c.args.ids.now start next c.in-Ok.preparing c.drive.result begun.0 begun.1 (c.drive.ensures.answers c.in-Ok.preparing start begun.2));
    }

pub returns-in-Ok-clause-good : goal.returns-in-Ok-clause-good
returns-in-Ok-clause-good g c =
    let start = view_of c.args.pass.now in
    let begun = c.in-Ok.ensures.begun in
    prepare-good 0 c.args.ids.now start (view_of c.drive.new.pass) c.drive.result
    (answered c.args.ids.now start (view_of c.drive.new.pass) c.in-Ok.preparing c.drive.result begun.0 begun.1 (c.drive.ensures.answers c.in-Ok.preparing start begun.2))

pub returns-in-Ok-clause-lists : goal.returns-in-Ok-clause-lists
returns-in-Ok-clause-lists g c list =
    let start = view_of c.args.pass.now in
    let next = view_of c.drive.new.pass in
    let begun = c.in-Ok.ensures.begun in
    all-kept (batches_of list) (belongings_of start) (belongings_of next)
    (prepare-others 0 c.args.ids.now start next c.drive.result
    (answered c.args.ids.now start next c.in-Ok.preparing c.drive.result begun.0 begun.1 (c.drive.ensures.answers c.in-Ok.preparing start begun.2)))

pub returns-in-Ok-clause-listed : goal.returns-in-Ok-clause-listed
returns-in-Ok-clause-listed g c =
    let start = view_of c.args.pass.now in
    let begun = c.in-Ok.ensures.begun in
    listed-beside start c.drive.result
    (prepare-apart 0 c.args.ids.now start (view_of c.drive.new.pass) c.drive.result
    (answered c.args.ids.now start (view_of c.drive.new.pass) c.in-Ok.preparing c.drive.result begun.0 begun.1 (c.drive.ensures.answers c.in-Ok.preparing start begun.2)))
