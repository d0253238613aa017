use Rattle.std.specs.Prelude.{List}
use Rattle.std.proofs.Common.{ℕ, subst}
use Rattle.body_ident.specs.Id.{Id}
use Rattle.pass_table.specs.Belongings.{belongings_of}
use Rattle.pass_table.specs.Passes.{view_of}
use Rattle.batch_add.specs.PreparedLists.{batches_of}
use Rattle.batch_add.proofs.PreparedLists.{all-kept, listed-beside}
use Rattle.batch_add.specs.Answers.{IsPrepareAnswer}
use Rattle.batch_add.proofs.Resting.{answers-so, prepare-rest, prepare-keeps, prepare-others, prepare-good, prepare-apart, prepare-beside}
use Rattle.batch_add.proofs.calls.prepare.Goals as goal

pub returns-in-Ok-clause-answers : goal.returns-in-Ok-clause-answers
returns-in-Ok-clause-answers g c =
    let operation = c.in-Ok.preparing in
    let begun = c.in-Ok.ensures.begun in
    let view = view_of c.args.pass.now in
    let next = view_of c.finish.new.pass in
    answers-so c.args.layer c.args.ids.now view next c.finish.result
    (subst (λ (l : ℕ). IsPrepareAnswer l c.args.ids.now view next c.finish.result) begun.0
    (subst (λ (l : List Id). IsPrepareAnswer operation.layer l view next c.finish.result) begun.1
    (c.finish.ensures.answers operation view begun.2)))

pub returns-in-Ok-clause-idle : goal.returns-in-Ok-clause-idle
returns-in-Ok-clause-idle g c = record {
  of = c.finish.ensures.of;
  rest = prepare-rest c.args.layer c.args.ids.now (view_of c.args.pass.now) (view_of c.finish.new.pass) c.finish.result c.requires.idle.rest (returns-in-Ok-clause-answers g c);
}

pub returns-in-Ok-clause-good : goal.returns-in-Ok-clause-good
returns-in-Ok-clause-good g c = prepare-good c.args.layer c.args.ids.now (view_of c.args.pass.now) (view_of c.finish.new.pass) c.finish.result (returns-in-Ok-clause-answers g c)

pub returns-in-Ok-clause-others : goal.returns-in-Ok-clause-others
returns-in-Ok-clause-others g c = prepare-others c.args.layer c.args.ids.now (view_of c.args.pass.now) (view_of c.finish.new.pass) c.finish.result (returns-in-Ok-clause-answers g c)

pub returns-in-Ok-clause-apart : goal.returns-in-Ok-clause-apart
returns-in-Ok-clause-apart g c = prepare-apart c.args.layer c.args.ids.now (view_of c.args.pass.now) (view_of c.finish.new.pass) c.finish.result (returns-in-Ok-clause-answers g c)

pub returns-in-Ok-clause-keeps : goal.returns-in-Ok-clause-keeps
returns-in-Ok-clause-keeps g c = prepare-keeps c.args.layer c.args.ids.now (view_of c.args.pass.now) (view_of c.finish.new.pass) c.finish.result (returns-in-Ok-clause-answers g c)

pub returns-in-Ok-clause-beside : goal.returns-in-Ok-clause-beside
returns-in-Ok-clause-beside g c = prepare-beside c.args.layer c.args.ids.now (view_of c.args.pass.now) (view_of c.finish.new.pass) c.finish.result (returns-in-Ok-clause-answers g c)

pub returns-in-Ok-clause-lists : goal.returns-in-Ok-clause-lists
returns-in-Ok-clause-lists g c list = all-kept (batches_of list) (belongings_of (view_of c.args.pass.now)) (belongings_of (view_of c.finish.new.pass)) (returns-in-Ok-clause-others g c)

pub returns-in-Ok-clause-listed : goal.returns-in-Ok-clause-listed
returns-in-Ok-clause-listed g c = listed-beside (view_of c.args.pass.now) c.finish.result (returns-in-Ok-clause-apart g c)
