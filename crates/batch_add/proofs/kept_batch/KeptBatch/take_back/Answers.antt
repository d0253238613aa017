use Rattle.std.proofs.Common.{ℕ, sym, ◌∙◌, subst}
use Rattle.word_map.specs.declared.name.Name.TheVariants.{LocA}
use Rattle.core_state.specs.Batches.{MayTakeBack, take_back}
use Rattle.pass_table.specs.Stepping.{Stored}
use Rattle.pass_table.specs.Passes.{view_of}
use Rattle.pass_table.proofs.WorkLater.{worked-sizes}
use Rattle.batch_add.proofs.GiveBodies.{body-index, body-room, index-named, back-step, back-made, asks-back, back-taken}
use Rattle.batch_add.proofs.kept_batch.KeptBatch.take_back.Goals as goal

pub index-index-requires : goal.index-index-requires
index-index-requires c = let now = c.requires.so_far in record { below = body-room c.args.self.now now.batch now.begun.keeps c.args.done now.at.0 }

pub step_25-requires-clause-named : goal.step_25-requires-clause-named
step_25-requires-clause-named c =
    let now = c.requires.so_far in
    index-named now.start now.before now.batch now.after c.args.self.now now.begun (view_of c.args.pass.now) c.args.world.now.map c.requires.of.sizes (worked-sizes now.start _ _ now.at.1.worked) c.args.done c.index-index.result now.at.0
    c.index-index.ensures.value

pub step_25-requires-clause-asks : goal.step_25-requires-clause-asks
step_25-requires-clause-asks c =
    let view = view_of c.args.pass.now in
    let now = c.requires.so_far in
    subst (λ (n : ℕ). MayTakeBack view (LocA n) 0 0) (sym (c.index-index.ensures.value ∙ body-index c.args.self.now now.batch now.begun.keeps c.args.done now.at.0))
    (asks-back now.start now.before now.batch now.after c.args.self.now now.begun view c.args.done now.at.0 now.at.1)

pub returns-clause-step : goal.returns-clause-step
returns-clause-step c =
    let view = view_of c.args.pass.now in
    let next = view_of c.step_25.new.pass in
    let kept = c.args.self.now in
    let done = c.args.done in
    let index = c.index-index.result in
    let stored = c.step_25.ensures.step in
    record {
      step = back-step view next index stored;
      made = back-made view next index stored c.args.pass.now.number c.args.pass.now.numbered;
      leads = λ start before batch after begun at. (
        at.0,
        back-taken start before batch after kept begun view done at.0 at.1 next
            (subst (λ (n : ℕ). Stored MayTakeBack take_back view (LocA n) 0 next) (c.index-index.ensures.value ∙ body-index kept batch begun.keeps done at.0) stored),
      );
    }
