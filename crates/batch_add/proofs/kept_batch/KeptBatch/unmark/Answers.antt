use Rattle.std.proofs.Common.{ℕ, sym, ◌∙◌, ap, subst}
use Rattle.word_map.specs.declared.name.Name.TheVariants.{Phase}
use Rattle.core_state.specs.declared.view.View.{View}
use Rattle.core_state.specs.View.{IsPass, number_of}
use Rattle.core_state.specs.Batches.{MayUnmark, unmark}
use Rattle.pass_table.specs.Stepping.{Stored}
use Rattle.pass_table.specs.Passes.{view_of}
use Rattle.pass_table.proofs.WorkLater.{worked-sizes}
use Rattle.batch_add.proofs.GiveBodies.{body-index, body-room, index-named, unmark-step, unmark-made, asks-unmark, unmarked-work}
use Rattle.batch_add.proofs.kept_batch.KeptBatch.unmark.Goals as goal

pub index-index-requires : goal.index-index-requires
index-index-requires c = let now = c.requires.so_far in record { below = body-room c.args.self.now now.batch now.begun.keeps c.args.done now.at.0 }

pub step_26-requires-clause-named : goal.step_26-requires-clause-named
step_26-requires-clause-named c =
    let now = c.requires.so_far in
    index-named now.start now.before now.batch now.after c.args.self.now now.begun (view_of c.args.pass.now) c.args.world.now.map c.requires.of.sizes (worked-sizes now.start _ _ now.at.1.worked) c.args.done c.index-index.result now.at.0
    c.index-index.ensures.value

pub step_26-requires-clause-asks : goal.step_26-requires-clause-asks
step_26-requires-clause-asks c =
    let view = view_of c.args.pass.now in
    let now = c.requires.so_far in
    subst (λ (n : ℕ). MayUnmark view (Phase n) 0 0) (sym (c.index-index.ensures.value ∙ body-index c.args.self.now now.batch now.begun.keeps c.args.done now.at.0))
    (asks-unmark now.start now.before now.batch now.after c.args.self.now now.begun view c.args.done now.at.0 now.at.1)

pub returns-clause-step : goal.returns-clause-step
returns-clause-step c =
    let kept = c.args.self.now in
    let view = view_of c.args.pass.now in
    let next = view_of c.step_26.new.pass in
    let done = c.args.done in
    let index = c.index-index.result in
    let stored = c.step_26.ensures.step in
    let pass : IsPass view c.number.result = ap (λ (v : View). number_of v) (sym stored.1.leaves) ∙ c.number.ensures in
    record {
      step = unmark-step view next index stored;
      made = unmark-made view next index stored c.number.result pass;
      leads = λ start before batch after begun at. (
        at.0,
        unmarked-work start before batch after kept begun view done at.0 at.1 next
            (subst (λ (n : ℕ). Stored MayUnmark unmark view (Phase n) 0 next) (c.index-index.ensures.value ∙ body-index kept batch begun.keeps done at.0) stored),
      );
    }
