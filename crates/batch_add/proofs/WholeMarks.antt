-- Stages of marking bodies one after the other.
use Rattle.std.proofs.Common.{◌≡◌, ℕ, List, inl, inr, ap, sym, ◌∙◌, subst}
use Rattle.core_state.specs.declared.view.Batch.{Batch}
use Rattle.core_state.specs.declared.view.View.{View}
use Rattle.pass_table.specs.Bodies.{IsGuarded}
use Rattle.body_look.specs.declared.body_found.BodyFound.{BodyFound}
use Rattle.body_look.specs.declared.look_op.LookOp.{LookOp}
use Rattle.batch_add.specs.declared.mark_op.MarkStage.{MarkStage}
use Rattle.batch_add.specs.declared.mark_op.MarkStage.TheVariants.{Looking, Outside, Sides, Refusing}
use Rattle.batch_add.specs.declared.mark_op.Marking.{Marking}
use Rattle.batch_add.specs.stages.Marking.{marks_of, current, IsBegunFor, IsAtLook, AtMark, PastLook, after_look, IsMarking, at_mark, MarksOn}
use Rattle.batch_add.specs.stages.MarkLater.{body-guarded}
use Rattle.batch_add.proofs.MarkTurns.{at_stage, KeepsStage, found_cases}

-- a stage leads to another where what holds at it gives what holds at the other
pub marks-from : (operation new : Marking) (stage : MarkStage) (look : LookOp) (after : MarkStage) (view next : View) → new ≡ at_stage operation look after → operation.stage ≡ stage
    → KeepsStage operation view next stage look after → MarksOn operation view new next
marks-from operation new stage look after view next is at keeps =
    subst (λ (o : Marking). MarksOn operation view o next) (sym is) (λ first start marking.
    let goes = marking.goes in
    record {
      layer = marking.layer;
      slot = marking.slot;
      ids = marking.ids;
      goes = record {
        before = goes.before;
        batch = goes.batch;
        room = goes.room;
        begun = goes.begun;
        at = keeps start goes.before goes.batch goes.begun (subst (AtMark start goes.before goes.batch (marks_of operation) view operation.look) at goes.at);
      };
    })

pub marks-then : (before mid after : Marking) (view between next : View) → MarksOn before view mid between → MarksOn mid between after next → MarksOn before view after next
marks-then before mid after view between next one two = λ first start marking. two first start (one first start marking)

-- after a look comes what it has found
pub looked-on : (operation new : Marking) (look : LookOp) (found : BodyFound) (after : MarkStage) (view next : View) → new ≡ at_stage operation look after → operation.stage ≡ Looking → after ≡ after_look found
    → ((start : View) (before : List Batch) (batch : Batch) → IsBegunFor operation.layer operation.slot start before batch (marks_of operation) → IsAtLook start before batch (marks_of operation) operation.look view
    → PastLook start before batch (marks_of operation) next (after_look found))
    → MarksOn operation view new next
looked-on operation new look found after view next is at same keeps =
    elim (found_cases found) [
      | inl out ↦
          marks-from operation new Looking look Outside view next (is ∙ ap (at_stage operation look) (same ∙ out)) at
          (λ start before batch begun now. subst (PastLook start before batch (marks_of operation) next) out (keeps start before batch begun now))
      | inr refused ↦
          marks-from operation new Looking look (Refusing refused.0) view next (is ∙ ap (at_stage operation look) (same ∙ refused.1)) at
          (λ start before batch begun now. subst (PastLook start before batch (marks_of operation) next) refused.1 (keeps start before batch begun now))
    ]

-- while the sides of a body's box are loaded the pass guards the body
pub sides-guarded : (operation : Marking) (words : List ℕ) (loaded : ℕ) (first : Marking) (start view : View) → IsMarking first start (at_mark operation (Sides words loaded)) view → IsGuarded (current (marks_of operation)) view
sides-guarded operation words loaded first start view marking =
    let goes = marking.goes in
    let at = goes.at in
    body-guarded operation.layer operation.slot start goes.before goes.batch (marks_of operation) goes.begun view at.0 at.1.0.0
