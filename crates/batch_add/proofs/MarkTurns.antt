-- How the turns of marking bodies go on, and those that look at a body.
use Rattle.std.proofs.Common.{◌≡◌, ◌⊎◌, ℕ, suc, ◌+◌, ◌-◌, ◌*◌, ◌<◌, List, length, None, Result, inl, inr, refl, ap, sym, ◌∙◌, subst, arith}
use Rattle.core_state.specs.declared.view.Mode.TheVariants.{Write}
use Rattle.core_state.specs.declared.view.Batch.{Batch}
use Rattle.core_state.specs.declared.view.View.{View}
use Rattle.core_state.specs.Encoding.{phase_join}
use Rattle.pass_table.specs.declared.turn.Turn.{Turn}
use Rattle.pass_table.specs.declared.turn.Turn.TheVariants.{More, Again}
use Rattle.pass_table.specs.Turning.{AtMostOneStep, MadeBy, Turned, LoadsNow, GoesOn, Answers}
use Rattle.pass_table.proofs.Calling.{turned-more, turned-again}
use Rattle.body_look.specs.declared.body_found.BodyFound.{BodyFound}
use Rattle.body_look.specs.declared.body_found.BodyFound.TheVariants.{Gone as FoundGone, Live as FoundLive, Out as FoundOut, In as FoundIn, Held as FoundHeld, Joined as FoundJoined}
use Rattle.body_look.specs.declared.look_op.LookDepth.TheVariants.{Phase as ItsPhase}
use Rattle.body_look.specs.declared.look_op.LookOp.{LookOp}
use Rattle.body_look.specs.stages.Looking.{looking_of, IsLooking, look_left, look_takes}
use Rattle.body_look.proofs.Answering.{turn-left}
use Rattle.batch_add.specs.declared.mark_op.MarkRefused.{MarkRefused}
use Rattle.batch_add.specs.declared.mark_op.MarkRefused.TheVariants.{Gone, Held, AlreadyIn}
use Rattle.batch_add.specs.declared.mark_op.MarkStage.{MarkStage}
use Rattle.batch_add.specs.declared.mark_op.MarkStage.TheVariants.{Looking, Outside, Refusing}
use Rattle.batch_add.specs.declared.mark_op.Marking.{Marking}
use Rattle.batch_add.specs.stages.Marking.{marks_of, current, IsBegunFor, IsAtLook, after_look, AtMark, PastLook, IsMarking, HasMadeMarks, stage_left, turns_each, bodies_left, IsMarkTurn, takes_at}

abbrev pub MarkTurn : Type 0
MarkTurn = Turn (Result (Unit {0}) MarkRefused)

-- a turn that goes from a stage to a stage, with the look as it is then, keeps to the stages of the operation
abbrev pub KeepsStage : Marking → View → View → MarkStage → LookOp → MarkStage → Type 0
KeepsStage operation view next stage look after =
    (start : View) (before : List Batch) (batch : Batch) → IsBegunFor operation.layer operation.slot start before batch (marks_of operation)
    → AtMark start before batch (marks_of operation) view operation.look stage → AtMark start before batch (marks_of operation) next look after

abbrev pub at_stage : Marking → LookOp → MarkStage → Marking
at_stage operation look stage = record operation { look = look; stage = stage; made = None }

-- how much is left at a stage
abbrev pub left_at : Marking → LookOp → MarkStage → ℕ
left_at operation look stage = stage_left look stage + turns_each * bodies_left (length operation.ids.items) operation.marked stage

module _ (operation new : Marking) (stage : MarkStage) (look : LookOp) (after : MarkStage) (view next : View) (is : new ≡ at_stage operation look after) (at : operation.stage ≡ stage)
    (step : AtMostOneStep view next) (made : MadeBy view next None) (loads : LoadsNow view next (takes_at look after)) (keeps : KeepsStage operation view next stage look after) where
  abbrev then : Marking
  then = at_stage operation look after

  goes_on : (first : Marking) (start : View) → IsMarking first start operation view → IsMarking first start then next
  goes_on first start marking =
      let goes = marking.goes in
      record {
        layer = marking.layer;
        slot = marking.slot;
        ids = marking.ids;
        goes = record {
          before = goes.before;
          batch = goes.batch;
          room = goes.room;
          begun = goes.begun;
          at = keeps start goes.before goes.batch goes.begun (subst (AtMark start goes.before goes.batch (marks_of operation) view operation.look) at goes.at);
        };
      }

  -- a turn that made no entry and goes on to a stage
  turn_to : (turn : MarkTurn) → Turned turn view next (takes_at operation.look stage) (left_at operation operation.look stage) (left_at operation look after)
      → (LoadsNow view next (takes_at look after) → GoesOn turn (LoadsNow view next (takes_at look after)))
      → ((first : Marking) (start : View) → IsMarking first start then next → GoesOn turn (IsMarking first start then next)) → ((first : Marking) (start : View) → Answers turn (HasMadeMarks first start then next))
      → IsMarkTurn turn operation new view next
  turn_to turn turned new_load goes answers =
      subst (λ (o : Marking). IsMarkTurn turn operation o view next) (sym is) (record {
        step = step;
        made = made;
        turned = subst (λ (s : MarkStage). Turned turn view next (takes_at operation.look s) (left_at operation operation.look s) (left_at operation look after)) (sym at) turned;
        loads = new_load loads;
        keeps = λ first start marking. goes first start (goes_on first start marking);
        answered = λ first start marking. answers first start;
      })

  more_to : Turned {T = Result (Unit {0}) MarkRefused} More view next (takes_at operation.look stage) (left_at operation operation.look stage) (left_at operation look after) → IsMarkTurn More operation new view next
  more_to turned = turn_to More turned (λ l. l) (λ first start marking. marking) (λ first start. tt)

  again_to : (lock found : ℕ) → Turned {T = Result (Unit {0}) MarkRefused} (Again lock found) view next (takes_at operation.look stage) (left_at operation operation.look stage) (left_at operation look after)
      → IsMarkTurn (Again lock found) operation new view next
  again_to lock found turned = turn_to (Again lock found) turned (λ l. l) (λ first start marking. marking) (λ first start. tt)

-- it goes on from one stage to the next
pub went-on : (turn : MarkTurn) (operation new : Marking) (stage : MarkStage) (look : LookOp) (after : MarkStage) (view next : View) → turn ≡ More → new ≡ at_stage operation look after → operation.stage ≡ stage
    → AtMostOneStep view next → MadeBy view next None → left_at operation look after < left_at operation operation.look stage → LoadsNow view next (takes_at look after)
    → KeepsStage operation view next stage look after → IsMarkTurn turn operation new view next
went-on turn operation new stage look after view next goes is at step made less loads keeps =
    subst (λ (t : MarkTurn). IsMarkTurn t operation new view next) (sym goes) (more_to operation new stage look after view next is at step made loads keeps (inl less))

-- ---- looking at a body

-- a turn of the look, after which it goes on
module _ (operation new : Marking) (after : LookOp) (view next : View) (is : new ≡ record operation { look = after; made = None }) (at : operation.stage ≡ Looking)
    (step : AtMostOneStep view next) (made : MadeBy view next None) (loads : LoadsNow view next (look_takes after))
    (keeps : (first : LookOp) (start : View) → IsLooking first start operation.look view → IsLooking first start after next) where
  abbrev later : ℕ
  later = 9 + turns_each * (length operation.ids.items - suc operation.marked)

  lefts : (look : LookOp) → left_at operation look Looking ≡ later + look_left look
  lefts look = omega arith

  still : new ≡ at_stage operation after Looking
  still = is ∙ (λ i. record operation { look = after; stage = at i; made = None })

  look_keeps : KeepsStage operation view next Looking after Looking
  look_keeps start before batch begun now =
      record { mid = now.mid; between = now.between; looking = keeps (looking_of start.config (current (marks_of operation)) Write ItsPhase) now.mid now.looking }

  by_left : (turn : MarkTurn) → Turned turn view next (look_takes operation.look) (later + look_left operation.look) (later + look_left after)
      → Turned turn view next (look_takes operation.look) (left_at operation operation.look Looking) (left_at operation after Looking)
  by_left turn turned =
      subst (λ (n : ℕ). Turned turn view next (look_takes operation.look) n (left_at operation after Looking)) (sym (lefts operation.look))
      (subst (Turned turn view next (look_takes operation.look) (later + look_left operation.look)) (sym (lefts after)) turned)

  pub look-more : Turned {T = BodyFound} More view next (look_takes operation.look) (look_left operation.look) (look_left after) → IsMarkTurn More operation new view next
  look-more turned =
      more_to operation new Looking after Looking view next still at step made loads look_keeps
      (by_left More (turned-more BodyFound (Result (Unit {0}) MarkRefused) later view next (look_takes operation.look) (look_left operation.look) (look_left after) turned))

  pub look-again : (lock found : ℕ) → Turned {T = BodyFound} (Again lock found) view next (look_takes operation.look) (look_left operation.look) (look_left after) → IsMarkTurn (Again lock found) operation new view next
  look-again lock found turned =
      again_to operation new Looking after Looking view next still at step made loads look_keeps lock found
      (by_left (Again lock found) (turned-again BodyFound (Result (Unit {0}) MarkRefused) later view next (look_takes operation.look) (look_left operation.look) (look_left after) lock found turned))

-- after the look the layer comes next, or the body is refused
pub found_cases : (found : BodyFound) → (after_look found ≡ Outside) ⊎ ((refused : MarkRefused) × (after_look found ≡ Refusing refused))
found_cases (FoundGone state) = inr (Gone state, refl)
found_cases FoundLive = inl refl
found_cases FoundOut = inl refl
found_cases FoundIn = inr (AlreadyIn 1, refl)
found_cases (FoundHeld layer slot word) = inr (Held word, refl)
found_cases (FoundJoined layer slot word) = inr (AlreadyIn (phase_join slot), refl)

-- the last turn of the look
pub look-done : (operation new : Marking) (look : LookOp) (found : BodyFound) (after : MarkStage) (view next : View) (turn : MarkTurn) → turn ≡ More → new ≡ at_stage operation look after → operation.stage ≡ Looking
    → AtMostOneStep view next → MadeBy view next None → after ≡ after_look found
    → ((start : View) (before : List Batch) (batch : Batch) → IsBegunFor operation.layer operation.slot start before batch (marks_of operation) → IsAtLook start before batch (marks_of operation) operation.look view
    → PastLook start before batch (marks_of operation) next (after_look found))
    → IsMarkTurn turn operation new view next
look-done operation new look found after view next turn more is at step made same keeps =
    let one = turn-left operation.look in
    elim (found_cases found) [
      | inl out ↦
          let less : left_at operation look Outside < left_at operation operation.look Looking = omega arith in
          went-on turn operation new Looking look Outside view next more (is ∙ ap (at_stage operation look) (same ∙ out)) at step made less tt
          (λ start before batch begun now. subst (PastLook start before batch (marks_of operation) next) out (keeps start before batch begun now))
      | inr refused ↦
          let less : left_at operation look (Refusing refused.0) < left_at operation operation.look Looking = omega arith in
          went-on turn operation new Looking look (Refusing refused.0) view next more (is ∙ ap (at_stage operation look) (same ∙ refused.1)) at step made less tt
          (λ start before batch begun now. subst (PastLook start before batch (marks_of operation) next) refused.1 (keeps start before batch begun now))
    ]
