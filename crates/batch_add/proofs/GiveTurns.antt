-- How the turns of giving a batch up go on from stage to stage.
use Rattle.std.proofs.Common.{◌≡◌, ℕ, suc, ◌+◌, ◌<◌, ◌≤◌, Option, Some, None, inl, ap, sym, ◌∙◌, subst, arith}
use Rattle.scene_model.specs.declared.entry.Made.{Made}
use Rattle.core_state.specs.declared.view.View.{View}
use Rattle.pass_table.specs.declared.take_op.TakeOp.{TakeOp}
use Rattle.pass_table.specs.declared.turn.Turn.{Turn}
use Rattle.pass_table.specs.declared.turn.Turn.TheVariants.{Done, More, Again}
use Rattle.pass_table.specs.TakeTurns.{turns_after, turns_left}
use Rattle.pass_table.specs.Turning.{AtMostOneStep, MadeBy, Turned, LoadsNow, GoesOn, Answers, IsUnderWay}
use Rattle.pass_table.proofs.Calling.{turned-more, turned-again}
use Rattle.batch_add.specs.declared.kept_batch.KeptBatch.{KeptBatch}
use Rattle.batch_add.specs.declared.giving_up.GiveStage.{GiveStage}
use Rattle.batch_add.specs.declared.giving_up.GiveStage.TheVariants.{Striping, Striped, Cleared, Unmarked, Bare, Locking, Locked, Next, Headed, Linked, Given, Counted}
use Rattle.batch_add.specs.declared.giving_up.GivingUp.{GivingUp}
use Rattle.batch_add.specs.stages.Keeping.{IsBegunFor}
use Rattle.batch_add.specs.stages.GivingUp.{AtGiving, ComesNext, IsGivingUp, HasGiven, left_at, takes_at, IsGiveTurn}
use Rattle.batch_add.specs.stages.GiveSteps.{Progress, AtStage, IsGivenUp, IsSoFar, Leads, IsGiveStep}

abbrev pub at_stage : GivingUp → GiveStage → Option Made → GivingUp
at_stage operation stage made = record operation { stage = stage; made = made }

-- the batch of an operation is being given up, and is at its stage
pub so-far : (operation : GivingUp) (stage : GiveStage) (view : View) → IsUnderWay IsGivingUp operation view → operation.stage ≡ stage → IsSoFar operation.kept (AtStage stage) view
so-far operation stage view way at =
    let some = way.goes.some in
    record {
      start = way.start;
      before = some.0;
      batch = some.1;
      after = some.2;
      begun = some.3;
      at = subst (AtGiving way.start some.0 some.1 some.2 view) at (way.goes.each some.0 some.1 some.2 some.3);
    }

keeps_on : (operation : GivingUp) (stage new : GiveStage) (made : Option Made) (view next : View) → operation.stage ≡ stage → Leads operation.kept (AtStage stage) view (AtStage new) next → (first : GivingUp) (start : View)
    → IsGivingUp first start operation view → IsGivingUp first start (at_stage operation new made) next
keeps_on operation stage new made view next at keeps first start giving = record {
  kept = giving.kept;
  some = giving.some;
  each = λ before batch after begun. keeps start before batch after begun (subst (AtGiving start before batch after view) at (giving.each before batch after begun));
}

-- a turn that goes on to a stage, with the entry that it made
pub went-on-made : (turn : Turn (Unit {0})) (operation new : GivingUp) (stage later : GiveStage) (made : Option Made) (view next : View) → turn ≡ More → new ≡ at_stage operation later made → operation.stage ≡ stage
    → AtMostOneStep view next → MadeBy view next made → left_at operation.kept later < left_at operation.kept stage → LoadsNow view next (takes_at later) → Leads operation.kept (AtStage stage) view (AtStage later) next → IsGiveTurn turn operation new view next
went-on-made turn operation new stage later made view next goes is at step by less loads keeps =
    subst (λ (t : Turn (Unit {0})). IsGiveTurn t operation new view next) (sym goes)
    (subst (λ (o : GivingUp). IsGiveTurn More operation o view next) (sym is) (record {
      step = step;
      made = by;
      turned = inl (subst (λ (s : GiveStage). left_at operation.kept later < left_at operation.kept s) (sym at) less);
      loads = loads;
      keeps = keeps_on operation stage later made view next at keeps;
      answered = λ first start giving. tt;
    }))

-- without one
pub went-on : (turn : Turn (Unit {0})) (operation new : GivingUp) (stage later : GiveStage) (view next : View) → turn ≡ More → new ≡ record operation { stage = later; made = None } → operation.stage ≡ stage
    → AtMostOneStep view next → MadeBy view next None → left_at operation.kept later < left_at operation.kept stage → LoadsNow view next (takes_at later) → Leads operation.kept (AtStage stage) view (AtStage later) next
    → IsGiveTurn turn operation new view next
went-on turn operation new stage later view next = went-on-made turn operation new stage later None view next

-- a turn that goes on by a step to a stage without a lock to take
pub went-by : (turn : Turn (Unit {0})) (operation new : GivingUp) (stage later : GiveStage) (view next : View) → turn ≡ More → new ≡ record operation { stage = later; made = None } → operation.stage ≡ stage
    → left_at operation.kept later < left_at operation.kept stage → takes_at later ≡ None → (to : Progress) → IsGiveStep operation.kept (AtStage stage) to None view next → Leads operation.kept to next (AtStage later) next
    → IsGiveTurn turn operation new view next
went-by turn operation new stage later view next goes is at less takes to step leads =
    went-on turn operation new stage later view next goes is at step.step step.made less (subst (LoadsNow view next) (sym takes) tt)
    (λ start before batch after begun there. leads start before batch after begun (step.leads start before batch after begun there))

-- the last turn
pub ended : (operation : GivingUp) (stage : GiveStage) (view next : View) → operation.stage ≡ stage → (to : Progress) → IsGiveStep operation.kept (AtStage stage) to None view next
    → Leads operation.kept to next IsGivenUp next → IsGiveTurn (Done tt) operation (record operation { made = None }) view next
ended operation stage view next at to step gives = record {
  step = step.step;
  made = step.made;
  turned = tt;
  loads = tt;
  keeps = λ first start giving. tt;
  answered = λ first start giving before batch after begun.
      let here : IsBegunFor operation.kept start before batch after = subst (λ (k : KeptBatch). IsBegunFor k start before batch after) (sym giving.kept) begun in
      gives start before batch after here (step.leads start before batch after here (subst (AtGiving start before batch after view) at (giving.each before batch after here)));
}

-- at most two turns are left of taking a lock
pub few-left : (taking : TakeOp) → turns_left taking ≤ 2
few-left taking = go taking.loaded
  where
    go : (o : Option ℕ) → turns_after o ≤ 2
    go None = omega arith
    go (Some word) = omega arith

-- what comes after a body takes fewer turns
pub next-less : (kept : KeptBatch) (done : ℕ) (view : View) (stage : GiveStage) → ComesNext kept (suc done) view stage → left_at kept stage < left_at kept (Unmarked done)
next-less kept done view (Striping number taking) comes = let same = comes.0 in let less = comes.1 in let few = few-left taking in omega arith
next-less kept done view Bare comes = omega arith
next-less kept done view (Striped number) comes = absurd comes
next-less kept done view (Cleared number) comes = absurd comes
next-less kept done view (Unmarked number) comes = absurd comes
next-less kept done view (Locking taking) comes = absurd comes
next-less kept done view Locked comes = absurd comes
next-less kept done view (Next free given) comes = absurd comes
next-less kept done view (Headed free given head) comes = absurd comes
next-less kept done view (Linked free given) comes = absurd comes
next-less kept done view (Given free) comes = absurd comes
next-less kept done view Counted comes = absurd comes

-- a turn of taking a lock, that is to be made again or after which there is more to do
module _ (stage_of : TakeOp → GiveStage) (more : ℕ) (operation new : GivingUp) (lefts : (taking : TakeOp) → left_at operation.kept (stage_of taking) ≡ more + turns_left taking) (takes : (taking : TakeOp) → takes_at (stage_of taking) ≡ Some taking) (taking after : TakeOp) (view next : View)
    (is : new ≡ record operation { stage = stage_of after; made = None }) (at : operation.stage ≡ stage_of taking) (step : AtMostOneStep view next) (made : MadeBy view next None) (loads : LoadsNow view next (Some after))
    (keeps : Leads operation.kept (AtStage (stage_of taking)) view (AtStage (stage_of after)) next) where
  take_turn : (turn : Turn (Unit {0})) → Turned turn view next (Some taking) (more + turns_left taking) (more + turns_left after)
      → (LoadsNow view next (takes_at (stage_of after)) → GoesOn turn (LoadsNow view next (takes_at (stage_of after))))
      → ((first : GivingUp) (start : View) → IsGivingUp first start (at_stage operation (stage_of after) None) next → GoesOn turn (IsGivingUp first start (at_stage operation (stage_of after) None) next))
      → ((first : GivingUp) (start : View) → Answers turn (HasGiven first start (at_stage operation (stage_of after) None) next)) → IsGiveTurn turn operation new view next
  take_turn turn turned new_load goes answers =
      subst (λ (o : GivingUp). IsGiveTurn turn operation o view next) (sym is) (record {
        step = step;
        made = made;
        turned =
            subst (λ (t : Option TakeOp). Turned turn view next t (left_at operation.kept operation.stage) (left_at operation.kept (stage_of after))) (sym (ap takes_at at ∙ takes taking))
            (subst (λ (n : ℕ). Turned turn view next (Some taking) n (left_at operation.kept (stage_of after))) (sym (ap (left_at operation.kept) at ∙ lefts taking))
            (subst (λ (n : ℕ). Turned turn view next (Some taking) (more + turns_left taking) n) (sym (lefts after)) turned));
        loads = new_load (subst (LoadsNow view next) (sym (takes after)) loads);
        keeps = λ first start giving. goes first start (keeps_on operation (stage_of taking) (stage_of after) None view next at keeps first start giving);
        answered = λ first start giving. answers first start;
      })

  pub take-more : (turn : Turn (Unit {0})) → turn ≡ More → Turned {T = Unit {0}} More view next (Some taking) (turns_left taking) (turns_left after) → IsGiveTurn turn operation new view next
  take-more turn goes turned =
      subst (λ (t : Turn (Unit {0})). IsGiveTurn t operation new view next) (sym goes)
      (take_turn More (turned-more (Unit {0}) (Unit {0}) more view next (Some taking) (turns_left taking) (turns_left after) turned) (λ l. l) (λ first start giving. giving) (λ first start. tt))

  pub take-again : (lock found : ℕ) → Turned {T = Unit {0}} (Again lock found) view next (Some taking) (turns_left taking) (turns_left after) → IsGiveTurn (Again lock found) operation new view next
  take-again lock found turned =
      take_turn (Again lock found) (turned-again (Unit {0}) (Unit {0}) more view next (Some taking) (turns_left taking) (turns_left after) lock found turned) (λ l. l) (λ first start giving. giving) (λ first start. tt)
