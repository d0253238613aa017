-- What the turns of a removal leave that look at the body, and what each turn leaves of the label.
use Rattle.std.proofs.Common.{◌≡◌, ℕ, ◌<◌, ◌≤◌, List, [], Option, Some, None, Err, Result, refl, ap, sym, ◌∙◌, subst, arith}
use Rattle.std.proofs.lemmas.Option.{none-some}
use Rattle.body_ident.specs.Id.{Id}
use Rattle.scene_model.specs.declared.body_view.Phase.{Phase as BodyPhase}
use Rattle.scene_model.specs.declared.body_view.Phase.TheVariants.{Out, Held, In}
use Rattle.word_map.specs.declared.name.Name.TheVariants.{Slot}
use Rattle.core_state.specs.declared.view.Mode.{Mode}
use Rattle.core_state.specs.declared.view.Mode.TheVariants.{Write}
use Rattle.core_state.specs.declared.view.LockStep.{LockStep}
use Rattle.scene_model.specs.declared.entry.Entry.{Entry}
use Rattle.std.proofs.lemmas.Bool.{false≢true}
use Rattle.core_state.specs.declared.view.Task.{Task}
use Rattle.core_state.specs.declared.view.Task.TheVariants.{Nothing}
use Rattle.core_state.specs.declared.view.View.{View}
use Rattle.core_state.specs.View.{known_word}
use Rattle.pass_table.specs.declared.turn.Turn.{Turn}
use Rattle.pass_table.specs.declared.turn.Turn.TheVariants.{Done, More, Again}
use Rattle.pass_table.specs.Labels.{IsRefusal, EndsAfter, SaysNew}
use Rattle.pass_table.specs.Turning.{AtMostOneStep, MadeBy, Turned, Labelled, HasReached, LoadsNow}
use Rattle.pass_table.specs.Holding.{IsAtRest}
use Rattle.pass_table.specs.Work.{IsCalling}
use Rattle.pass_table.proofs.LockedBodies.{told-body}
use Rattle.pass_table.proofs.Stages.{Staged, went-on, inner-more, inner-again}
use Rattle.body_look.specs.declared.body_found.BodyFound.{BodyFound}
use Rattle.body_look.specs.declared.body_found.BodyFound.TheVariants.{Gone as FoundGone, Live as FoundLive, Out as FoundOut, In as FoundIn, Held as FoundHeld, Joined as FoundJoined}
use Rattle.body_look.specs.declared.look_op.LookDepth.TheVariants.{Phase as ItsPhase}
use Rattle.body_look.specs.declared.look_op.LookOp.{LookOp}
use Rattle.body_look.specs.Found.{phase_found, IsFound}
use Rattle.body_look.specs.stages.Looking.{looking_of, IsLooking, HasLooked, Guards, GuardsFound, look_left, look_takes}
use Rattle.body_look.specs.stages.LookLater.{is-guarded}
use Rattle.body_look.proofs.Answering.{phase-told, looked-point, gone-point}
use Rattle.remove_body.specs.declared.answers.RemoveRefused.{RemoveRefused}
use Rattle.remove_body.specs.declared.answers.RemoveRefused.TheVariants.{Gone, NotIn, Held as HeldBody}
use Rattle.remove_body.specs.declared.remove_op.RemoveStage.{RemoveStage}
use Rattle.remove_body.specs.declared.remove_op.RemoveStage.TheVariants.{Looking, Leaving}
use Rattle.remove_body.specs.declared.remove_op.RemoveOp.{RemoveOp}
use Rattle.body_look.specs.Found.{IsHeldAt}
use Rattle.remove_body.specs.Answers.{IsNotInAt, IsRemoveAnswer}
use Rattle.remove_body.specs.stages.Removing.{IsAtWork, stripe_taken, IsInside, AtRemove, IsRemoving, HasRemovedOr, stage_label, label_of, label_says, stage_left, takes_at, IsPlainTurn, IsRemoveTurn}

-- ---- begun

module _ (id : Id) (view next : View) (look : LookOp) where
  abbrev BegunFor : RemoveOp
  BegunFor = record { id = id; look = look; stage = Looking; made = None }

  pub removing-begun : id.index < view.config.bodies → IsAtRest view → look ≡ looking_of view.config id Write ItsPhase → IsLooking look view look next → IsRemoving BegunFor view BegunFor next
  removing-begun below rest is looking = (
    refl,
    record { below = below; rest = rest },
    subst (λ (first : LookOp). IsLooking first view look next) is looking,
  )

-- ---- the label

-- where no label is reached, none is new
labelled-same : {T : Type 0} (turn : Turn T) (before after : Option ℕ) → after ≡ before → Labelled turn before after
labelled-same (Done answer) before after same = same
labelled-same More before after same = λ label reached. subst (λ (o : Option ℕ). HasReached o label) (sym same) reached
labelled-same (Again lock word) before after same = same

says-same : (before after : Option ℕ) → after ≡ before → (says : ℕ → Type 0) → SaysNew before after says
says-same before None same says = tt
says-same before (Some last) same says = λ label fresh below. absurd (fresh (subst (λ (o : Option ℕ). HasReached o label) same below))

pub unlabelled : (turn : Turn (Result (Unit {0}) RemoveRefused)) (before after : RemoveOp) (view next : View) → IsPlainTurn turn before after view next → label_of after ≡ label_of before
    → EndsAfter turn IsRefusal (Some 0) (label_of before) → IsRemoveTurn turn before after view next
unlabelled turn before after view next plain same ends = record {
  plain = plain;
  labelled = labelled-same turn (label_of before) (label_of after) same;
  ends = ends;
  says = λ first start way. says-same (label_of before) (label_of after) same (label_says first start next);
}

more-ends : (turn : Turn (Result (Unit {0}) RemoveRefused)) (label : Option ℕ) → turn ≡ More → EndsAfter turn IsRefusal (Some 0) label
more-ends turn label more = subst (λ (t : Turn (Result (Unit {0}) RemoveRefused)). EndsAfter t IsRefusal (Some 0) label) (sym more) tt

-- ---- stages

-- a removal goes from stage to stage, with the look as it is there
abbrev pub remove_stages : Staged (Result (Unit {0}) RemoveRefused) RemoveOp (LookOp × RemoveStage)
remove_stages = record {
  under_way = IsRemoving;
  answers = HasRemovedOr;
  made = λ operation. operation.made;
  stage = λ operation. (operation.look, operation.stage);
  left = λ at. stage_left at.0 at.1;
  takes = λ at. takes_at at.0 at.1;
  at = λ first start view at. AtRemove first.id start view at.0 at.1;
  to = λ operation after. record operation { look = after.0; stage = after.1; made = None };
  reached = λ operation after. refl;
  unmade = λ operation after. refl;
  holds = λ first start operation view removing. removing.2;
  goes = λ first start operation after view next removing at. (removing.0, removing.1, at);
}

-- one that has looked goes on, and the look stays as it is
pub remove-on : (turn : Turn (Result (Unit {0}) RemoveRefused)) (before new : RemoveOp) (stage after : RemoveStage) (view next : View) → turn ≡ More → new ≡ record before { stage = after; made = None }
    → before.stage ≡ stage → AtMostOneStep view next → MadeBy view next None → stage_left before.look after < stage_left before.look stage → LoadsNow view next (takes_at before.look after)
    → stage_label after ≡ stage_label stage
    → ((first : RemoveOp) (start : View) → IsRemoving first start before view → AtRemove first.id start view before.look stage → AtRemove first.id start next before.look after)
    → IsRemoveTurn turn before new view next
remove-on turn before new stage after view next more is at step made less loads label keeps =
    unlabelled turn before new view next
    (went-on remove_stages turn before new (before.look, stage) (before.look, after) view next more is (λ i. (before.look, at i)) step made less loads keeps)
    (ap label_of is ∙ (label ∙ ap stage_label (sym at))) (more-ends turn (label_of before) more)

-- ---- the look

-- a turn of the look, after which it goes on
module _ (before new : RemoveOp) (after : LookOp) (view next : View) (at : before.stage ≡ Looking) (is : new ≡ record before { look = after; made = None })
    (step : AtMostOneStep view next) (made : MadeBy view next None) (loads : LoadsNow view next (look_takes after))
    (keeps : (first : LookOp) (start : View) → IsLooking first start before.look view → IsLooking first start after next) where
  still : new ≡ record before { look = after; stage = Looking; made = None }
  still = is ∙ (λ i. record before { look = after; stage = at i; made = None })

  pub look-more : Turned {T = BodyFound} More view next (look_takes before.look) (look_left before.look) (look_left after) → IsRemoveTurn More before new view next
  look-more turned =
      unlabelled More before new view next
      (inner-more BodyFound remove_stages (λ look. (look, Looking)) look_left look_takes 8 (λ look. refl) (λ look. refl) before new before.look after view next still (λ i. (before.look, at i)) step made loads
      (λ first start removing now. keeps (looking_of start.config first.id Write ItsPhase) start now) More refl turned) (ap label_of is) tt

  pub look-again : (lock word : ℕ) → Turned {T = BodyFound} (Again lock word) view next (look_takes before.look) (look_left before.look) (look_left after) → IsRemoveTurn (Again lock word) before new view next
  look-again lock word turned =
      unlabelled (Again lock word) before new view next
      (inner-again BodyFound remove_stages (λ look. (look, Looking)) look_left look_takes 8 (λ look. refl) (λ look. refl) before new before.look after view next still (λ i. (before.look, at i)) step made loads
      (λ first start removing now. keeps (looking_of start.config first.id Write ItsPhase) start now) lock word turned) (ap label_of is) tt

-- or it is done
pub look-done : (before new : RemoveOp) (look : LookOp) (found : BodyFound) (after : RemoveStage) (view next : View) (turn : Turn (Result (Unit {0}) RemoveRefused)) → turn ≡ More
    → new ≡ record before { look = look; stage = after; made = None } → before.stage ≡ Looking → AtMostOneStep view next → MadeBy view next None
    → ((first : LookOp) (start : View) → IsLooking first start before.look view → HasLooked first.id first.mode first.depth start next found) → 0 < look_left before.look → stage_left look after ≤ 8
    → LoadsNow view next (takes_at look after) → stage_label after ≡ None
    → ((id : Id) (start : View) → HasLooked id Write ItsPhase start next found → AtRemove id start next look after) → IsRemoveTurn turn before new view next
look-done before new look found after view next turn more is at step made looked some less loads label keeps =
    let fewer : stage_left look after < stage_left before.look Looking = omega arith in
    unlabelled turn before new view next
    (went-on remove_stages turn before new (before.look, Looking) (look, after) view next more is (λ i. (before.look, at i)) step made fewer loads
    (λ first start removing now. keeps first.id start (looked (looking_of start.config first.id Write ItsPhase) start now)))
    (ap label_of is ∙ (label ∙ ap stage_label (sym at))) (more-ends turn (label_of before) more)

-- ---- what it finds

-- a body that was found in a phase is guarded
guards-in : (id : Id) (mode : Mode) (view : View) (found : BodyFound) (phase : BodyPhase) → phase_found found ≡ Some phase → GuardsFound id mode view found → Guards id mode view
guards-in id mode view (FoundGone state) phase same guards = absurd (none-some phase same)
guards-in id mode view FoundLive phase same guards = guards
guards-in id mode view FoundOut phase same guards = guards
guards-in id mode view FoundIn phase same guards = guards
guards-in id mode view (FoundHeld layer slot word) phase same guards = guards
guards-in id mode view (FoundJoined layer slot word) phase same guards = guards

-- a call that has stored no location is one that may have stored some
at-work : (start view : View) (steps : List LockStep) (task : Task) (entries : List Entry) → IsCalling start view steps task entries → IsAtWork start view steps task entries
at-work start view steps task entries calling =
    record { adds = calling.adds; tells = calling.tells; spares = λ none. absurd (false≢true (sym none)); doing = calling.doing; left = calling.left }

-- the body is in the broad phase
pub found-in : (id : Id) (start next : View) (found : BodyFound) → phase_found found ≡ Some In → HasLooked id Write ItsPhase start next found → IsInside id start next
found-in id start next found same looked =
    let told = phase-told id next found In same looked.is in
    record {
      calling = at-work start next _ _ _ looked.stripe.worked;
      phase = record {
        live = (is-guarded id Write start next looked.stripe (guards-in id Write next found In same looked.guards)).2.state;
        body = λ sound. told-body id next told.0 (λ r. r.phase ≡ In) told.1;
      };
    }

-- it is left to let the stripe go, and to answer this
leaving : (id : Id) (start next : View) (look : LookOp) (answer : Result (Unit {0}) RemoveRefused) → IsAtWork start next (stripe_taken start.config id) Nothing [] → IsRemoveAnswer id start next answer
    → AtRemove id start next look (Leaving answer)
leaving id start next look answer calling right = ([], calling, right)

-- since it is gone
pub found-gone : (id : Id) (start next : View) (look : LookOp) (found : BodyFound) (state : ℕ) → found ≡ FoundGone state → HasLooked id Write ItsPhase start next found
    → AtRemove id start next look (Leaving (Err (Gone state)))
found-gone id start next look found state is looked =
    leaving id start next look (Err (Gone state)) (at-work start next _ _ _ looked.stripe.worked)
    (record { adds = looked.stripe.worked.adds; at = gone-point id Write start next looked.stripe state (subst (IsFound id next) is looked.is) })

-- or out
pub found-out : (id : Id) (start next : View) (look : LookOp) (found : BodyFound) → found ≡ FoundOut → HasLooked id Write ItsPhase start next found → AtRemove id start next look (Leaving (Err (NotIn 0)))
found-out id start next look found is looked =
    let out = subst (IsFound id next) is looked.is in
    leaving id start next look (Err (NotIn 0)) (at-work start next _ _ _ looked.stripe.worked)
    (record {
      adds = looked.stripe.worked.adds;
      at =
          looked-point id Write start next looked.stripe (λ c log. IsNotInAt c id 0 log)
          (record { word = out.says; out = refl; cause = told-body id next out.told (λ r. r.phase ≡ Out) out.is });
    })

-- or held
pub found-held : (id : Id) (start next : View) (look : LookOp) (found : BodyFound) (layer slot word : ℕ) → found ≡ FoundHeld layer slot word → HasLooked id Write ItsPhase start next found
    → AtRemove id start next look (Leaving (Err (HeldBody word)))
found-held id start next look found layer slot word is looked =
    let held = subst (IsFound id next) is looked.is in
    leaving id start next look (Err (HeldBody word)) (at-work start next _ _ _ looked.stripe.worked)
    (record {
      adds = looked.stripe.worked.adds;
      at =
          looked-point id Write start next looked.stripe (λ c log. IsHeldAt c id word log)
          (record {
            slot = slot;
            joins = held.0.says;
            word = ap (λ (l : ℕ). known_word next (Slot l slot)) held.1.lies ∙ held.1.has;
            reserved = (held.2, held.3);
            cause = told-body id next held.0.told (λ r. r.phase ≡ Held) held.0.is;
          });
    })
