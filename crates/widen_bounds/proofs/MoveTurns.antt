-- What the turns of a move leave that look at the body, and what each turn leaves of the labels.
use Rattle.std.proofs.Common.{◌≡◌, ◌≢◌, ℕ, ◌<◌, ◌≤◌, [], Option, Some, None, Err, Result, refl, ap, sym, ◌∙◌, subst, arith}
use Rattle.std.proofs.lemmas.Option.{none-some}
use Rattle.fixed_box.specs.declared.fix_box.FixBox.{FixBox}
use Rattle.body_ident.specs.Id.{Id}
use Rattle.scene_model.specs.declared.body_view.Phase.{Phase as BodyPhase}
use Rattle.scene_model.specs.declared.body_view.Phase.TheVariants.{Held}
use Rattle.word_map.specs.declared.name.Name.TheVariants.{Slot}
use Rattle.core_state.specs.declared.view.Mode.{Mode}
use Rattle.core_state.specs.declared.view.Mode.TheVariants.{Write}
use Rattle.core_state.specs.declared.view.View.{View}
use Rattle.core_state.specs.View.{known_word}
use Rattle.pass_table.specs.declared.turn.Turn.{Turn}
use Rattle.pass_table.specs.declared.turn.Turn.TheVariants.{Done, More, Again}
use Rattle.pass_table.specs.Labels.{IsRefusal, EndsAfter, SaysNew}
use Rattle.pass_table.specs.Turning.{AtMostOneStep, MadeBy, Turned, Labelled, HasReached, LoadsNow}
use Rattle.pass_table.specs.Holding.{IsAtRest}
use Rattle.pass_table.proofs.LockedBodies.{told-body}
use Rattle.pass_table.proofs.Stages.{Staged, went-on, inner-more, inner-again}
use Rattle.pass_table.proofs.WorkLater.{worked-pass}
use Rattle.body_look.specs.declared.body_found.BodyFound.{BodyFound}
use Rattle.body_look.specs.declared.body_found.BodyFound.TheVariants.{Gone as FoundGone, Live as FoundLive, Out as FoundOut, In as FoundIn, Held as FoundHeld, Joined as FoundJoined}
use Rattle.body_look.specs.declared.look_op.LookDepth.TheVariants.{Phase as ItsPhase}
use Rattle.body_look.specs.declared.look_op.LookOp.{LookOp}
use Rattle.body_look.specs.Found.{phase_found, IsFound, IsHeldAt}
use Rattle.body_look.specs.stages.Looking.{looking_of, IsLooking, HasLooked, Guards, GuardsFound, look_left, look_takes}
use Rattle.body_look.proofs.Answering.{phase-told, looked-point, gone-point}
use Rattle.widen_bounds.specs.declared.answers.MoveRefused.{MoveRefused}
use Rattle.widen_bounds.specs.declared.answers.MoveRefused.TheVariants.{Gone, Held as HeldBody}
use Rattle.widen_bounds.specs.declared.move_op.MoveStage.{MoveStage}
use Rattle.widen_bounds.specs.declared.move_op.MoveStage.TheVariants.{Looking, Leaving}
use Rattle.widen_bounds.specs.declared.move_op.MoveOp.{MoveOp}
use Rattle.widen_bounds.specs.declared.widening.Widening.{Widening}
use Rattle.widen_bounds.specs.declared.widening.Widening.TheVariants.{Ended}
use Rattle.widen_bounds.specs.stages.Moving.{stripe_taken, IsUnheld, AtMove, IsMoving, HasMovedOr, stage_label, label_of, label_says, stage_left, takes_at, IsPlainTurn, IsMoveTurn}

-- ---- begun

module _ (id : Id) (to : FixBox) (view next : View) (look : LookOp) where
  abbrev BegunFor : MoveOp
  BegunFor = record { id = id; to = to; look = look; widening = Ended; stage = Looking; made = None }

  pub moving-begun : id.index < view.config.bodies → IsAtRest view → look ≡ looking_of view.config id Write ItsPhase → IsLooking look view look next → IsMoving BegunFor view BegunFor next
  moving-begun below rest is looking = record {
    id = refl;
    to = refl;
    begun = record { below = below; rest = rest };
    at = subst (λ (first : LookOp). IsLooking first view look next) is looking;
  }

-- ---- labels

-- where no label is reached, none is new
labelled-same : {T : Type 0} (turn : Turn T) (before after : Option ℕ) → after ≡ before → Labelled turn before after
labelled-same (Done answer) before after same = same
labelled-same More before after same = λ label reached. subst (λ (o : Option ℕ). HasReached o label) (sym same) reached
labelled-same (Again lock word) before after same = same

pub says-same : (before after : Option ℕ) → after ≡ before → (says : ℕ → Type 0) → SaysNew before after says
says-same before None same says = tt
says-same before (Some last) same says = λ label fresh below. absurd (fresh (subst (λ (o : Option ℕ). HasReached o label) same below))

pub unlabelled : (turn : Turn (Result (Unit {0}) MoveRefused)) (before after : MoveOp) (view next : View) → IsPlainTurn turn before after view next → label_of after ≡ label_of before
    → EndsAfter turn IsRefusal (Some 1) (label_of before) → IsMoveTurn turn before after view next
unlabelled turn before after view next plain same ends = record {
  plain = plain;
  labelled = labelled-same turn (label_of before) (label_of after) same;
  ends = ends;
  says = λ first start way. says-same (label_of before) (label_of after) same (label_says first start next);
}

more-ends : (turn : Turn (Result (Unit {0}) MoveRefused)) (label : Option ℕ) → turn ≡ More → EndsAfter turn IsRefusal (Some 1) label
more-ends turn label more = subst (λ (t : Turn (Result (Unit {0}) MoveRefused)). EndsAfter t IsRefusal (Some 1) label) (sym more) tt

more-labelled : (turn : Turn (Result (Unit {0}) MoveRefused)) (before after : Option ℕ) → turn ≡ More → ((label : ℕ) → HasReached before label → HasReached after label) → Labelled turn before after
more-labelled turn before after more stays = subst (λ (t : Turn (Result (Unit {0}) MoveRefused)). Labelled t before after) (sym more) stays

-- ---- stages

-- a move goes from stage to stage, with the look and the widening as they are there
abbrev pub move_stages : Staged (Result (Unit {0}) MoveRefused) MoveOp (LookOp × Widening × MoveStage)
move_stages = record {
  under_way = IsMoving;
  answers = HasMovedOr;
  made = λ operation. operation.made;
  stage = λ operation. (operation.look, operation.widening, operation.stage);
  left = λ at. stage_left at.0 at.1 at.2;
  takes = λ at. takes_at at.0 at.2;
  at = λ first start view at. AtMove first.id first.to start view at.0 at.1 at.2;
  to = λ operation after. record operation { look = after.0; widening = after.1; stage = after.2; made = None };
  reached = λ operation after. refl;
  unmade = λ operation after. refl;
  holds = λ first start operation view moving. moving.at;
  goes = λ first start operation after view next moving at. record { id = moving.id; to = moving.to; begun = moving.begun; at = at };
}

-- one that has looked goes on, and the look stays as it is
pub move-on : (turn : Turn (Result (Unit {0}) MoveRefused)) (before new : MoveOp) (widening : Widening) (stage after : MoveStage) (view next : View) → turn ≡ More
    → new ≡ record before { widening = widening; stage = after; made = None } → before.stage ≡ stage → AtMostOneStep view next → MadeBy view next None
    → stage_left before.look widening after < stage_left before.look before.widening stage → LoadsNow view next (takes_at before.look after)
    → ((label : ℕ) → HasReached (stage_label before.widening stage) label → HasReached (stage_label widening after) label)
    → ((first : MoveOp) (start : View) → IsMoving first start before view → AtMove first.id first.to start view before.look before.widening stage
    → SaysNew (stage_label before.widening stage) (stage_label widening after) (label_says first start next))
    → ((first : MoveOp) (start : View) → IsMoving first start before view → AtMove first.id first.to start view before.look before.widening stage → AtMove first.id first.to start next before.look widening after)
    → IsMoveTurn turn before new view next
move-on turn before new widening stage after view next more is at step made less loads label says keeps =
    let was : label_of before ≡ stage_label before.widening stage = ap (stage_label before.widening) at in
    let now : label_of new ≡ stage_label widening after = ap label_of is in
    record {
      plain = went-on move_stages turn before new (before.look, before.widening, stage) (before.look, widening, after) view next more is (λ i. (before.look, before.widening, at i)) step made less loads keeps;
      labelled = more-labelled turn (label_of before) (label_of new) more (λ l reached. subst (λ (o : Option ℕ). HasReached o l) (sym now) (label l (subst (λ (o : Option ℕ). HasReached o l) was reached)));
      ends = more-ends turn (label_of before) more;
      says = λ first start moving.
          subst (λ (o : Option ℕ). SaysNew o (label_of new) (label_says first start next)) (sym was)
          (subst (λ (o : Option ℕ). SaysNew (stage_label before.widening stage) o (label_says first start next)) (sym now)
          (says first start moving (subst (AtMove first.id first.to start view before.look before.widening) at moving.at)));
    }

-- ---- the look

-- a turn of the look, after which it goes on
module _ (before new : MoveOp) (after : LookOp) (view next : View) (at : before.stage ≡ Looking) (is : new ≡ record before { look = after; made = None })
    (step : AtMostOneStep view next) (made : MadeBy view next None) (loads : LoadsNow view next (look_takes after))
    (keeps : (first : LookOp) (start : View) → IsLooking first start before.look view → IsLooking first start after next) where
  still : new ≡ record before { look = after; widening = before.widening; stage = Looking; made = None }
  still = is ∙ (λ i. record before { look = after; stage = at i; made = None })

  pub look-more : Turned {T = BodyFound} More view next (look_takes before.look) (look_left before.look) (look_left after) → IsMoveTurn More before new view next
  look-more turned =
      unlabelled More before new view next
      (inner-more BodyFound move_stages (λ look. (look, before.widening, Looking)) look_left look_takes 150 (λ look. refl) (λ look. refl) before new before.look after view next still (λ i. (before.look, before.widening, at i)) step made loads
      (λ first start moving now. keeps (looking_of start.config first.id Write ItsPhase) start now) More refl turned) (ap label_of is) tt

  pub look-again : (lock word : ℕ) → Turned {T = BodyFound} (Again lock word) view next (look_takes before.look) (look_left before.look) (look_left after) → IsMoveTurn (Again lock word) before new view next
  look-again lock word turned =
      unlabelled (Again lock word) before new view next
      (inner-again BodyFound move_stages (λ look. (look, before.widening, Looking)) look_left look_takes 150 (λ look. refl) (λ look. refl) before new before.look after view next still (λ i. (before.look, before.widening, at i)) step made loads
      (λ first start moving now. keeps (looking_of start.config first.id Write ItsPhase) start now) lock word turned) (ap label_of is) tt

-- or it is done
pub look-done : (before new : MoveOp) (look : LookOp) (found : BodyFound) (after : MoveStage) (view next : View) (turn : Turn (Result (Unit {0}) MoveRefused)) → turn ≡ More
    → new ≡ record before { look = look; stage = after; made = None } → before.stage ≡ Looking → AtMostOneStep view next → MadeBy view next None
    → ((first : LookOp) (start : View) → IsLooking first start before.look view → HasLooked first.id first.mode first.depth start next found) → 0 < look_left before.look → stage_left look before.widening after ≤ 150
    → LoadsNow view next (takes_at look after) → stage_label before.widening after ≡ None
    → ((id : Id) (to : FixBox) (start : View) → HasLooked id Write ItsPhase start next found → AtMove id to start next look before.widening after) → IsMoveTurn turn before new view next
look-done before new look found after view next turn more is at step made looked some less loads label keeps =
    let fewer : stage_left look before.widening after < stage_left before.look before.widening Looking = omega arith in
    unlabelled turn before new view next
    (went-on move_stages turn before new (before.look, before.widening, Looking) (look, before.widening, after) view next more is (λ i. (before.look, before.widening, at i)) step made fewer loads
    (λ first start moving now. keeps first.id first.to start (looked (looking_of start.config first.id Write ItsPhase) start now)))
    (ap label_of is ∙ (label ∙ ap (stage_label before.widening) (sym at))) (more-ends turn (label_of before) more)

-- ---- what it finds

-- a body that was found in a phase is guarded
guards-in : (id : Id) (mode : Mode) (view : View) (found : BodyFound) (phase : BodyPhase) → phase_found found ≡ Some phase → GuardsFound id mode view found → Guards id mode view
guards-in id mode view (FoundGone state) phase same guards = absurd (none-some phase same)
guards-in id mode view FoundLive phase same guards = guards
guards-in id mode view FoundOut phase same guards = guards
guards-in id mode view FoundIn phase same guards = guards
guards-in id mode view (FoundHeld layer slot word) phase same guards = guards
guards-in id mode view (FoundJoined layer slot word) phase same guards = guards

-- the body is live, and no batch holds it
pub found-free : (id : Id) (start next : View) (found : BodyFound) (phase : BodyPhase) → phase ≢ Held → phase_found found ≡ Some phase → HasLooked id Write ItsPhase start next found
    → IsUnheld id (stripe_taken start.config id) start next
found-free id start next found phase free same looked =
    let told = phase-told id next found phase same looked.is in
    let guarded = guards-in id Write next found phase same looked.guards looked.stripe.worked.adds.number (worked-pass start next _ looked.stripe.worked) in (
      phase,
      record {
        calling = looked.stripe.worked;
        stripe = guarded.stripe;
        below = guarded.below;
        free = free;
        knows = record { live = guarded.state; body = λ sound. told-body id next told.0 (λ r. r.phase ≡ phase) told.1 };
      },
    )

-- since it is gone
pub found-gone : (id : Id) (to : FixBox) (start next : View) (look : LookOp) (widening : Widening) (found : BodyFound) (state : ℕ) → found ≡ FoundGone state → HasLooked id Write ItsPhase start next found
    → AtMove id to start next look widening (Leaving (Err (Gone state)))
found-gone id to start next look widening found state is looked =
    ([], looked.stripe.worked, record { adds = looked.stripe.worked.adds; at = gone-point id Write start next looked.stripe state (subst (IsFound id next) is looked.is) })

-- or held
pub found-held : (id : Id) (to : FixBox) (start next : View) (look : LookOp) (widening : Widening) (found : BodyFound) (layer slot word : ℕ) → found ≡ FoundHeld layer slot word
    → HasLooked id Write ItsPhase start next found → AtMove id to start next look widening (Leaving (Err (HeldBody word)))
found-held id to start next look widening found layer slot word is looked =
    let held = subst (IsFound id next) is looked.is in (
      [],
      looked.stripe.worked,
      record {
        adds = looked.stripe.worked.adds;
        at =
            looked-point id Write start next looked.stripe (λ c log. IsHeldAt c id word log)
            (record {
              slot = slot;
              joins = held.0.says;
              word = ap (λ (l : ℕ). known_word next (Slot l slot)) held.1.lies ∙ held.1.has;
              reserved = (held.2, held.3);
              cause = told-body id next held.0.told (λ r. r.phase ≡ Held) held.0.is;
            });
      },
    )
