-- What the turns of a destruction leave that look at the body, and those that take the lock of the list.
use Rattle.std.proofs.Common.{◌≡◌, ◌⊎◌, ℕ, ◌<◌, List, [], Bool, true, false, Option, Some, None, Err, Result, eqb, cond, refl, ap, sym, ◌∙◌, subst, arith}
use Rattle.body_ident.specs.Id.{Id}
use Rattle.scene_model.specs.declared.body_view.Phase.{Phase as BodyPhase}
use Rattle.scene_model.specs.declared.body_view.Phase.TheVariants.{Held, In}
use Rattle.scene_model.specs.declared.entry.Entry.{Entry}
use Rattle.word_map.specs.declared.config.Config.{Config}
use Rattle.word_map.specs.declared.name.Name.TheVariants.{State, Phase}
use Rattle.word_map.specs.Names.{lock_count, index_lock, stripe_of}
use Rattle.core_state.specs.declared.view.Mode.{Mode}
use Rattle.core_state.specs.declared.view.Mode.TheVariants.{Write}
use Rattle.core_state.specs.declared.view.Task.{Task}
use Rattle.core_state.specs.declared.view.Task.TheVariants.{Nothing}
use Rattle.core_state.specs.declared.view.View.{View}
use Rattle.core_state.specs.View.{Holds, HoldsNot}
use Rattle.core_state.specs.Lists.{HasList, IsLiveAndOut}
use Rattle.core_state.specs.Quietly.{KnowsQuietly}
use Rattle.core_state.proofs.Quiet.{quiet-word}
use Rattle.pass_table.specs.declared.take_op.TakeOp.{TakeOp}
use Rattle.pass_table.specs.declared.turn.Turn.{Turn}
use Rattle.pass_table.specs.declared.turn.Turn.TheVariants.{More, Again}
use Rattle.pass_table.specs.TakeTurns.{taking_of, IsTaking, HasTaken}
use Rattle.pass_table.specs.Turning.{AtMostOneStep, MadeBy, Turned, LoadsNow}
use Rattle.pass_table.specs.Holding.{IsAtRest}
use Rattle.pass_table.proofs.TakingTurns.{taking-anew}
use Rattle.pass_table.proofs.LockedBodies.{live-steady, phase-steady, told-body}
use Rattle.pass_table.proofs.WorkLater.{worked-sizes, one-taken}
use Rattle.pass_table.proofs.Working.{worked-taken, worked-waited}
use Rattle.pass_table.proofs.Stages.{Staged, went-on, inner-more, inner-again}
use Rattle.pass_table.specs.Work.{IsCalling}
use Rattle.body_look.specs.declared.body_found.BodyFound.{BodyFound}
use Rattle.body_look.specs.declared.body_found.BodyFound.TheVariants.{Gone as FoundGone, Out as FoundOut}
use Rattle.body_look.specs.declared.look_op.LookDepth.TheVariants.{Phase as ItsPhase}
use Rattle.body_look.specs.declared.look_op.LookOp.{LookOp}
use Rattle.body_look.specs.Found.{phase_found, IsFound}
use Rattle.body_look.specs.stages.Looking.{looking_of, HasStripe, IsLooking, HasLooked, look_left, look_takes}
use Rattle.body_look.specs.stages.LookLater.{is-guarded}
use Rattle.body_look.proofs.Answering.{phase-told, stripe-sizes, looked-point, gone-point, no-other}
use Rattle.body_slots.specs.declared.answers.DestroyRefused.{DestroyRefused}
use Rattle.body_slots.specs.declared.answers.DestroyRefused.TheVariants.{Gone, InUse}
use Rattle.body_slots.specs.declared.destroy_op.DestroyStage.{DestroyStage}
use Rattle.body_slots.specs.declared.destroy_op.DestroyStage.TheVariants.{Looking, TakingList, Locked, Leaving}
use Rattle.body_slots.specs.declared.destroy_op.DestroyOp.{DestroyOp}
use Rattle.body_slots.specs.Answers.{IsDestroyAnswer, IsInUseAt}
use Rattle.body_slots.specs.stages.Destroying.{stripe_taken, both_taken, KnowsOut, HasStripeAlone, AtDestroy, PastLook, IsBegunFor, DestroysBody, DestroyAnswers, stage_left, takes_at, IsDestroyTurn, IsFoundOut}
use Rattle.body_slots.specs.stages.DestroyLater.{stripe-held, both-stripe, both-list}

-- ---- stages

-- a destruction goes from stage to stage, with the look as it is there
abbrev pub destroy_stages : Staged (Result (Unit {0}) DestroyRefused) DestroyOp (LookOp × DestroyStage)
destroy_stages = record {
  under_way = DestroysBody;
  answers = DestroyAnswers;
  made = λ operation. operation.made;
  stage = λ operation. (operation.look, operation.stage);
  left = λ at. stage_left at.0 at.1;
  takes = λ at. takes_at at.0 at.1;
  at = λ first start view at. AtDestroy first.id start view at.0 at.1;
  to = λ operation after. record operation { look = after.0; stage = after.1; made = None };
  reached = λ operation after. refl;
  unmade = λ operation after. refl;
  holds = λ first start operation view making. making.2;
  goes = λ first start operation after view next making at. (making.0, making.1, at);
}

-- one that has looked goes on, and the look stays as it is
pub destroy-on : (turn : Turn (Result (Unit {0}) DestroyRefused)) (before new : DestroyOp) (stage after : DestroyStage) (view next : View) → turn ≡ More → new ≡ record before { stage = after; made = None }
    → before.stage ≡ stage → AtMostOneStep view next → MadeBy view next None → stage_left before.look after < stage_left before.look stage → LoadsNow view next (takes_at before.look after)
    → ((first : DestroyOp) (start : View) → DestroysBody first start before view → AtDestroy first.id start view before.look stage → AtDestroy first.id start next before.look after)
    → IsDestroyTurn turn before new view next
destroy-on turn before new stage after view next more is at step made less loads keeps =
    went-on destroy_stages turn before new (before.look, stage) (before.look, after) view next more is (λ i. (before.look, at i)) step made less loads keeps

-- ---- what the steps on the list ask

-- its lock is one of the world's
pub list-named : (lock : ℕ) (c : Config) → lock ≡ index_lock c → lock < lock_count c
list-named lock c is = omega arith

-- and is free as long as only the stripe is held
pub list-free : (id : Id) (start view : View) → IsBegunFor id start → HasStripe id Write start view → HoldsNot view (index_lock start.config)
list-free id start view begun stripe =
    no-other id Write start view stripe begun.rest (index_lock start.config)
    (λ same. let below = begun.striped in let is = same ∙ ap (λ (c : Config). stripe_of c id.index) (stripe-sizes id Write start view stripe) in omega arith)

-- once it is taken, the list may be changed
pub has-list : (id : Id) (start view : View) → IsAtRest start → IsCalling start view (both_taken start.config id) Nothing [] → HasList view
has-list id start view rest calling = record { lock = both-list id start view Nothing [] rest calling; idle = calling.doing }

-- for a body that is live and out
pub has-out : (id : Id) (start view : View) (task : Task) (entries : List Entry) → IsBegunFor id start → IsCalling start view (both_taken start.config id) task entries → KnowsOut id view → IsLiveAndOut view id.index
has-out id start view task entries begun calling out = record {
  below = subst (λ (c : Config). id.index < c.bodies) (sym (worked-sizes start view _ calling)) begun.below;
  stripe = both-stripe id start view task entries begun.rest calling;
  live = let live = out.0 in omega arith;
  out = out.1;
}

-- ---- taking the lock of the list

-- what is known of the body stands
out-quiet : (id : Id) (view next : View) → KnowsQuietly view next → next.config ≡ view.config → Holds view (stripe_of view.config id.index) Write → KnowsOut id view → KnowsOut id next
out-quiet id view next quiet sizes holds out = (
  quiet-word view next (State id.index) quiet sizes (live-steady id Write view (State id.index) holds out.0 refl) ∙ out.0,
  quiet-word view next (Phase id.index) quiet sizes (phase-steady id.index Write view holds) ∙ out.1,
)

pub list-done : (id : Id) (start view next : View) → IsAtRest start → HasTaken (taking_of (index_lock start.config) Write) view next → MadeBy view next None → IsFoundOut id start view → PastLook id start next Locked
list-done id start view next rest taken by found = (
  worked-taken start view next _ found.0 (index_lock start.config) Write taken by,
  out-quiet id view next taken.quiet (ap (λ (v : View). v.config) taken.left.rest) (stripe-held id start view _ _ rest found.0) found.1,
)

pub list-on : (id : Id) (start view next : View) (taking after : TakeOp) → IsAtRest start → IsTaking (taking_of (index_lock start.config) Write) view after next → MadeBy view next None
    → PastLook id start view (TakingList taking) → PastLook id start next (TakingList after)
list-on id start view next taking after rest goes by at = (
  worked-waited start view next _ at.0 (index_lock start.config) goes.waited by goes.alone,
  out-quiet id view next goes.quiet (ap (λ (v : View). v.config) goes.waited.rest) (stripe-held id start view _ _ rest at.0) at.1,
  taking-anew _ view after next goes,
)

-- ---- refusals

-- the stripe alone is held
stripe-alone : (c : Config) (id : Id) → HasStripeAlone c id (stripe_taken c id)
stripe-alone c id = record { held = one-taken (stripe_of c id.index) Write; alone = λ lock. go (eqb (stripe_of c id.index) lock) }
  where
    go : (t : Bool) → cond {A = Option Mode} t None (cond t (Some Write) None) ≡ None
    go true = refl
    go false = refl

-- so it is left to let the stripe go, and to answer this
leaving : (id : Id) (start next : View) (answer : Result (Unit {0}) DestroyRefused) → IsCalling start next (stripe_taken start.config id) Nothing [] → IsDestroyAnswer id start next answer → PastLook id start next (Leaving answer)
leaving id start next answer calling right = (stripe_taken start.config id, [], calling, stripe-alone start.config id, right)

-- ---- the look

-- a turn of the look, after which it goes on
module _ (before new : DestroyOp) (after : LookOp) (view next : View) (at : before.stage ≡ Looking) (is : new ≡ record before { look = after; made = None })
    (step : AtMostOneStep view next) (made : MadeBy view next None) (loads : LoadsNow view next (look_takes after))
    (keeps : (first : LookOp) (start : View) → IsLooking first start before.look view → IsLooking first start after next) where
  still : new ≡ record before { look = after; stage = Looking; made = None }
  still = is ∙ (λ i. record before { look = after; stage = at i; made = None })

  pub look-more : Turned {T = BodyFound} More view next (look_takes before.look) (look_left before.look) (look_left after) → IsDestroyTurn More before new view next
  look-more turned =
      inner-more BodyFound destroy_stages (λ look. (look, Looking)) look_left look_takes 10 (λ look. refl) (λ look. refl) before new before.look after view next still (λ i. (before.look, at i)) step made loads
      (λ first start making now. keeps (looking_of start.config first.id Write ItsPhase) start now) More refl turned

  pub look-again : (lock word : ℕ) → Turned {T = BodyFound} (Again lock word) view next (look_takes before.look) (look_left before.look) (look_left after) → IsDestroyTurn (Again lock word) before new view next
  look-again lock word turned =
      inner-again BodyFound destroy_stages (λ look. (look, Looking)) look_left look_takes 10 (λ look. refl) (λ look. refl) before new before.look after view next still (λ i. (before.look, at i)) step made loads
      (λ first start making now. keeps (looking_of start.config first.id Write ItsPhase) start now) lock word turned

-- or it is done
pub look-done : (before new : DestroyOp) (look : LookOp) (found : BodyFound) (after : DestroyStage) (view next : View) (turn : Turn (Result (Unit {0}) DestroyRefused)) → turn ≡ More
    → new ≡ record before { look = look; stage = after; made = None } → before.stage ≡ Looking → AtMostOneStep view next → MadeBy view next None
    → ((first : LookOp) (start : View) → IsLooking first start before.look view → HasLooked first.id first.mode first.depth start next found) → stage_left look after < 10 → LoadsNow view next (takes_at look after)
    → ((id : Id) (start : View) → HasLooked id Write ItsPhase start next found → AtDestroy id start next look after) → IsDestroyTurn turn before new view next
look-done before new look found after view next turn more is at step made looked less loads keeps =
    let fewer : stage_left look after < stage_left before.look Looking = omega arith in
    went-on destroy_stages turn before new (before.look, Looking) (look, after) view next more is (λ i. (before.look, at i)) step made fewer loads
    (λ first start making now. keeps first.id start (looked (looking_of start.config first.id Write ItsPhase) start now))

-- ---- what it finds

-- the body is out
pub found-out : (id : Id) (start next : View) (found : BodyFound) → found ≡ FoundOut → HasLooked id Write ItsPhase start next found → KnowsOut id next
found-out id start next found is looked =
    let out = subst (HasLooked id Write ItsPhase start next) is looked in ((is-guarded id Write start next out.stripe out.guards).2.state, out.is.says)

-- or it is gone
pub found-gone : (id : Id) (start next : View) (found : BodyFound) (state : ℕ) → found ≡ FoundGone state → HasLooked id Write ItsPhase start next found → PastLook id start next (Leaving (Err (Gone state)))
found-gone id start next found state is looked =
    leaving id start next (Err (Gone state)) looked.stripe.worked
    (record { adds = looked.stripe.worked.adds; at = gone-point id Write start next looked.stripe state (subst (IsFound id next) is looked.is) })

-- or it is held or in the broad phase
pub found-used : (id : Id) (start next : View) (found : BodyFound) (phase : BodyPhase) → phase_found found ≡ Some phase → (phase ≡ Held) ⊎ (phase ≡ In) → HasLooked id Write ItsPhase start next found
    → PastLook id start next (Leaving (Err (InUse phase)))
found-used id start next found phase same used looked =
    let told = phase-told id next found phase same looked.is in
    leaving id start next (Err (InUse phase)) looked.stripe.worked
    (record {
      adds = looked.stripe.worked.adds;
      at =
          looked-point id Write start next looked.stripe (λ c log. IsInUseAt c id phase log)
          (record {
            cause = told-body id next told.0 (λ r. (r.phase ≡ Held) ⊎ (r.phase ≡ In)) (subst (λ (p : BodyPhase). (p ≡ Held) ⊎ (p ≡ In)) (sym told.1) used);
            is = told-body id next told.0 (λ r. r.phase ≡ phase) told.1;
          });
    })
