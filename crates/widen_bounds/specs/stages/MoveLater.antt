-- What others' steps between two turns of a move leave as it was.
use Rattle.std.specs.Prelude.{[]}
use Rattle.std.proofs.Common.{◌≡◌, ◌≢◌, ℕ, ◌<◌, List, Ok, Err, Result, inl, inr, refl, ap, sym, ◌∙◌, subst}
use Rattle.fixed_box.specs.FixBox.{words_of}
use Rattle.fixed_box.specs.declared.fix_box.FixBox.{FixBox}
use Rattle.body_ident.specs.Id.{Id}
use Rattle.scene_model.specs.declared.body_view.Phase.TheVariants.{Out, Held, In}
use Rattle.scene_model.specs.declared.entry.Entry.{Entry}
use Rattle.word_map.specs.declared.config.Config.{Config}
use Rattle.word_map.specs.declared.name.Name.TheVariants.{BoxWord}
use Rattle.word_map.specs.Names.{stripe_of}
use Rattle.core_state.specs.declared.view.Mode.TheVariants.{Write}
use Rattle.core_state.specs.declared.view.LockStep.{LockStep}
use Rattle.core_state.specs.declared.view.Task.{Task}
use Rattle.core_state.specs.declared.view.Call.{Call}
use Rattle.core_state.specs.declared.view.View.{View}
use Rattle.core_state.specs.Log.{IsPrefix}
use Rattle.core_state.specs.View.{Holds, mode_of}
use Rattle.pass_table.specs.Knowing.{KnowsMore}
use Rattle.pass_table.specs.Calls.{Adds}
use Rattle.pass_table.specs.Bodies.{KnowsLive}
use Rattle.pass_table.specs.Work.{IsCalling}
use Rattle.pass_table.proofs.Calling.{adds-more, point-later, makes-later, steady-more}
use Rattle.pass_table.proofs.LockedBodies.{live-steady}
use Rattle.pass_table.proofs.Settled.{phase-more, first-more, second-more}
use Rattle.pass_table.proofs.WorkLater.{worked-role, worked-more}
use Rattle.body_look.specs.declared.look_op.LookOp.{LookOp}
use Rattle.body_look.specs.stages.LookLater.{looking-later}
use Rattle.widen_bounds.specs.declared.answers.MoveRefused.{MoveRefused}
use Rattle.widen_bounds.specs.declared.answers.MoveRefused.TheVariants.{Gone, Held as HeldBody}
use Rattle.widen_bounds.specs.declared.move_op.MoveStage.{MoveStage}
use Rattle.widen_bounds.specs.declared.move_op.MoveStage.TheVariants.{Looking, Found, HalfLocated, Widening as IsWideningStage, Storing, Leaving}
use Rattle.widen_bounds.specs.declared.move_op.MoveOp.{MoveOp}
use Rattle.widen_bounds.specs.declared.widening.Widening.{Widening}
use Rattle.widen_bounds.specs.Answers.{HasMoved, IsMoveAnswer}
use Rattle.widen_bounds.specs.stages.WidenLater.{widening-later}
use Rattle.widen_bounds.specs.stages.Storing.{HasClimbedFrom, GetsBox, where_widened, as_it_is_out, IsBoxing}
use Rattle.widen_bounds.specs.stages.Moving.{IsUnheld, IsHalfLocated, IsStoring, AtMove, IsMoving}

-- ---- phases that are not held

pub in-apart : In ≢ Held
in-apart e = absurd cc

pub out-apart : Out ≢ Held
out-apart e = absurd cc

-- ---- answers

pub moved-later : (id : Id) (to : FixBox) (start view next : View) → IsPrefix view.known next.known → ((entries : List Entry) → Adds start view entries → Adds start next entries) → HasMoved id to start view
    → HasMoved id to start next
moved-later id to start view next later adds moved = record { adds = adds _ moved.adds; at = makes-later start view next _ _ later moved.at }

pub answer-later : (id : Id) (to : FixBox) (start view next : View) (answer : Result (Unit {0}) MoveRefused) → IsPrefix view.known next.known → ((entries : List Entry) → Adds start view entries → Adds start next entries)
    → IsMoveAnswer id to start view answer → IsMoveAnswer id to start next answer
answer-later id to start view next (Ok done) later adds moved = moved-later id to start view next later adds moved
answer-later id to start view next (Err (Gone state)) later adds was = record { adds = adds _ was.adds; at = point-later start view next _ later was.at }
answer-later id to start view next (Err (HeldBody slot)) later adds was = record { adds = adds _ was.adds; at = point-later start view next _ later was.at }

-- ---- under the stripe

module _ (id : Id) (view next : View) (more : KnowsMore view next) where
  more_call : next.call ≡ view.call
  more_call = ap (λ (v : View). v.call) more.rest

  pub stripe-more : Holds view (stripe_of view.config id.index) Write → Holds next (stripe_of next.config id.index) Write
  stripe-more stripe = ap (λ (v : View). mode_of v.locks (stripe_of v.config id.index)) more.rest ∙ stripe

  below-more : id.index < view.config.bodies → id.index < next.config.bodies
  below-more below = subst (λ (c : Config). id.index < c.bodies) (sym (ap (λ (v : View). v.config) more.rest)) below

  -- a body that no batch holds
  pub unheld-more : (steps : List LockStep) (start : View) → IsUnheld id steps start view → IsUnheld id steps start next
  unheld-more steps start (phase, at) = (
    phase,
    record {
      calling = worked-more start view next _ at.calling more;
      stripe = stripe-more at.stripe;
      below = below-more at.below;
      free = at.free;
      knows = phase-more id Write phase at.free view next at.stripe at.knows more;
    },
  )

  pub half-more : (steps : List LockStep) (start : View) (first : ℕ) → IsHalfLocated id steps start view first → IsHalfLocated id steps start next first
  half-more steps start first (at, is) = (unheld-more steps start at, first-more id Write at.0 at.1.free view next at.1.stripe at.1.knows more first is)

  -- a box that is stored
  climbed-more : (words : List ℕ) (at : ℕ) → HasClimbedFrom view.call words at → HasClimbedFrom next.call words at
  climbed-more words at climbed = subst (λ (c : Call). HasClimbedFrom c words at) (sym more_call) climbed

  gets-more : (to : FixBox) → Holds view (stripe_of view.config id.index) Write → GetsBox id to view → GetsBox id to next
  gets-more to stripe (where_widened first second phase task at_first at_second one two) =
      where_widened first second (phase-more id Write In in-apart view next stripe phase more) (ap (λ (c : Call). c.task) more_call ∙ task) (first-more id Write In in-apart view next stripe phase more first at_first)
      (second-more id Write view next second more stripe at_second) (climbed-more (words_of to) first one) (climbed-more (words_of to) second two)
  gets-more to stripe (as_it_is_out phase task) =
      as_it_is_out (phase-more id Write Out out-apart view next stripe phase more) (elim (task) [ inl none ↦ inl (ap (λ (c : Call). c.task) more_call ∙ none) | inr moving ↦ inr (ap (λ (c : Call). c.task) more_call ∙ moving) ])

  gets-live : (to : FixBox) → GetsBox id to view → KnowsLive id view
  gets-live to (where_widened first second phase task at_first at_second one two) = phase.live
  gets-live to (as_it_is_out phase task) = phase.live

  pub boxing-more : (to : FixBox) (side : ℕ) → IsBoxing id to side view → IsBoxing id to side next
  boxing-more to side at = record {
    stripe = stripe-more at.stripe;
    below = below-more at.below;
    gets = gets-more to at.stripe at.gets;
    stored = λ q less. steady-more view next (BoxWord id.index q) more (live-steady id Write view (BoxWord id.index q) at.stripe (gets-live to at.gets) refl) ∙ at.stored q less;
  }

  pub storing-more : (to : FixBox) (steps : List LockStep) (start : View) (side : ℕ) → IsStoring id to steps start view side → IsStoring id to steps start next side
  storing-more to steps start side at = record {
    calling = subst (λ (t : Task). IsCalling start next steps t []) (sym (ap (λ (c : Call). c.task) more_call)) (worked-more start view next _ at.calling more);
    boxing = boxing-more to side at.boxing;
    few = at.few;
  }

-- ---- a move

module _ (id : Id) (to : FixBox) (start view next : View) (more : KnowsMore view next) where
  stage-later : (look : LookOp) (widening : Widening) (stage : MoveStage) → AtMove id to start view look widening stage → AtMove id to start next look widening stage
  stage-later look widening Looking h = looking-later _ start look view next more h
  stage-later look widening Found h = unheld-more id view next more _ start h
  stage-later look widening (HalfLocated first) h = half-more id view next more _ start first h
  stage-later look widening IsWideningStage h = (widening-later id to _ start view next widening more h.0, h.1)
  stage-later look widening (Storing side) h = storing-more id view next more to _ start side h
  stage-later look widening (Leaving answer) h = (
    h.0,
    worked-more start view next _ h.1 more,
    answer-later id to start view next answer (more.since, more.known) (λ entries adds. adds-more start view next entries (worked-role start view _ h.1) adds more) h.2,
  )

pub moving-later : (first : MoveOp) (start : View) (operation : MoveOp) (view next : View) → KnowsMore view next → IsMoving first start operation view → IsMoving first start operation next
moving-later first start operation view next more moving = record {
  id = moving.id;
  to = moving.to;
  begun = moving.begun;
  at = stage-later first.id first.to start view next more operation.look operation.widening operation.stage moving.at;
}
