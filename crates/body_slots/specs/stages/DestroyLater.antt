-- What others' steps between two turns of a destruction leave as it was.
use Rattle.std.proofs.Common.{◌≡◌, ℕ, List, [], ◌∷◌, Bool, true, false, Option, Some, None, Ok, Err, Result, eqb, cond, refl, ap, sym, ◌∙◌, subst}
use Rattle.std.proofs.lemmas.Bool.{eq-eqb}
use Rattle.body_ident.specs.Id.{Id}
use Rattle.scene_model.specs.declared.entry.Entry.{Entry}
use Rattle.word_map.specs.declared.config.Config.{Config}
use Rattle.word_map.specs.declared.name.Name.TheVariants.{SlotHead, SlotNext, Phase}
use Rattle.word_map.specs.Names.{index_lock, stripe_of}
use Rattle.core_state.specs.declared.view.Mode.{Mode}
use Rattle.core_state.specs.declared.view.Mode.TheVariants.{Write}
use Rattle.core_state.specs.declared.view.LockStep.{LockStep}
use Rattle.core_state.specs.declared.view.LockStep.TheVariants.{Taken as TakenStep}
use Rattle.core_state.specs.declared.view.Task.{Task}
use Rattle.core_state.specs.declared.view.View.{View}
use Rattle.core_state.specs.Log.{IsPrefix}
use Rattle.core_state.specs.View.{Holds, mode_of}
use Rattle.pass_table.specs.Knowing.{KnowsMore}
use Rattle.pass_table.specs.Holding.{IsAtRest}
use Rattle.pass_table.specs.TakeTurns.{taking-later}
use Rattle.pass_table.specs.Calls.{Adds}
use Rattle.pass_table.proofs.Calling.{adds-more, point-later, makes-later, steady-more}
use Rattle.pass_table.proofs.TakingTurns.{taking-anew}
use Rattle.pass_table.proofs.LockedBodies.{phase-steady, live-more}
use Rattle.pass_table.proofs.WorkLater.{worked-role, worked-more, held-by, one-taken}
use Rattle.pass_table.specs.Work.{IsCalling}
use Rattle.body_look.specs.declared.look_op.LookOp.{LookOp}
use Rattle.body_look.specs.stages.LookLater.{looking-later}
use Rattle.body_slots.specs.declared.answers.DestroyRefused.{DestroyRefused}
use Rattle.body_slots.specs.declared.answers.DestroyRefused.TheVariants.{Gone, InUse}
use Rattle.body_slots.specs.declared.destroy_op.DestroyStage.{DestroyStage}
use Rattle.body_slots.specs.declared.destroy_op.DestroyStage.TheVariants.{Looking, TakingList, Locked, Headed, Linked, InFront, Destroyed, Leaving}
use Rattle.body_slots.specs.declared.destroy_op.DestroyOp.{DestroyOp}
use Rattle.body_slots.specs.stages.Later.{listed-steady}
use Rattle.body_slots.specs.Answers.{HasDestroyed, IsDestroyAnswer}
use Rattle.body_slots.specs.stages.Destroying.{stripe_taken, both_taken, KnowsOut, AtDestroy, DestroysBody}

-- ---- locks

-- of two locks that were taken both are held
pub first-taken : (a b : ℕ) → mode_of (TakenStep a Write ∷ TakenStep b Write ∷ []) a ≡ Some Write
first-taken a b = ap (λ (o : Option Mode). cond (eqb b a) (Some Write) o) (one-taken a Write) ∙ go (eqb b a)
  where
    go : (t : Bool) → cond {A = Option Mode} t (Some Write) (Some Write) ≡ Some Write
    go true = refl
    go false = refl

second-taken : (a b : ℕ) → mode_of (TakenStep a Write ∷ TakenStep b Write ∷ []) b ≡ Some Write
second-taken a b = ap (λ (t : Bool). cond {A = Option Mode} t (Some Write) (mode_of (TakenStep a Write ∷ []) b)) (eq-eqb b b refl)

module _ (id : Id) (start view : View) (task : Task) (entries : List Entry) (rest : IsAtRest start) where
  -- the stripe, and both locks
  pub stripe-held : IsCalling start view (stripe_taken start.config id) task entries → Holds view (stripe_of view.config id.index) Write
  stripe-held calling = held-by start view _ calling rest (λ c. stripe_of c id.index) Write (one-taken (stripe_of start.config id.index) Write)

  pub both-stripe : IsCalling start view (both_taken start.config id) task entries → Holds view (stripe_of view.config id.index) Write
  both-stripe calling = held-by start view _ calling rest (λ c. stripe_of c id.index) Write (first-taken (stripe_of start.config id.index) (index_lock start.config))

  pub both-list : IsCalling start view (both_taken start.config id) task entries → Holds view (index_lock view.config) Write
  both-list calling = held-by start view _ calling rest index_lock Write (second-taken (stripe_of start.config id.index) (index_lock start.config))

-- ---- words

-- what is known of the body stands
pub out-more : (id : Id) (view next : View) → KnowsMore view next → Holds view (stripe_of view.config id.index) Write → KnowsOut id view → KnowsOut id next
out-more id view next more holds out = (live-more id Write view next more holds out.0, steady-more view next (Phase id.index) more (phase-steady id.index Write view holds) ∙ out.1)

-- ---- answers

pub destroyed-later : (id : Id) (start view next : View) → IsPrefix view.known next.known → ((entries : List Entry) → Adds start view entries → Adds start next entries) → HasDestroyed id start view
    → HasDestroyed id start next
destroyed-later id start view next later adds destroyed = record { adds = adds _ destroyed.adds; at = makes-later start view next _ _ later destroyed.at }

pub answer-later : (id : Id) (start view next : View) (answer : Result (Unit {0}) DestroyRefused) → IsPrefix view.known next.known → ((entries : List Entry) → Adds start view entries → Adds start next entries)
    → IsDestroyAnswer id start view answer → IsDestroyAnswer id start next answer
answer-later id start view next (Ok done) later adds destroyed = destroyed-later id start view next later adds destroyed
answer-later id start view next (Err (Gone state)) later adds was = record { adds = adds _ was.adds; at = point-later start view next _ later was.at }
answer-later id start view next (Err (InUse phase)) later adds was = record { adds = adds _ was.adds; at = point-later start view next _ later was.at }

-- ---- a destruction

module _ (id : Id) (start view next : View) (rest : IsAtRest start) (more : KnowsMore view next) where
  stage-later : (look : LookOp) (stage : DestroyStage) → AtDestroy id start view look stage → AtDestroy id start next look stage
  stage-later look Looking h = looking-later _ start look view next more h
  stage-later look (TakingList taking) h = (
    worked-more start view next _ h.0 more,
    out-more id view next more (stripe-held id start view _ _ rest h.0) h.1,
    taking-anew _ view taking next (taking-later _ view taking view next more h.2),
  )
  stage-later look Locked h = (worked-more start view next _ h.0 more, out-more id view next more (both-stripe id start view _ _ rest h.0) h.1)
  stage-later look (Headed head) h = (
    worked-more start view next _ h.0 more,
    out-more id view next more (both-stripe id start view _ _ rest h.0) h.1,
    steady-more view next SlotHead more (listed-steady view SlotHead (both-list id start view _ _ rest h.0) refl) ∙ h.2,
  )
  stage-later look Linked h =
      let held = both-list id start view _ _ rest h.0 in (
        worked-more start view next _ h.0 more,
        out-more id view next more (both-stripe id start view _ _ rest h.0) h.1,
        steady-more view next (SlotNext id.index) more (listed-steady view (SlotNext id.index) held refl)
            ∙ (h.2 ∙ sym (steady-more view next SlotHead more (listed-steady view SlotHead held refl))),
      )
  stage-later look InFront h = (worked-more start view next _ h.0 more, out-more id view next more (both-stripe id start view _ _ rest h.0) h.1)
  stage-later look Destroyed h = (
    worked-more start view next _ h.0 more,
    destroyed-later id start view next (more.since, more.known) (λ entries adds. adds-more start view next entries (worked-role start view _ h.0) adds more) h.1,
  )
  stage-later look (Leaving answer) h = (
    h.0,
    h.1,
    worked-more start view next _ h.2 more,
    h.3,
    answer-later id start view next answer (more.since, more.known) (λ entries adds. adds-more start view next entries (worked-role start view _ h.2) adds more) h.4,
  )

pub destroying-later : (first : DestroyOp) (start : View) (operation : DestroyOp) (view next : View) → KnowsMore view next → DestroysBody first start operation view → DestroysBody first start operation next
destroying-later first start operation view next more making = (making.0, making.1, stage-later first.id start view next making.1.rest more operation.look operation.stage making.2)
