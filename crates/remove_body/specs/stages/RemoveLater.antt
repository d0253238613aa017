-- What others' steps between two turns of a removal leave as it was.
use Rattle.std.specs.Prelude.{[]}
use Rattle.std.proofs.Common.{◌≡◌, ◌≢◌, ℕ, List, Ok, Err, Result, refl, ap, sym, subst}
use Rattle.body_ident.specs.Id.{Id}
use Rattle.scene_model.specs.declared.body_view.Phase.TheVariants.{Out, Held, In}
use Rattle.scene_model.specs.declared.entry.Entry.{Entry}
use Rattle.word_map.specs.Names.{stripe_of}
use Rattle.core_state.specs.declared.view.Mode.TheVariants.{Write}
use Rattle.core_state.specs.declared.view.Task.{Task}
use Rattle.core_state.specs.declared.view.Call.{Call}
use Rattle.core_state.specs.declared.view.View.{View}
use Rattle.core_state.specs.Log.{IsPrefix}
use Rattle.core_state.specs.View.{Holds}
use Rattle.pass_table.specs.Knowing.{KnowsMore}
use Rattle.pass_table.specs.Holding.{IsAtRest}
use Rattle.pass_table.specs.Calls.{Adds}
use Rattle.pass_table.specs.Settled.{KnowsFirst}
use Rattle.pass_table.proofs.Calling.{adds-more, point-later, makes-later}
use Rattle.pass_table.proofs.Settled.{phase-more, first-more, second-more}
use Rattle.pass_table.proofs.WorkLater.{worked-role, worked-more, held-by, one-taken}
use Rattle.body_look.specs.declared.look_op.LookOp.{LookOp}
use Rattle.body_look.specs.stages.LookLater.{looking-later}
use Rattle.remove_body.specs.declared.answers.RemoveRefused.{RemoveRefused}
use Rattle.remove_body.specs.declared.answers.RemoveRefused.TheVariants.{Gone, NotIn, Held as HeldBody}
use Rattle.remove_body.specs.declared.remove_op.RemoveStage.{RemoveStage}
use Rattle.remove_body.specs.declared.remove_op.RemoveStage.TheVariants.{Looking, Inside, HalfLocated, Located, TakenOut, HalfCleared, Cleared, Forgotten, Leaving}
use Rattle.remove_body.specs.declared.remove_op.RemoveOp.{RemoveOp}
use Rattle.remove_body.specs.Answers.{HasRemoved, IsRemoveAnswer}
use Rattle.remove_body.specs.stages.Removing.{IsAtWork, stripe_taken, IsInside, IsOutAt, HasClearedAt, AtRemove, IsRemoving}

-- ---- the stripe

pub stripe-held : (id : Id) (start view : View) (task : Task) (entries : List Entry) → IsAtRest start → IsAtWork start view (stripe_taken start.config id) task entries
    → Holds view (stripe_of view.config id.index) Write
stripe-held id start view task entries rest calling = held-by start view _ calling rest (λ c. stripe_of c id.index) Write (one-taken (stripe_of start.config id.index) Write)

-- ---- phases that are not held

pub in-apart : In ≢ Held
in-apart e = absurd cc

pub out-apart : Out ≢ Held
out-apart e = absurd cc

-- ---- answers

pub removed-later : (id : Id) (start view next : View) → IsPrefix view.known next.known → ((entries : List Entry) → Adds start view entries → Adds start next entries) → HasRemoved id start view
    → HasRemoved id start next
removed-later id start view next later adds removed = record { adds = adds _ removed.adds; at = makes-later start view next _ _ later removed.at }

pub answer-later : (id : Id) (start view next : View) (answer : Result (Unit {0}) RemoveRefused) → IsPrefix view.known next.known → ((entries : List Entry) → Adds start view entries → Adds start next entries)
    → IsRemoveAnswer id start view answer → IsRemoveAnswer id start next answer
answer-later id start view next (Ok done) later adds removed = removed-later id start view next later adds removed
answer-later id start view next (Err (Gone state)) later adds was = record { adds = adds _ was.adds; at = point-later start view next _ later was.at }
answer-later id start view next (Err (NotIn phase)) later adds was = record { adds = adds _ was.adds; at = point-later start view next _ later was.at }
answer-later id start view next (Err (HeldBody slot)) later adds was = record { adds = adds _ was.adds; at = point-later start view next _ later was.at }

-- ---- a removal

module _ (id : Id) (start view next : View) (rest : IsAtRest start) (more : KnowsMore view next) where
  pub inside-later : IsInside id start view → IsInside id start next
  inside-later at = record {
    calling = worked-more start view next _ at.calling more;
    phase = phase-more id Write In in-apart view next (stripe-held id start view _ _ rest at.calling) at.phase more;
  }

  pub first-later : (first : ℕ) → IsInside id start view → KnowsFirst id first view → KnowsFirst id first next
  first-later first at is = first-more id Write In in-apart view next (stripe-held id start view _ _ rest at.calling) at.phase more first is

  out-later : (first second : ℕ) → IsOutAt id start view first second → IsOutAt id start next first second
  out-later first second at =
      let held = stripe-held id start view _ _ rest at.calling in
      record {
        calling = worked-more start view next _ at.calling more;
        removed = removed-later id start view next (more.since, more.known) (λ entries adds. adds-more start view next entries (worked-role start view _ at.calling) adds more) at.removed;
        phase = phase-more id Write Out out-apart view next held at.phase more;
        at_first = first-more id Write Out out-apart view next held at.phase more first at.at_first;
        at_second = second-more id Write view next second more held at.at_second;
      }

  cleared-later : (at : ℕ) → HasClearedAt view.call at → HasClearedAt next.call at
  cleared-later at cleared = subst (λ (c : Call). HasClearedAt c at) (sym (ap (λ (v : View). v.call) more.rest)) cleared

  stage-later : (look : LookOp) (stage : RemoveStage) → AtRemove id start view look stage → AtRemove id start next look stage
  stage-later look Looking h = looking-later _ start look view next more h
  stage-later look Inside h = inside-later h
  stage-later look (HalfLocated first) h = (inside-later h.0, first-later first h.0 h.1)
  stage-later look (Located first second) h = (inside-later h.0, first-later first h.0 h.1, second-more id Write view next second more (stripe-held id start view _ _ rest h.0.calling) h.2)
  stage-later look (TakenOut first second) h = out-later first second h
  stage-later look (HalfCleared first second) h = (out-later first second h.0, cleared-later first h.1)
  stage-later look (Cleared first second) h = (out-later first second h.0, cleared-later first h.1, cleared-later second h.2)
  stage-later look (Forgotten second) h = (out-later 0 second h.0, cleared-later second h.1)
  stage-later look (Leaving answer) h = (
    h.0,
    worked-more start view next _ h.1 more,
    answer-later id start view next answer (more.since, more.known) (λ entries adds. adds-more start view next entries (worked-role start view _ h.1) adds more) h.2,
  )

pub removing-later : (first : RemoveOp) (start : View) (operation : RemoveOp) (view next : View) → KnowsMore view next → IsRemoving first start operation view → IsRemoving first start operation next
removing-later first start operation view next more removing = (removing.0, removing.1, stage-later first.id start view next removing.1.rest more operation.look operation.stage removing.2)
