-- What others' steps between two turns of marking bodies leave as it was.
use Rattle.std.proofs.Common.{◌≡◌, ℕ, ◌<◌, List, [], ◌∷◌, ◌++◌, Bool, Option, Some, None, cond, get_or, take, refl, ap, sym, ◌∙◌, subst}
use Rattle.std.proofs.lemmas.Bool.{eq-eqb}
use Rattle.std.proofs.lemmas.List.Elements.{All-get_or}
use Rattle.std.proofs.lemmas.List.Sums.{fold-append}
use Rattle.fixed_box.specs.FixBox.{words_of}
use Rattle.body_ident.specs.Id.{Id}
use Rattle.word_map.specs.declared.config.Config.{Config}
use Rattle.word_map.specs.declared.name.Name.TheVariants.{BoxWord}
use Rattle.word_map.specs.Names.{stripe_of}
use Rattle.core_state.specs.declared.view.Mode.{Mode}
use Rattle.core_state.specs.declared.view.Mode.TheVariants.{Write}
use Rattle.core_state.specs.declared.view.LockStep.{LockStep}
use Rattle.core_state.specs.declared.view.LockStep.TheVariants.{Taken as TakenStep}
use Rattle.core_state.specs.declared.view.Batch.{Batch}
use Rattle.core_state.specs.declared.view.View.{View}
use Rattle.core_state.specs.Log.{IsPrefix}
use Rattle.core_state.specs.View.{Holds, mode_of, mode_after}
use Rattle.pass_table.specs.Knowing.{KnowsMore}
use Rattle.pass_table.specs.Holding.{IsAtRest}
use Rattle.pass_table.specs.Bodies.{KnowsLive, IsGuarded}
use Rattle.pass_table.proofs.Calling.{point-later}
use Rattle.pass_table.proofs.LockedBodies.{guarded-more, word-stays, layer-stays, phase-stays}
use Rattle.body_look.specs.declared.look_op.LookOp.{LookOp}
use Rattle.body_look.specs.stages.LookLater.{looking-later}
use Rattle.batch_add.specs.declared.mark_op.MarkStage.{MarkStage}
use Rattle.batch_add.specs.declared.mark_op.MarkStage.TheVariants.{Looking, Outside, Sides, Boxed, Leaving, Refusing}
use Rattle.batch_add.specs.declared.mark_op.Marking.{Marking}
use Rattle.batch_add.specs.Parts.{IsFreeAt, WereFree}
use Rattle.batch_add.specs.stages.Marking.{Marks, current, marks_of, IsBegunFor, HasStripe, IsAtBody, KnowsOut, KnowsHere, KnowsSides, AtMark, IsMarking}
use Rattle.pass_table.proofs.WorkLater.{worked-sizes, worked-pass, worked-mode, worked-more}

-- ---- locks

-- how a lock is held after one step more
pub mode-last : (steps : List LockStep) (step : LockStep) (lock : ℕ) → mode_of (steps ++ step ∷ []) lock ≡ mode_after lock (mode_of steps lock) step
mode-last steps step lock = fold-append (mode_after lock) None steps (step ∷ [])

-- the lock that was taken last is held
last_held : (steps : List LockStep) (lock : ℕ) → mode_of (steps ++ TakenStep lock Write ∷ []) lock ≡ Some Write
last_held steps lock = mode-last steps (TakenStep lock Write) lock ∙ ap (λ (t : Bool). cond {A = Option Mode} t (Some Write) (mode_of steps lock)) (eq-eqb lock lock refl)

pub stripe-held : (start : View) (before : List Batch) (batch : Batch) (marks : Marks) (view : View) (stripe : ℕ) → IsAtRest start → HasStripe start before batch marks stripe view → Holds view stripe Write
stripe-held start before batch marks view stripe rest h = worked-mode start view _ h.worked rest stripe ∙ last_held h.steps stripe

-- ---- the next body

module _ (layer slot : ℕ) (start : View) (before : List Batch) (batch : Batch) (marks : Marks) (begun : IsBegunFor layer slot start before batch marks) (view : View) (at : IsAtBody start before batch marks view) where
  -- its stripe is held
  pub body-held : Holds view (stripe_of view.config (current marks).index) Write
  body-held =
      subst (λ (c : Config). Holds view (stripe_of c (current marks).index) Write) (sym (worked-sizes start view _ at.held.worked))
      (stripe-held start before batch marks view (stripe_of start.config (current marks).index) begun.rest at.held)

  pub body-below : (current marks).index < view.config.bodies
  body-below =
      subst (λ (c : Config). (current marks).index < c.bodies) (sym (worked-sizes start view _ at.held.worked))
      (All-get_or (λ (i : Id). i.index < start.config.bodies) marks.ids marks.marked (record { index = 0; seq = 0 }) at.next begun.below)

  -- once it is known as live, it is guarded
  pub body-guarded : KnowsLive (current marks) view → IsGuarded (current marks) view
  body-guarded live = (
    at.held.worked.adds.number,
    Write,
    record { pass = worked-pass start view _ at.held.worked; stripe = body-held; below = body-below; state = live; done = at.held.worked.doing },
  )

-- what is known of a body that is guarded
module _ (id : Id) (view next : View) (guarded : IsGuarded id view) (more : KnowsMore view next) where
  pub live-later : KnowsLive id next
  live-later = (guarded-more id view next guarded more).2.state

  pub out-later : KnowsOut id view → KnowsOut id next
  out-later out = (live-later, phase-stays id view next guarded more ∙ out.1)

  pub here-later : (layer : ℕ) → KnowsHere id layer view → KnowsHere id layer next
  here-later layer here = (out-later here.0, layer-stays id view next guarded more ∙ here.1)

  pub sides-later : (words : List ℕ) (loaded : ℕ) → KnowsSides id view words loaded → KnowsSides id next words loaded
  sides-later words loaded sides k below = word-stays id view next guarded more (BoxWord id.index k) refl ∙ sides k below

-- bodies that were free at points of the call were so at points of it as it goes on
pub were-later : (layer : ℕ) (start view next : View) (ids : List Id) → IsPrefix view.known next.known → WereFree layer start view ids → WereFree layer start next ids
were-later layer start view next ids later were k d below = point-later start view next (IsFreeAt start.config layer (get_or ids k d)) later (were k d below)

-- ---- stages

module _ (layer slot : ℕ) (start : View) (before : List Batch) (batch : Batch) (marks : Marks) (begun : IsBegunFor layer slot start before batch marks) (view next : View) (more : KnowsMore view next) where
  stripe_later : (stripe : ℕ) → HasStripe start before batch marks stripe view → HasStripe start before batch marks stripe next
  stripe_later stripe h = record {
    steps = h.steps;
    free = h.free;
    worked = worked-more start view next _ h.worked more;
    each = were-later batch.layer start view next (take marks.marked marks.ids) (more.since, more.known) h.each;
  }

  pub body-later : IsAtBody start before batch marks view → IsAtBody start before batch marks next
  body-later at = record { next = at.next; held = stripe_later (stripe_of start.config (current marks).index) at.held }

  guarded_at : IsAtBody start before batch marks view → KnowsLive (current marks) view → IsGuarded (current marks) view
  guarded_at at live = body-guarded layer slot start before batch marks begun view at live

  stage_later : (look : LookOp) (stage : MarkStage) → AtMark start before batch marks view look stage → AtMark start before batch marks next look stage
  stage_later look Looking h = record { mid = h.mid; between = h.between; looking = looking-later _ h.mid look view next more h.looking }
  stage_later look Outside h = (body-later h.0, out-later (current marks) view next (guarded_at h.0 h.1.0) more h.1)
  stage_later look (Sides words loaded) h =
      let guarded = guarded_at h.0 h.1.0.0 in
      (body-later h.0, here-later (current marks) view next guarded more batch.layer h.1, h.2, h.3, sides-later (current marks) view next guarded more words loaded h.4, point-later start view next _ (more.since, more.known) h.5)
  stage_later look (Boxed bounds) h =
      let guarded = guarded_at h.0 h.1.0.0 in
      (body-later h.0, here-later (current marks) view next guarded more batch.layer h.1, sides-later (current marks) view next guarded more (words_of bounds) 6 h.2, point-later start view next _ (more.since, more.known) h.3)
  stage_later look (Leaving stripe) h = (stripe_later stripe h.0, h.1)
  stage_later look (Refusing refused) h = (body-later h.0, point-later start view next _ (more.since, more.known) h.1)

pub marking-later : (first : Marking) (start : View) (operation : Marking) (view next : View) → KnowsMore view next → IsMarking first start operation view → IsMarking first start operation next
marking-later first start operation view next more marking =
    let goes = marking.goes in
    record {
      layer = marking.layer;
      slot = marking.slot;
      ids = marking.ids;
      goes = record {
        before = goes.before;
        batch = goes.batch;
        room = goes.room;
        begun = goes.begun;
        at = stage_later operation.layer operation.slot start goes.before goes.batch (marks_of operation) goes.begun view next more operation.look operation.stage goes.at;
      };
    }
