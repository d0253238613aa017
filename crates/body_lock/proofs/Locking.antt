-- The turns of locking a body.
use Rattle.std.proofs.Common.{◌≡◌, ◌≢◌, inl, ℕ, ◌+◌, ◌<◌, List, [], Bool, true, false, eqb, cond, Option, Some, None, refl, ap, sym, ◌∙◌, subst, arith}
use Rattle.std.specs.Prelude.{Ok, Err, Result}
use Rattle.body_ident.specs.Id.{Id}
use Rattle.word_map.specs.declared.config.Config.{Config}
use Rattle.word_map.specs.declared.name.Name.TheVariants.{Lock}
use Rattle.word_map.specs.Names.{stripe_of}
use Rattle.core_state.specs.declared.view.Mode.{Mode}
use Rattle.core_state.specs.declared.view.Mode.TheVariants.{Read, Write}
use Rattle.core_state.specs.declared.view.LockStep.{LockStep}
use Rattle.core_state.specs.declared.view.Task.TheVariants.{Nothing}
use Rattle.core_state.specs.declared.view.View.{View}
use Rattle.core_state.specs.View.{IsPass, number_of}
use Rattle.pass_table.specs.Holding.{MayLetGo, LetGo, IsAtRest}
use Rattle.pass_table.specs.Turning.{IsUnderWay, Turned, AtMostOneStep, MadeBy, LoadsNow}
use Rattle.pass_table.specs.declared.turn.Turn.TheVariants.{Done, More, Again}
use Rattle.pass_table.specs.Calls.{Adds}
use Rattle.pass_table.specs.Bodies.{IsGoneAt, IsAlone}
use Rattle.pass_table.specs.Work.{IsCalling, Tells}
use Rattle.pass_table.specs.Belongings.{belongings_of}
use Rattle.pass_table.proofs.Calling.{point-later}
use Rattle.pass_table.proofs.Stages.{Staged, went-on, inner-more, inner-again}
use Rattle.pass_table.proofs.Knowing.{known-more}
use Rattle.pass_table.proofs.WorkLater.{worked-keeps}
use Rattle.pass_table.proofs.Working.{worked-released, worked-done, done-keeps}
use Rattle.body_look.specs.declared.body_found.BodyFound.{BodyFound}
use Rattle.body_look.specs.declared.body_found.BodyFound.TheVariants.{Gone as FoundNone, Live as FoundLive, Out as FoundOut, In as FoundIn, Held as FoundHeld, Joined as FoundJoined}
use Rattle.body_look.specs.declared.look_op.LookDepth.TheVariants.{Life}
use Rattle.body_look.specs.declared.look_op.LookOp.{LookOp}
use Rattle.body_look.specs.stages.Looking.{looking_of, look_left, look_takes, IsLooking, HasLooked, Guards, GuardsFound}
use Rattle.body_look.specs.stages.LookLater.{stripe-mode}
use Rattle.body_look.proofs.Answering.{turn-left, no-other, gone-point, stripe-sizes}
use Rattle.body_lock.specs.declared.gone.Gone.{Gone}
use Rattle.body_lock.specs.declared.body_read.BodyRead.{BodyRead}
use Rattle.body_lock.specs.declared.body_write.BodyWrite.{BodyWrite}
use Rattle.body_lock.specs.declared.lock_op.LockOp.{LockOp}
use Rattle.body_lock.specs.declared.lock_op.LockStage.{LockStage}
use Rattle.body_lock.specs.declared.lock_op.LockStage.TheVariants.{Looking, Leaving}
use Rattle.body_lock.specs.stages.Locking.{turns_from, lock_left, FoundGone, IsAtStage, IsLocking, IsLockingSo, IsLockTurn, takes_at}
use Rattle.body_lock.specs.Answers.{HasLocked, HasReadLock, HasWriteLock, WasGone, LockAnswers, ReadAnswers, WriteAnswers}
use Rattle.body_lock.proofs.Letting.{let-go-step, let-go-made}

-- ---- the look

-- a body that is not gone is guarded
not_gone-guards : (id : Id) (mode : Mode) (view : View) (found : BodyFound) → ((state : ℕ) → found ≢ FoundNone state) → GuardsFound id mode view found → Guards id mode view
not_gone-guards id mode view (FoundNone state) other guards = absurd (other state refl)
not_gone-guards id mode view FoundLive other guards = guards
not_gone-guards id mode view FoundOut other guards = guards
not_gone-guards id mode view FoundIn other guards = guards
not_gone-guards id mode view (FoundHeld layer slot word) other guards = guards
not_gone-guards id mode view (FoundJoined layer slot word) other guards = guards

-- and so it is locked
look-locks : (id : Id) (mode : Mode) (start next : View) (found : BodyFound) → IsAtRest start → ((state : ℕ) → found ≢ FoundNone state) → HasLooked id mode Life start next found → HasLocked id mode start next
look-locks id mode start next found rest other looked = record {
  alone = λ number pass. record {
    guarding = not_gone-guards id mode next found other looked.guards number (ap (λ (v : View). number_of v) looked.stripe.worked.left ∙ pass);
    only = no-other id mode start next looked.stripe rest;
    still = ap (λ (v : View). v.walk.is_on) looked.stripe.worked.left ∙ rest.still;
  };
  now = looked.now;
  calling = looked.stripe.worked;
}

-- ---- the turns

-- one that is begun
pub locking-begun : (id : Id) (mode : Mode) (view next : View) (c : Config) (look : LookOp) → view.config ≡ c → look ≡ looking_of c id mode Life → id.index < c.bodies → IsAtRest view → IsLooking look view look next
    → IsLocking (record { id = id; mode = mode; look = look; stage = Looking }) view (record { id = id; mode = mode; look = look; stage = Looking }) next
locking-begun id mode view next c look sizes same below rest looking = record {
  id = refl;
  mode = refl;
  below = subst (λ (s : Config). id.index < s.bodies) (sym sizes) below;
  rest = rest;
  stage = subst (λ (first : LookOp). IsLooking first view look next) (same ∙ ap (λ (s : Config). looking_of s id mode Life) (sym sizes)) looking;
}

-- it goes from stage to stage, with the look as it is there
abbrev lock_stages : Staged (Result (Unit {0}) Gone) LockOp (LookOp × LockStage)
lock_stages = record {
  under_way = IsLocking;
  answers = λ first start next answer. LockAnswers first.id first.mode start next answer;
  made = λ operation. None;
  stage = λ operation. (operation.look, operation.stage);
  left = λ at. turns_from at.0 at.1;
  takes = λ at. takes_at at.0 at.1;
  at = λ first start view at. IsAtStage first.id first.mode start at.0 at.1 view;
  to = λ operation after. record operation { look = after.0; stage = after.1 };
  reached = λ operation after. refl;
  unmade = λ operation after. refl;
  holds = λ first start operation view locking. locking.stage;
  goes = λ first start operation after view next locking at. record { id = locking.id; mode = locking.mode; below = locking.below; rest = locking.rest; stage = at };
}

-- a turn of the look
module _ (operation : LockOp) (after : LookOp) (view next : View) (at : operation.stage ≡ Looking) (step : AtMostOneStep view next) (made : MadeBy view next None) where
  -- it goes on
  module _ (loads : LoadsNow view next (look_takes after)) (keeps : (first : LookOp) (start : View) → IsLooking first start operation.look view → IsLooking first start after next) where
    pub look-more : Turned {T = BodyFound} More view next (look_takes operation.look) (look_left operation.look) (look_left after) → IsLockTurn More operation (record operation { look = after }) view next
    look-more turned =
        inner-more BodyFound lock_stages (λ look. (look, Looking)) look_left look_takes 1 (λ look. refl) (λ look. refl) operation (record operation { look = after }) operation.look after view next
        (λ i. record operation { look = after; stage = at i }) (λ i. (operation.look, at i)) step made loads (λ first start locking now. keeps (looking_of start.config first.id first.mode Life) start now) More refl turned

    pub look-again : (lock word : ℕ) → Turned {T = BodyFound} (Again lock word) view next (look_takes operation.look) (look_left operation.look) (look_left after)
        → IsLockTurn (Again lock word) operation (record operation { look = after }) view next
    look-again lock word turned =
        inner-again BodyFound lock_stages (λ look. (look, Looking)) look_left look_takes 1 (λ look. refl) (λ look. refl) operation (record operation { look = after }) operation.look after view next
        (λ i. record operation { look = after; stage = at i }) (λ i. (operation.look, at i)) step made loads (λ first start locking now. keeps (looking_of start.config first.id first.mode Life) start now) lock word turned

  -- or has ended
  module _ (found : BodyFound) (answers : (first : LookOp) (start : View) → IsLooking first start operation.look view → HasLooked first.id first.mode first.depth start next found) where
    looked : (first : LockOp) (start : View) → IsAtStage first.id first.mode start operation.look Looking view → HasLooked first.id first.mode Life start next found
    looked first start now = answers (looking_of start.config first.id first.mode Life) start now

    -- the body is live
    pub look-lives : ((state : ℕ) → found ≢ FoundNone state) → IsLockTurn (Done (Ok tt)) operation (record operation { look = after }) view next
    look-lives other = record {
      step = step;
      made = made;
      turned = tt;
      loads = tt;
      keeps = λ first start locking. tt;
      answered = λ first start locking.
          look-locks first.id first.mode start next found locking.rest other (looked first start (subst (λ (s : LockStage). IsAtStage first.id first.mode start operation.look s view) at locking.stage));
    }

    -- it is gone
    pub look-gone : (state : ℕ) → found ≡ FoundNone state → IsLockTurn More operation (record operation { look = after; stage = Leaving state }) view next
    look-gone state is =
        let some = turn-left operation.look in
        let fewer : turns_from after (Leaving state) < turns_from operation.look Looking = omega arith in
        went-on lock_stages More operation (record operation { look = after; stage = Leaving state }) (operation.look, Looking) (after, Leaving state) view next refl refl (λ i. (operation.look, at i)) step made fewer tt
        (λ first start locking now.
        let gone : HasLooked first.id first.mode Life start next (FoundNone state) = subst (HasLooked first.id first.mode Life start next) is (looked first start now) in
        record { stripe = gone.stripe; gone = gone-point first.id first.mode start next gone.stripe state gone.is })

-- ---- the stripe is let go

abbrev no_mode : Option Mode
no_mode = None

-- the body that was gone is answered as gone, and the pass is at rest
pub gone-leaves : (id : Id) (mode : Mode) (start view next : View) (state found : ℕ) → IsAtRest start → FoundGone id mode start state view → LetGo view (stripe_of start.config id.index) found next
    → WasGone id start next state
gone-leaves id mode start view next state found rest gone go =
    let stripe = stripe_of start.config id.index in
    record {
      gone = point-later start view next (IsGoneAt start.config id state) (known-more _ _ view next (Lock stripe) go.0 0 found go.1) gone.gone;
      done = worked-done start next _ (worked-released start view next _ gone.stripe.worked stripe found go refl) rest refl (λ lock. none (eqb stripe lock));
    }
  where
    none : (t : Bool) → cond t no_mode (cond t (Some mode) no_mode) ≡ no_mode
    none true = refl
    none false = refl

-- the stripe may be let go, and this is the last turn
module _ (operation : LockOp) (view : View) (c : Config) (sizes : view.config ≡ c) (state : ℕ) (stage : operation.stage ≡ Leaving state) where
  leaves-from : (first : LockOp) (start : View) → IsLocking first start operation view → FoundGone first.id first.mode start state view
  leaves-from first start locking = subst (λ (s : LockStage). IsAtStage first.id first.mode start operation.look s view) stage locking.stage

  pub leave-may : IsUnderWay IsLocking operation view → MayLetGo view (stripe_of c operation.id.index)
  leave-may under_way =
      let locking = under_way.goes in
      let gone = leaves-from under_way.first under_way.start locking in
      subst (λ (l : ℕ). MayLetGo view l) (λ i. stripe_of (sizes i) (sym (ap (λ (k : Id). k.index) locking.id) i))
      (record { mode = under_way.first.mode; holds = stripe-mode under_way.first.id under_way.first.mode under_way.start view locking.rest gone.stripe; done = gone.stripe.worked.doing })

  leave-answers : (next : View) (found : ℕ) → LetGo view (stripe_of c operation.id.index) found next → (first : LockOp) (start : View) → IsLocking first start operation view → WasGone first.id start next state
  leave-answers next found go first start locking =
      let gone = leaves-from first start locking in
      let start_sizes : view.config ≡ start.config = stripe-sizes first.id first.mode start view gone.stripe in
      gone-leaves first.id first.mode start view next state found locking.rest gone
      (subst (λ (l : ℕ). LetGo view l found next) (λ i. stripe_of ((sym sizes ∙ start_sizes) i) (ap (λ (k : Id). k.index) locking.id i)) go)

  pub leave-turn : (next : View) (found : ℕ) → LetGo view (stripe_of c operation.id.index) found next → IsLockTurn (Done (Err (record { state = state }))) operation operation view next
  leave-turn next found go = record {
    step = let-go-step view next (stripe_of c operation.id.index) found go;
    made = let-go-made view next (stripe_of c operation.id.index) found go;
    turned = tt;
    loads = tt;
    keeps = λ first start locking. tt;
    answered = leave-answers next found go;
  }

-- ---- the guards

-- the pass that has locked the body has its number, and its guard is good
pub locked-alone : (id : Id) (mode : Mode) (start next : View) (number : ℕ) → HasLocked id mode start next → IsPass next number → IsAlone number id mode next
locked-alone id mode start next number locked pass = locked.alone number (sym (ap (λ (v : View). number_of v) locked.calling.left) ∙ pass)

pub read-locked : (operation first : LockOp) (start view next : View) (number : ℕ) → IsPass next number → IsLockingSo Read first start operation view → HasLocked first.id first.mode start next
    → HasReadLock first.id start next (record { number = number; id = operation.id })
read-locked operation first start view next number pass so locked =
    let here : HasLocked first.id Read start next = subst (λ (m : Mode). HasLocked first.id m start next) so.so locked in
    record {
      names = so.locking.id;
      good = subst (λ (i : Id). IsAlone number i Read next) (sym so.locking.id) (locked-alone first.id Read start next number here pass);
      now = here.now;
      calling = here.calling;
    }

pub write-locked : (operation first : LockOp) (start view next : View) (number : ℕ) → IsPass next number → IsLockingSo Write first start operation view → HasLocked first.id first.mode start next
    → HasWriteLock first.id start next (record { number = number; id = operation.id })
write-locked operation first start view next number pass so locked =
    let here : HasLocked first.id Write start next = subst (λ (m : Mode). HasLocked first.id m start next) so.so locked in
    record {
      names = so.locking.id;
      good = subst (λ (i : Id). IsAlone number i Write next) (sym so.locking.id) (locked-alone first.id Write start next number here pass);
      now = here.now;
      calling = here.calling;
    }

-- ---- what both answers tell

-- The call has added nothing and stored no word that is told, and all that the pass has beside its locks and its task is as
-- it was
pub record AddsNone (start next : View) : Type 0 where
  pub adds : Adds start next []
  pub tells : Tells start next []
  pub keeps : belongings_of next ≡ belongings_of start

held-adds_none : (start next : View) (steps : List LockStep) → IsCalling start next steps Nothing [] → AddsNone start next
held-adds_none start next steps calling = record { adds = calling.adds; tells = calling.tells; keeps = worked-keeps start next _ calling }

gone-adds_none : (id : Id) (start next : View) (state : ℕ) → WasGone id start next state → AddsNone start next
gone-adds_none id start next state gone = record { adds = gone.done.adds; tells = gone.done.tells; keeps = done-keeps start next _ gone.done }

pub read-adds_none : (id : Id) (start next : View) (answer : Result BodyRead Gone) → ReadAnswers id start next answer → AddsNone start next
read-adds_none id start next (Ok guard) locked = held-adds_none start next _ locked.calling
read-adds_none id start next (Err refused) gone = gone-adds_none id start next refused.state gone

pub write-adds_none : (id : Id) (start next : View) (answer : Result BodyWrite Gone) → WriteAnswers id start next answer → AddsNone start next
write-adds_none id start next (Ok guard) locked = held-adds_none start next _ locked.calling
write-adds_none id start next (Err refused) gone = gone-adds_none id start next refused.state gone
