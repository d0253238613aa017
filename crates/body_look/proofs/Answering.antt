-- What the answer of a look gives the operation that looked.
use Rattle.std.proofs.Common.{◌≡◌, ◌≢◌, ℕ, ◌<◌, List, [], ◌∷◌, ◌++◌, Bool, Option, Some, None, cond, append_assoc, refl, ap, sym, ◌∙◌, subst, arith}
use Rattle.std.proofs.lemmas.Bool.{ne_eqb}
use Rattle.std.proofs.lemmas.Option.{none-some, same_Some}
use Rattle.std.proofs.lemmas.List.{append-nil}
use Rattle.body_ident.specs.Id.{Id}
use Rattle.scene_model.specs.declared.body_view.Phase.{Phase as BodyPhase}
use Rattle.scene_model.specs.declared.body_view.Phase.TheVariants.{Out as OutPhase, Held as HeldPhase, In as InPhase}
use Rattle.scene_model.specs.Scene.{Record}
use Rattle.scene_model.specs.Cause.{HasIdBody}
use Rattle.word_map.specs.declared.config.Config.{Config}
use Rattle.word_map.specs.declared.name.Name.TheVariants.{Lock}
use Rattle.word_map.specs.Names.{stripe_of}
use Rattle.core_state.specs.declared.item.Item.{Item}
use Rattle.core_state.specs.declared.view.Mode.{Mode}
use Rattle.core_state.specs.declared.view.LockStep.{LockStep}
use Rattle.core_state.specs.declared.view.LockStep.TheVariants.{Taken}
use Rattle.core_state.specs.declared.view.Task.TheVariants.{Nothing}
use Rattle.core_state.specs.declared.view.View.{View}
use Rattle.core_state.specs.View.{HoldsNot}
use Rattle.core_state.specs.Guards.{scene_at}
use Rattle.pass_table.specs.Holding.{IsAtRest}
use Rattle.pass_table.specs.Calls.{Adds, AtPoint}
use Rattle.pass_table.specs.Work.{Work, begun, with_lock, HasWorked}
use Rattle.pass_table.specs.Bodies.{IsGoneAt, IsTold}
use Rattle.pass_table.proofs.Calling.{point-now, some-left}
use Rattle.pass_table.proofs.LockedBodies.{told-body}
use Rattle.pass_table.proofs.WorkLater.{tells-alone, spares-alone, worked-role, worked-sizes, worked-mode}
use Rattle.pass_table.proofs.Working.{adds-then}
use Rattle.body_look.specs.declared.body_found.BodyFound.{BodyFound}
use Rattle.body_look.specs.declared.body_found.BodyFound.TheVariants.{Gone, Live as FoundLive, Out, In, Held, Joined}
use Rattle.body_look.specs.Found.{phase_found, IsFound}
use Rattle.body_look.specs.declared.look_op.LookDepth.{LookDepth}
use Rattle.body_look.specs.declared.look_op.LookDepth.TheVariants.{Life, Phase as ItsPhase}
use Rattle.body_look.specs.declared.look_op.LookStage.{LookStage}
use Rattle.body_look.specs.declared.look_op.LookStage.TheVariants.{Taking, Striped, Live, Joining, Placed}
use Rattle.body_look.specs.declared.look_op.LookOp.{LookOp}
use Rattle.body_look.specs.stages.Looking.{HasStripe, left_at, look_left}
use Rattle.body_look.specs.stages.LookLater.{only-sizes}

-- ---- turns left

-- a look that is under way has a turn left
pub turn-left : (look : LookOp) → 0 < look_left look
turn-left look = go look.depth look.stage
  where
    go : (depth : LookDepth) (stage : LookStage) → 0 < left_at depth look.taking stage
    go depth Taking = let some = some-left look.taking in omega arith
    go Life Striped = omega arith
    go ItsPhase Striped = omega arith
    go depth Live = omega arith
    go depth (Joining slot) = omega arith
    go depth (Placed slot layer) = omega arith

-- ---- the phase

-- the body is live, and in the phase that was found
pub phase-told : (id : Id) (view : View) (found : BodyFound) (phase : BodyPhase) → phase_found found ≡ Some phase → IsFound id view found → (told : IsTold id view) × (told.body.phase ≡ phase)
phase-told id view (Gone state) phase same is = absurd (none-some phase same)
phase-told id view FoundLive phase same is = absurd (none-some phase same)
phase-told id view Out phase same is = (is.told, is.is ∙ same_Some OutPhase phase same)
phase-told id view In phase same is = (is.told, is.is ∙ same_Some InPhase phase same)
phase-told id view (Held layer slot word) phase same is = (is.0.told, is.0.is ∙ same_Some HeldPhase phase same)
phase-told id view (Joined layer slot word) phase same is = (is.0.told, is.0.is ∙ same_Some InPhase phase same)

-- ---- the point at which it is so

module _ (id : Id) (mode : Mode) (start next : View) (stripe : HasStripe id mode start next) where
  abbrev pub stripe_steps : List LockStep
  stripe_steps = Taken (stripe_of start.config id.index) mode ∷ []

  pub stripe-sizes : next.config ≡ start.config
  stripe-sizes = only-sizes id start next stripe_steps stripe

  -- what is so of the log, in a world of these sizes
  pub looked-point : (fact : Config → List Item → Type 0) → fact next.config next.known → AtPoint start next (fact start.config)
  looked-point fact holds = point-now start next [] (fact start.config) stripe.worked.adds (subst (λ (c : Config). fact c next.known) stripe-sizes holds)

  -- the body is gone
  pub gone-point : (state : ℕ) → IsFound id next (Gone state) → AtPoint start next (IsGoneAt start.config id state)
  gone-point state is = looked-point (λ c log. IsGoneAt c id state log) is

  -- this holds of the body
  pub body-point : (told : IsTold id next) (P : Record → Type 0) → P told.body → AtPoint start next (λ log. HasIdBody (scene_at start.config log) id P)
  body-point told P holds = looked-point (λ c log. HasIdBody (scene_at c log) id P) (told-body id next told P holds)

  -- no other lock is held
  pub no-other : IsAtRest start → (lock : ℕ) → lock ≢ stripe_of next.config id.index → HoldsNot next lock
  no-other rest lock other =
      worked-mode start next _ stripe.worked rest lock
      ∙ ap (λ (t : Bool). cond {A = Option Mode} t (Some mode) None)
      (ne_eqb (stripe_of start.config id.index) lock (λ same. other (sym same ∙ ap (λ (c : Config). stripe_of c id.index) (sym stripe-sizes))))

-- ---- a look in the middle of a call

-- a call that had let all locks go has taken the stripe, and done nothing else
pub worked-looked : (start mid next : View) (w : Work) (id : Id) (mode : Mode) → HasWorked start mid w → w.task ≡ Nothing → HasStripe id mode mid next
    → HasWorked start next (with_lock w (Taken (stripe_of start.config id.index) mode))
worked-looked start mid next w id mode worked none stripe =
    subst (λ (c : Config). HasWorked start next (with_lock w (Taken (stripe_of c id.index) mode))) (worked-sizes start mid w worked) (record {
      adds = subst (Adds start next) (append-nil w.entries) (adds-then start mid next w.entries [] (worked-role start mid w worked) worked.adds looked.adds);
      tells = tells-alone start mid next w.stores (Lock lock) (worked-role start mid w worked) worked.tells stripe.alone refl;
      spares = λ none. spares-alone start mid next (Lock lock) (worked-role start mid w worked) (worked.spares none) stripe.alone refl;
      doing = looked.doing ∙ sym none;
      left =
          looked.left
          ∙ (ap (λ (v : View). record v { known = next.known; joined = next.joined; locks = v.locks ++ Taken lock mode ∷ []; call = next.call }) worked.left
          ∙ (λ i. record start {
            known = next.known;
            joined = next.joined;
            locks = append_assoc start.locks w.steps (Taken lock mode ∷ []) i;
            call = next.call;
            batches = w.batches;
            loose = w.loose;
            written = w.written;
          }));
    })
  where
    lock : ℕ
    lock = stripe_of mid.config id.index

    looked : HasWorked mid next (record (begun mid) { steps = Taken lock mode ∷ [] })
    looked = stripe.worked
