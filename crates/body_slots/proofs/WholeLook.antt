-- What a look at a body leaves that is made in one call.
use Rattle.std.proofs.Common.{◌≡◌, ◌≢◌, ℕ, ◌<◌, List, [], ◌∷◌, None, sym, ◌∙◌, subst}
use Rattle.body_ident.specs.Id.{Id}
use Rattle.word_map.specs.declared.config.Config.{Config}
use Rattle.word_map.specs.declared.name.Name.TheVariants.{State}
use Rattle.word_map.specs.Names.{stripe_of}
use Rattle.core_state.specs.declared.view.Mode.TheVariants.{Write}
use Rattle.core_state.specs.declared.view.LockStep.{LockStep}
use Rattle.core_state.specs.declared.view.LockStep.TheVariants.{Taken}
use Rattle.core_state.specs.declared.view.View.{View}
use Rattle.core_state.specs.View.{IsPass}
use Rattle.core_state.specs.Lives.{MayLoadBody, load_body, under_stripe}
use Rattle.pass_table.specs.Stepping.{Stepped}
use Rattle.pass_table.specs.TakeTurns.{taking_of, HasTaken}
use Rattle.pass_table.specs.Turning.{MadeBy}
use Rattle.pass_table.specs.Knowing.{KnowsMore}
use Rattle.pass_table.specs.Holding.{IsAtRest}
use Rattle.pass_table.specs.Bodies.{IsCurrent, IsGuarded, Loaded, live_state}
use Rattle.pass_table.proofs.Bodies.{loaded-body, gone-now}
use Rattle.pass_table.proofs.Working.{worked-begun, worked-taken}
use Rattle.body_look.specs.declared.body_found.BodyFound.{BodyFound}
use Rattle.body_look.specs.declared.body_found.BodyFound.TheVariants.{Gone, Live, Out, In, Held, Joined}
use Rattle.body_look.specs.declared.look_op.LookDepth.TheVariants.{Phase as ItsPhase}
use Rattle.body_look.specs.Found.{IsAsked, IsFound}
use Rattle.body_look.specs.stages.Looking.{HasStripe, Guards, GuardsFound, HasLooked}
use Rattle.body_look.specs.stages.LookLater.{only-sizes, only-more, stripe-mode, guards-more, is-guarded}
use Rattle.body_look.proofs.LookTurns.{guards-live}

-- the stripe was taken
pub striped : (id : Id) (start next : View) (lock number : ℕ) → lock ≡ stripe_of start.config id.index → IsPass start number → IsAtRest start → HasTaken (taking_of lock Write) start next → MadeBy start next None
    → HasStripe id Write start next
striped id start next lock number same pass rest taken made =
    let took = subst (λ (l : ℕ). HasTaken (taking_of l Write) start next) same taken in
    record { worked = worked-taken start start next _ (worked-begun start number pass rest) (stripe_of start.config id.index) Write took made; alone = took.alone; quiet = took.quiet }

-- the state word may be loaded
pub asks-state : (id : Id) (start view : View) (index : ℕ) → index ≡ id.index → IsAtRest start → HasStripe id Write start view → MayLoadBody view (State index) 0 0
asks-state id start view index names rest stripe = under_stripe id.index Write names (stripe-mode id Write start view rest stripe)

-- a guard is one, whatever is found of a live body
guards-found : (id : Id) (view : View) (found : BodyFound) → Guards id Write view → GuardsFound id Write view found
guards-found id view (Gone state) guards = tt
guards-found id view Live guards = guards
guards-found id view Out guards = guards
guards-found id view In guards = guards
guards-found id view (Held layer slot word) guards = guards
guards-found id view (Joined layer slot word) guards = guards

-- it was loaded
module _ (id : Id) (start view next : View) (index state : ℕ) (names : index ≡ id.index) (rest : IsAtRest start) (below : id.index < start.config.bodies) (stripe : HasStripe id Write start view)
    (stepped : Stepped MayLoadBody load_body view (State index) 0 0 state next) where
  abbrev steps : List LockStep
  steps = Taken (stripe_of start.config id.index) Write ∷ []

  loaded : Loaded view next (State id.index) state
  loaded = subst (λ (i : ℕ). Loaded view next (State i) state) names (loaded-body view next (State index) state stepped)

  held : HasStripe id Write start next
  held = only-more id start view steps stripe rest next loaded.more

  pub found-none : state ≢ live_state id.seq → HasLooked id Write ItsPhase start next (Gone state)
  found-none other = record {
    stripe = held;
    guards = tt;
    now = loaded.now;
    asked = tt;
    is = gone-now next loaded.now id (subst (λ (c : Config). id.index < c.bodies) (sym (only-sizes id start next steps held)) below) state loaded.word other;
  }

  module _ (live : state ≡ live_state id.seq) where
    guards : Guards id Write next
    guards = guards-live id Write start next rest below held (loaded.word ∙ live)

    pub is-live : IsGuarded id next
    is-live = is-guarded id Write start next held guards

    pub found-live : (last : View) (found : BodyFound) → KnowsMore next last → IsCurrent last → IsAsked ItsPhase found → IsFound id last found → HasLooked id Write ItsPhase start last found
    found-live last found more now asked is = record {
      stripe = only-more id start next steps held rest last more;
      guards = guards-found id last found (guards-more id Write next last more guards);
      now = now;
      asked = asked;
      is = is;
    }
