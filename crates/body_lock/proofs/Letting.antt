-- A lock is let go.
use Rattle.std.proofs.Common.{◌≡◌, ◌≢◌, ℕ, [], ◌∷◌, ◌++◌, Bool, false, cond, Option, None, refl, ap, sym, ◌∙◌, inl, inr}
use Rattle.std.proofs.lemmas.Bool.{cases_eq, eq-eqb, ne_eqb}
use Rattle.std.proofs.lemmas.List.Sums.{fold-append}
use Rattle.word_map.specs.declared.name.Name.TheVariants.{Lock}
use Rattle.core_state.specs.declared.view.Mode.{Mode}
use Rattle.core_state.specs.declared.view.LockStep.TheVariants.{Released}
use Rattle.core_state.specs.declared.view.View.{View}
use Rattle.core_state.specs.View.{mode_of, mode_after, HoldsNot, IsPass, no_call}
use Rattle.core_state.specs.Locking.{MayRelease, release}
use Rattle.core_state.specs.Event.{releases, of_locks}
use Rattle.body_ident.specs.Id.{Id}
use Rattle.word_map.specs.declared.config.Config.{Config}
use Rattle.word_map.specs.Names.{stripe_of}
use Rattle.pass_table.specs.Bodies.{IsAlone}
use Rattle.pass_table.specs.Holding.{LetGo}
use Rattle.pass_table.specs.Turning.{AtMostOneStep, MadeBy}
use Rattle.pass_table.specs.Calls.{Adds}
use Rattle.pass_table.proofs.Turning.{one-step, made-by-step}
use Rattle.pass_table.proofs.Calling.{Adds-refl, adds-none, stepped-left}
use Rattle.pass_table.proofs.WorkLater.{tells-alone, spares-alone}
use Rattle.pass_table.proofs.Working.{tells-refl, spares-refl}
use Rattle.pass_table.specs.Work.{HasDone, idle}
use Rattle.pass_table.proofs.Knowing.{step-alone}

module _ (view next : View) (lock found : ℕ) (go : LetGo view lock found next) where
  pub let-go-step : AtMostOneStep view next
  let-go-step = one-step MayRelease release view next (Lock lock) go.0 0 found go.1 (λ before after steps. of_locks (releases steps))

  pub let-go-made : MadeBy view next None
  let-go-made = made-by-step MayRelease release view next (Lock lock) go.0 0 found go.1

  -- what it leaves of the view
  pub let-go-view : next ≡ record view { known = next.known; joined = next.joined; locks = view.locks ++ Released lock ∷ []; call = no_call }
  let-go-view = stepped-left MayRelease release view next (Lock lock) go.0 0 found go.1 (view.locks ++ Released lock ∷ []) no_call refl

  pub let-go-left : next ≡ record view { known = next.known; joined = next.joined; locks = next.locks; call = next.call }
  let-go-left =
      let-go-view
      ∙ (λ i. record view { known = next.known; joined = next.joined; locks = sym (ap (λ (v : View). v.locks) let-go-view) i; call = sym (ap (λ (v : View). v.call) let-go-view) i })

  -- each other lock is held as before, and this one no more
  pub let-go-mode : (other : ℕ) → mode_of next.locks other ≡ mode_after other (mode_of view.locks other) (Released lock)
  let-go-mode other = ap (λ (v : View). mode_of v.locks other) let-go-view ∙ fold-append (mode_after other) None view.locks (Released lock ∷ [])

  -- and it has added nothing
  pub let-go-adds : (number : ℕ) → IsPass view number → Adds view next []
  let-go-adds number pass = adds-none view view next [] refl (Adds-refl view number pass) let-go-made

  -- who held no other lock is at rest
  pub let-go-done : (number : ℕ) → IsPass view number → view.walk.is_on ≡ false → ((other : ℕ) → other ≢ lock → HoldsNot view other) → HasDone view next (idle view)
  let-go-done number pass still only = record {
    adds = let-go-adds number pass;
    tells = tells-alone view view next [] (Lock lock) refl (tells-refl view number pass) (step-alone MayRelease release view next (Lock lock) go.0 0 found go.1) refl;
    spares = λ none. spares-alone view view next (Lock lock) refl (spares-refl view) (step-alone MayRelease release view next (Lock lock) go.0 0 found go.1) refl;
    rest = record {
      free = λ other. elim (cases_eq other lock) [
        | inl same ↦ let-go-mode other ∙ ap (λ (t : Bool). cond t no_mode (mode_of view.locks other)) (eq-eqb lock other (sym same))
        | inr apart ↦ let-go-mode other ∙ (ap (λ (t : Bool). cond t no_mode (mode_of view.locks other)) (ne_eqb lock other (λ e. apart (sym e))) ∙ only other apart)
      ];
      done = ap (λ (v : View). v.call.task) let-go-view;
      still = ap (λ (v : View). v.walk.is_on) let-go-view ∙ still;
    };
    left = let-go-left;
  }
    where
      no_mode : Option Mode
      no_mode = None

-- a guard is unlocked
pub unlocked : (number : ℕ) (id : Id) (mode : Mode) (view next : View) (c : Config) → view.config ≡ c → IsAlone number id mode view → (found : ℕ) × LetGo view (stripe_of c id.index) found next → HasDone view next (idle view)
unlocked number id mode view next c sizes alone step =
    let-go-done view next (stripe_of c id.index) step.0 step.1 number alone.guarding.pass alone.still
    (λ other apart. alone.only other (λ same. apart (same ∙ ap (λ (s : Config). stripe_of s id.index) sizes)))
