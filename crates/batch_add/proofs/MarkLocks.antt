-- Once the lock of a body is let go, no lock is held.
use Rattle.std.proofs.Common.{◌≡◌, ℕ, List, [], ◌∷◌, ◌++◌, Bool, true, false, Option, Some, None, eqb, cond, refl, ap, ◌∙◌}
use Rattle.core_state.specs.declared.view.Mode.{Mode}
use Rattle.core_state.specs.declared.view.Mode.TheVariants.{Write}
use Rattle.core_state.specs.declared.view.LockStep.{LockStep}
use Rattle.core_state.specs.declared.view.LockStep.TheVariants.{Taken as TakenStep, Released}
use Rattle.core_state.specs.View.{mode_of}
use Rattle.batch_add.specs.stages.MarkLater.{mode-last}

-- no lock is held after these steps
abbrev NoneHeld : List LockStep → Type 0
NoneHeld steps = (lock : ℕ) → mode_of steps lock ≡ None

-- the lock that was taken last is let go
pub free-again : (steps : List LockStep) (lock : ℕ) → NoneHeld steps → NoneHeld ((steps ++ TakenStep lock Write ∷ []) ++ Released lock ∷ [])
free-again steps lock free other =
    mode-last (steps ++ TakenStep lock Write ∷ []) (Released lock) other
    ∙ (ap (λ (o : Option Mode). cond {A = Option Mode} (eqb lock other) None o)
    (mode-last steps (TakenStep lock Write) other ∙ ap (λ (o : Option Mode). cond {A = Option Mode} (eqb lock other) (Some Write) o) (free other))
    ∙ go (eqb lock other))
  where
    go : (t : Bool) → cond {A = Option Mode} t None (cond {A = Option Mode} t (Some Write) None) ≡ None
    go true = refl
    go false = refl
