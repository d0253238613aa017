-- A lock that was taken can be let go, and then the pass is at rest as before. A pass that did nothing yet is idle.
use Rattle.std.proofs.Common.{◌≡◌, ℕ, List, Bool, true, false, eqb, cond, Option, Some, None, get_or, refl, ap, ◌∙◌}
use Rattle.std.proofs.lemmas.Bool.{eq-eqb}
use Rattle.core_state.specs.declared.view.Mode.{Mode}
use Rattle.core_state.specs.declared.view.LockStep.TheVariants.{Taken, Released}
use Rattle.core_state.specs.declared.view.View.{View}
use Rattle.core_state.specs.View.{mode_of, mode_after}
use Rattle.pass_table.specs.Holding.{MayLetGo, LetGo, IsAtRest}
use Rattle.pass_table.specs.declared.pass.Pass.{Pass}
use Rattle.pass_table.specs.declared.world.World.{World}
use Rattle.pass_table.specs.Opened.{IsFresh, AreAll, AreIdle}
use Rattle.pass_table.specs.Passes.{IsIdle}
use Rattle.pass_table.specs.Trying.{Leaves, with_taken}
use Rattle.core_guard.proofs.LockWords.{mode-push}

abbrev no_mode : Option Mode
no_mode = None

module _ (view mid : View) (lock : ℕ) (mode : Mode) (rest : IsAtRest view) (left : Leaves view mid (with_taken view lock mode)) where
  mid-mode : (other : ℕ) → mode_of mid.locks other ≡ cond (eqb lock other) (Some mode) None
  mid-mode other =
      ap (λ (v : View). mode_of v.locks other) left.rest ∙
      (mode-push view.locks (Taken lock mode) other ∙ ap (λ (o : Option Mode). mode_after other o (Taken lock mode)) (rest.free other))

  pub taken-may-go : MayLetGo mid lock
  taken-may-go = record {
    mode = mode;
    holds = mid-mode lock ∙ ap (λ (t : Bool). cond t (Some mode) None) (eq-eqb lock lock refl);
    done = ap (λ (v : View). v.call.task) left.rest ∙ rest.done;
  }

  none-left : (t : Bool) → cond t no_mode (cond t (Some mode) no_mode) ≡ no_mode
  none-left true = refl
  none-left false = refl

  pub rests-again : (next : View) (found : ℕ) → LetGo mid lock found next → IsAtRest next
  rests-again next found go = record {
    free = λ other.
        ap (λ (v : View). mode_of v.locks other) go.1.leaves ∙
        (mode-push mid.locks (Released lock) other ∙ (ap (λ (o : Option Mode). mode_after other o (Released lock)) (mid-mode other) ∙ none-left (eqb lock other)));
    done = ap (λ (v : View). v.call.task) go.1.leaves;
    still = ap (λ (v : View). v.walk.is_on) go.1.leaves ∙ (ap (λ (v : View). v.walk.is_on) left.rest ∙ rest.still);
  }

-- a pass of a world that was just opened is idle
pub fresh-idle : (world : World) (number : ℕ) (pass : Pass) → IsFresh world number pass → IsIdle world pass
fresh-idle world number pass fresh = record {
  of = fresh.of;
  rest = record { free = λ lock. ap (λ (v : View). mode_of v.locks lock) fresh.view; done = ap (λ (v : View). v.call.task) fresh.view; still = ap (λ (v : View). v.walk.is_on) fresh.view };
}

-- and so is each of all its passes
pub all-idle : (world : World) (passes : List Pass) → AreAll world passes → AreIdle world passes
all-idle world passes all = record { each = λ k d below. fresh-idle world k (get_or passes k d) (all.fresh k d below) }
