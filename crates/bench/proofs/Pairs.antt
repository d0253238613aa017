-- The first pass of a world, and a lock taken and let go.
use Rattle.std.proofs.Common.{Ok, Err, ◌≡◌, ◌≢◌, ℕ, List, ◌∷◌, ap, sym, ◌∙◌, subst, arith}
use Rattle.word_map.specs.declared.name.Name.{Name}
use Rattle.word_map.specs.declared.name.Name.TheVariants.{Lock}
use Rattle.core_state.specs.declared.view.Mode.TheVariants.{Write}
use Rattle.core_state.specs.declared.view.View.{View}
use Rattle.core_state.specs.Locking.{MayWrite, take}
use Rattle.pass_table.specs.declared.pass.Pass.{Pass}
use Rattle.pass_table.specs.declared.world.World.{World}
use Rattle.pass_table.specs.Holding.{MayLetGo, LetGo, IsAtRest}
use Rattle.pass_table.specs.Opened.{IsFresh, AreAll}
use Rattle.pass_table.specs.Stepping.{Stepped}
use Rattle.pass_table.specs.Trying.{Leaves}
use Rattle.pass_table.proofs.Resting.{taken-may-go, rests-again}
use Rattle.pass_table.proofs.Trying.{exchanged-by, still-free}

-- the first pass of a list of all
pub first_fresh : (world : World) (a : Pass) (list rest : List Pass) → AreAll world list → list ≡ a ∷ rest → IsFresh world 0 a
first_fresh world a list rest all one =
    let fresh : AreAll world (a ∷ rest) = subst (AreAll world) one all in fresh.fresh 0 a (omega arith)

abbrev lock_in : Name → ℕ
lock_in (Lock lock) = lock
lock_in _ = 0

-- a pass at rest that took a lock to write and let it go is at rest
pub rests-after : (view mid next : View) (lock new found : ℕ) → IsAtRest view → Stepped MayWrite (take Write) view (Lock lock) 0 new 0 mid
    → (other : ℕ) × (Lock lock ≡ Lock other) × LetGo mid other found next → IsAtRest next
rests-after view mid next lock new found rest taken gone =
    rests-again view mid lock Write rest (exchanged-by MayWrite Write view mid lock 0 new (Ok tt) taken) next found
    (subst (λ (l : ℕ). LetGo mid l found next) (ap lock_in (sym gone.1)) gone.2)

-- a lock that a pass at rest took can be let go
pub may-go-after : (view mid : View) (lock new : ℕ) → IsAtRest view → Stepped MayWrite (take Write) view (Lock lock) 0 new 0 mid → MayLetGo mid lock
may-go-after view mid lock new rest taken = taken-may-go view mid lock Write rest (exchanged-by MayWrite Write view mid lock 0 new (Ok tt) taken)

-- a pass at rest that has just the locks that it had is at rest
pub rests-left : (view mid : View) → IsAtRest view → Leaves view mid view.locks → IsAtRest mid
rests-left view mid rest left = record {
  free = λ other. still-free view mid other left (rest.free other);
  done = ap (λ (v : View). v.call.task) left.rest ∙ rest.done;
  still = ap (λ (v : View). v.walk.is_on) left.rest ∙ rest.still;
}

-- a pass at rest that did not get a lock is at rest
pub rests-without : (view mid : View) (lock new found : ℕ) → IsAtRest view → (found ≢ 0) × Stepped MayWrite (take Write) view (Lock lock) 0 new found mid → IsAtRest mid
rests-without view mid lock new found rest missed = rests-left view mid rest (exchanged-by MayWrite Write view mid lock 0 new (Err found) missed).1
