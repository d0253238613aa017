-- How a pass keeps what its view says of locks: as two sets of locks.
use Rattle.std.specs.Prelude.{◌≡◌, ℕ, ◌==◌, if◌then◌else◌, Bool, false, List, Option, Some, None}
use Rattle.core_state.specs.declared.view.Mode.{Mode}
use Rattle.core_state.specs.declared.view.Mode.TheVariants.{Read, Write}
use Rattle.core_state.specs.declared.view.LockStep.{LockStep}
use Rattle.core_state.specs.declared.view.Task.TheVariants.{Nothing}
use Rattle.core_state.specs.declared.view.View.{View}
use Rattle.core_state.specs.View.{mode_of, Holds, HoldsNot}
use Rattle.core_state.specs.Kind.{Kind}
use Rattle.core_state.specs.Locking.{MayRelease, release}
use Rattle.word_map.specs.declared.name.Name.{Name}
use Rattle.word_map.specs.declared.name.Name.TheVariants.{Lock}
use Rattle.pass_table.specs.declared.lock_set.LockSet.{LockSet}
use Rattle.pass_table.specs.LockSets.{bit_in}
use Rattle.pass_table.specs.Stepping.{Stepped}

-- how a lock is held that has these bits in the set of locks held, and in that of locks last taken to write
abbrev pub mode_by : ℕ → ℕ → Option Mode
mode_by held written = if held == 0 then None else if written == 0 then Some Read else Some Write

-- the sets are those of the locks that are held after these steps, and of those last taken to write
abbrev pub AreHeld : LockSet → LockSet → List LockStep → Type 0
AreHeld held written steps = (lock : ℕ) → mode_by (bit_in held lock) (bit_in written lock) ≡ mode_of steps lock

-- steps of this kind leave the locks of the pass as they were, and whether it walks
abbrev pub IsStill : Kind → Type 0
IsStill kind = (view : View) (name : Name) (found first second : ℕ) →
    ((kind.leaves view name found first second).locks ≡ view.locks) × ((kind.leaves view name found first second).walk.is_on ≡ view.walk.is_on)

-- steps of this kind leave the locks of the pass as they were, and after them it walks, or does not
abbrev pub TurnsWalk : Kind → Bool → Type 0
TurnsWalk kind walks = (view : View) (name : Name) (found first second : ℕ) →
    ((kind.leaves view name found first second).locks ≡ view.locks) × ((kind.leaves view name found first second).walk.is_on ≡ walks)

-- what letting a lock go asks of its caller: the pass holds the lock, and nothing under it is half done
pub record MayLetGo (view : View) (lock : ℕ) : Type 0 where
  pub mode : Mode
  pub holds : Holds view lock mode
  pub done : view.call.task ≡ Nothing

-- what a step on a lock tells where its summand follows from the pass
abbrev pub LetGo : View → ℕ → ℕ → View → Type 0
LetGo view lock found next = (summand : ℕ) × Stepped MayRelease release view (Lock lock) summand 0 found next

-- the pass holds no lock, nothing is half done, and it does not walk
pub record IsAtRest (view : View) : Type 0 where
  pub free : (lock : ℕ) → HoldsNot view lock
  pub done : view.call.task ≡ Nothing
  pub still : view.walk.is_on ≡ false
