-- The steps on lock words. Bit p of a lock word is set while pass p reads under the lock, bit 32 + p while it writes.
use Rattle.std.specs.Prelude.{◌≡◌, ℕ, ◌+◌, ◌-◌, ◌^◌, ◌<◌, ◌==◌, if◌then◌else◌, [], ◌∷◌, ◌++◌, None}
use Rattle.word_map.specs.declared.name.Name.{Name}
use Rattle.word_map.specs.declared.name.Name.TheVariants.{Lock}
use Rattle.core_state.specs.declared.view.Mode.{Mode}
use Rattle.core_state.specs.declared.view.Mode.TheVariants.{Read, Write}
use Rattle.core_state.specs.declared.view.LockStep.{LockStep}
use Rattle.core_state.specs.declared.view.LockStep.TheVariants.{Taken, Released}
use Rattle.core_state.specs.declared.view.Task.TheVariants.{Nothing}
use Rattle.core_state.specs.declared.view.View.{View}
use Rattle.core_state.specs.View.{IsPass, Holds, HoldsNot, no_call}
use Rattle.core_state.specs.Operation.{load, compare_exchange, fetch_add}
use Rattle.core_state.specs.Kind.{Kind, Asking}

-- the bit of a pass in the word of a lock that it holds so
abbrev pub bit_of : ℕ → Mode → ℕ
bit_of number Read = 2 ^ number
bit_of number Write = 2 ^ (32 + number)

-- the view after one step more on a lock
abbrev pub with_lock_step : View → LockStep → View
with_lock_step view step = record view { locks = view.locks ++ step ∷ [] }

-- the view after an exchange of a lock word: the lock was taken where the word was the one expected
abbrev pub taken_if : View → Name → Mode → ℕ → ℕ → View
taken_if view (Lock lock) mode found expected = if found == expected then with_lock_step view (Taken lock mode) else view
taken_if view name mode found expected = view

-- Kind 5, load a lock word
abbrev pub MayLoadLock : Asking
MayLoadLock view name first second = (lock : ℕ) × (name ≡ Lock lock)

abbrev pub load_lock : Kind
load_lock = record {
  operation = load;
  entry = λ view name value. None;
  leaves = λ view name found first second. view;
}

-- what taking a lock does, either way: where the word is the one expected, the other operand is put there
abbrev pub take : Mode → Kind
take mode = record {
  operation = compare_exchange;
  entry = λ view name value. None;
  leaves = λ view name found first second. taken_if view name mode found first;
}

-- what taking a lock to read asks: nobody writes in the word that is expected, and the own bit is added to it
pub record MayRead (view : View) (name : Name) (expected new : ℕ) : Type 0 where
  pub lock : ℕ
  pub number : ℕ
  pub names : name ≡ Lock lock
  pub pass : IsPass view number
  pub free : HoldsNot view lock
  pub no_writer : expected < 2 ^ 32
  pub adds : new ≡ expected + bit_of number Read

-- Kind 6, take a lock to read
abbrev pub take_read : Kind
take_read = take Read

-- what taking a lock to write asks: the word expected is 0, and the own bit is put there
pub record MayWrite (view : View) (name : Name) (expected new : ℕ) : Type 0 where
  pub lock : ℕ
  pub number : ℕ
  pub names : name ≡ Lock lock
  pub pass : IsPass view number
  pub free : HoldsNot view lock
  pub unheld : expected ≡ 0
  pub adds : new ≡ bit_of number Write

-- Kind 7, take a lock to write
abbrev pub take_write : Kind
take_write = take Write

-- what letting a lock go asks: it is held, nothing is half done, and the summand takes the own bit away
pub record MayRelease (view : View) (name : Name) (summand second : ℕ) : Type 0 where
  pub lock : ℕ
  pub number : ℕ
  pub mode : Mode
  pub names : name ≡ Lock lock
  pub pass : IsPass view number
  pub holds : Holds view lock mode
  pub done : view.call.task ≡ Nothing
  pub takes_away : summand ≡ 2 ^ 64 - bit_of number mode

-- the view after it: the lock is let go, and what was loaded and stored under it counts no more
abbrev pub released : View → Name → View
released view (Lock lock) = record (with_lock_step view (Released lock)) { call = no_call }
released view name = view

-- Kind 8, release a lock
abbrev pub release : Kind
release = record {
  operation = fetch_add;
  entry = λ view name value. None;
  leaves = λ view name found first second. released view name;
}
