-- The locks agree: a lock word has the bits of those that hold the lock, and the bit of a writer stands alone.
use Rattle.std.specs.Prelude.{◌≡◌, ℕ, Bool, true, false, sum_by, Option, Some}
use Rattle.word_map.specs.declared.name.Name.{Name}
use Rattle.word_map.specs.declared.name.Name.TheVariants.{Lock}
use Rattle.core_state.specs.declared.view.Mode.{Mode}
use Rattle.core_state.specs.declared.view.Mode.TheVariants.{Write}
use Rattle.core_state.specs.declared.view.View.{View}
use Rattle.core_state.specs.View.{number_of, mode_of, IsPass, Holds}
use Rattle.core_state.specs.Locking.{bit_of}
use Rattle.core_state.specs.Core.{Core, IsViewAt}
use Rattle.core_state.specs.Scope.{Scope, Sight, sight, EachPass}

abbrev pub is_lock : Name → Bool
is_lock (Lock lock) = true
is_lock _ = false

-- it reads the lock words, and of each view the locks
abbrev pub lock_scope : Scope
lock_scope = record { names = is_lock; reads_history = false; part = λ bare view. record bare { locks = view.locks } }

-- what a pass adds to a lock's word
abbrev pub bit_if : Option ℕ → Option Mode → ℕ
bit_if (Some number) (Some mode) = bit_of number mode
bit_if _ _ = 0

abbrev pub bit_in : ℕ → View → ℕ
bit_in lock view = bit_if (number_of view) (mode_of view.locks lock)

pub record LocksAgreeIn (s : Sight) : Type 0 where
  -- the bits of all that hold it, added up: no two of them are the same
  pub holders : (lock : ℕ) → s.word (Lock lock) ≡ sum_by (bit_in lock) s.passes
  -- who writes is alone
  pub alone : EachPass s (λ number view. (lock : ℕ) → Holds view lock Write → s.word (Lock lock) ≡ bit_of number Write)

abbrev pub LocksAgree : Core → Type 0
LocksAgree core = LocksAgreeIn (sight lock_scope core)

-- the pass of this number holds the lock so
abbrev pub IsHeldBy : Core → ℕ → ℕ → Mode → Type 0
IsHeldBy core lock number mode = (seat : ℕ) × (view : View) × IsViewAt core seat view × IsPass view number × Holds view lock mode
