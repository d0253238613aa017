-- What trying to take a lock tells.
use Rattle.std.specs.Prelude.{◌≡◌, ◌≢◌, ℕ, ◌^◌, ◌≤◌, List, [], ◌∷◌, ◌++◌, Bool, true, false, None, Result, MatchResult}
use Rattle.word_map.specs.declared.name.Name.{Name}
use Rattle.word_map.specs.declared.name.Name.TheVariants.{Lock}
use Rattle.core_state.specs.declared.item.Item.{Item}
use Rattle.core_state.specs.declared.view.Mode.{Mode}
use Rattle.core_state.specs.declared.view.Mode.TheVariants.{Read, Write}
use Rattle.core_state.specs.declared.view.LockStep.{LockStep}
use Rattle.core_state.specs.declared.view.LockStep.TheVariants.{Taken as TakenStep}
use Rattle.core_state.specs.declared.view.View.{View}
use Rattle.core_state.specs.Log.{word, IsPrefix}
use Rattle.core_state.specs.Kind.{Asking}
use Rattle.core_state.specs.Locking.{MayLoadLock, load_lock, MayRead, MayWrite, take}
use Rattle.pass_table.specs.Stepping.{Stepped}
use Rattle.pass_table.specs.declared.take_answer.Take.{Take}
use Rattle.pass_table.specs.declared.take_answer.Take.TheVariants.{Taken, Busy, Lost}

abbrev pub mode_if : Bool → Mode
mode_if true = Write
mode_if false = Read

-- the word shows a holder that excludes one who holds so: a writer's bit, or any
abbrev pub Excludes : Mode → ℕ → Type 0
Excludes Read word = 2 ^ 32 ≤ word
Excludes Write word = word ≢ 0

-- the view after: what is known goes on from what was known, the locks are these, and all else is as it was
pub record Leaves (view next : View) (locks : List LockStep) : Type 0 where
  pub known : IsPrefix view.known next.known
  pub rest : next ≡ record view { known = next.known; joined = None; locks = locks }

-- the word had this value after a first part of the log that is no shorter than what was known, and no longer than
-- what is known
pub record HadWord (view next : View) (name : Name) (value : ℕ) : Type 0 where
  pub since : List Item
  pub later : List Item
  pub parts : next.known ≡ (view.known ++ since) ++ later
  pub had : word view.config (view.known ++ since) name ≡ value

abbrev pub with_taken : View → ℕ → Mode → List LockStep
with_taken view lock mode = view.locks ++ TakenStep lock mode ∷ []

-- ---- the two steps of a try

-- the load of a lock's word, which found this one
abbrev pub LoadedLock : View → View → ℕ → ℕ → Type 0
LoadedLock view next lock found = Stepped MayLoadLock load_lock view (Lock lock) 0 0 found next

-- what an exchange that takes a lock so asks
abbrev pub MayTake : Mode → Asking
MayTake Read = MayRead
MayTake Write = MayWrite

-- the exchange of a lock's word, which puts a new word in the place of the one expected, and found this one
pub record ExchangedLock (view next : View) (lock : ℕ) (mode : Mode) (expected found : ℕ) : Type 0 where
  pub put : ℕ
  pub step : Stepped (MayTake mode) (take mode) view (Lock lock) expected put found next

-- the exchange found the word expected, and took the lock
pub record HitLock (view next : View) (lock : ℕ) (mode : Mode) (word : ℕ) : Type 0 where
  pub exchange : ExchangedLock view next lock mode word word
  pub left : Leaves view next (with_taken view lock mode)

-- the exchange found another word, and the pass has just the locks that it had
pub record MissedLock (view next : View) (lock : ℕ) (mode : Mode) (word found : ℕ) : Type 0 where
  pub exchange : ExchangedLock view next lock mode word found
  pub changed : word ≢ found
  pub left : Leaves view next view.locks
  pub had : HadWord view next (Lock lock) found

-- an exchange of a lock's word: taken, or another word was found
abbrev pub Exchanged : View → View → ℕ → Mode → ℕ → Result (Unit {0}) ℕ → Type 0
Exchanged view next lock mode word result =
    MatchResult result (λ _. HitLock view next lock mode word) (λ found. MissedLock view next lock mode word found)

-- ---- what came of a try

-- taken: a load of a word that excludes nobody, and an exchange of just this word. The pass holds the lock
pub record WasTaken (view next : View) (lock : ℕ) (mode : Mode) : Type 0 where
  pub word : ℕ
  pub middle : View
  pub load : LoadedLock view middle lock word
  pub exchange : ExchangedLock middle next lock mode word word
  pub left : Leaves view next (with_taken view lock mode)
  pub had : HadWord view next (Lock lock) word
  pub free : ¬ Excludes mode word

-- busy: a load and no more, of a word that shows a holder that excludes this one. The pass has just the locks that it had
pub record WasBusy (view next : View) (lock : ℕ) (mode : Mode) (of word : ℕ) : Type 0 where
  pub same : of ≡ lock
  pub load : LoadedLock view next lock word
  pub left : Leaves view next view.locks
  pub had : HadWord view next (Lock lock) word
  pub excludes : Excludes mode word

-- lost: a load of a word that excludes nobody, and an exchange that found another one. The pass has just the locks that
-- it had
pub record WasLost (view next : View) (lock : ℕ) (mode : Mode) (loaded found : ℕ) : Type 0 where
  pub middle : View
  pub load : LoadedLock view middle lock loaded
  pub exchange : ExchangedLock middle next lock mode loaded found
  pub left : Leaves view next view.locks
  pub had : HadWord view next (Lock lock) loaded
  pub had_found : HadWord view next (Lock lock) found
  pub free : ¬ Excludes mode loaded
  pub changed : loaded ≢ found

abbrev pub Tried : View → View → ℕ → Mode → Take → Type 0
Tried view next lock mode Taken = WasTaken view next lock mode
Tried view next lock mode (Busy of word) = WasBusy view next lock mode of word
Tried view next lock mode (Lost loaded found) = WasLost view next lock mode loaded found

-- some tries later: what is known goes on from what was known, and the locks and all else are as they were
pub record Waited (view next : View) : Type 0 where
  pub known : IsPrefix view.known next.known
  pub rest : next ≡ record view { known = next.known; joined = next.joined }
