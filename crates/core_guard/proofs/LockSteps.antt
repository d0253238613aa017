-- The steps on locks: the law of locks, also where a step is on another word.
use Rattle.std.proofs.Common.{◌≡◌, ℕ, pow-add, ◌+◌, ◌*◌, ◌^◌, ◌≤◌, false, arith}
use Rattle.std.proofs.lemmas.Bool.{false≢true}
use Rattle.std.proofs.lemmas.Nat.{pow_pos}
use Rattle.word_map.specs.Names.{IsName}
use Rattle.core_state.specs.declared.view.Mode.{Mode}
use Rattle.core_state.specs.declared.view.Mode.TheVariants.{Read, Write}
use Rattle.core_state.specs.Core.{Core}
use Rattle.core_state.specs.Kind.{Kind, Step, view_after, after_step}
use Rattle.core_state.specs.Locking.{bit_of, take, MayRead, MayWrite, MayRelease, release}
use Rattle.core_state.specs.Formed.{IsFormed}
use Rattle.core_state.specs.Frame.{IsOutside}
use Rattle.core_state.specs.Scope.{bare_view}
use Rattle.core_state.specs.LocksAgree.{LocksAgreeIn, LocksAgree, lock_scope}
use Rattle.core_state.proofs.Fitting.{word-fits}
use Rattle.core_state.proofs.Frames.{frame, step-same}
use Rattle.core_guard.proofs.LockWords.{Agrees-from, Agrees-to, Takes, Agrees-take, Agrees-release}
use Rattle.core_guard.proofs.Leaving.{Lawful}
use Rattle.word_map.specs.declared.name.Name.{Name}
use Rattle.core_state.specs.declared.view.View.{View}

-- ---- taking a lock

-- a writer's bit is no reader's, and is not 0
write-high : (q : ℕ) → 2 ^ 32 ≤ bit_of q Write
write-high q =
    let split : 2 ^ (32 + q) ≡ 2 ^ 32 * 2 ^ q = pow-add 2 32 q in
    let some = pow_pos q in
    omega arith

pub read-takes : (step : Step) (asked : MayRead step.view step.name step.first step.second) → Takes Read step asked.lock asked.number
read-takes step asked = record {
  names = asked.names;
  pass = asked.pass;
  free = asked.free;
  adds = asked.adds;
  no_writer = λ q e. let high = write-high q in let low = asked.no_writer in omega arith;
  alone = λ e. absurd (read-write e);
}
  where
    read-write : Read ≡ Write → ⊥
    read-write e = absurd (grind arith)

pub write-takes : (step : Step) (asked : MayWrite step.view step.name step.first step.second) → Takes Write step asked.lock asked.number
write-takes step asked = record {
  names = asked.names;
  pass = asked.pass;
  free = asked.free;
  adds = (let none = asked.unheld in let bit = asked.adds in omega arith);
  no_writer = λ q e. let high = write-high q in let none = asked.unheld in omega arith;
  alone = λ e. asked.unheld;
}

module _ (core : Core) (step : Step) (a : Lawful core step) where
  pub LocksAgree-take : (mode : Mode) (lock number : ℕ) → Takes mode step lock number → LocksAgree (after_step (take mode) core step)
  LocksAgree-take mode lock number takes = Agrees-to (after_step (take mode) core step) (Agrees-take mode core step lock number a.at takes (Agrees-from core a.laws.locks))

  -- the bit is taken away by a sum that wraps, so the word has to be below 2^64: the form says so
  pub LocksAgree-release : IsFormed core → IsName core.config step.name → MayRelease step.view step.name step.first step.second → LocksAgree (after_step release core step)
  LocksAgree-release formed named asked =
      let fits = word-fits core.config core.log step.name formed.sizes formed.items named in
      Agrees-to (after_step release core step) (Agrees-release core step a.at fits asked (Agrees-from core a.laws.locks))

-- ---- a step on another word that leaves the locks

pub LocksAgree-other : (core : Core) (step : Step) → Lawful core step → (kind : Kind) → lock_scope.names step.name ≡ false → (view_after kind core step).locks ≡ step.view.locks → LocksAgree (after_step kind core step)
LocksAgree-other core step a kind hidden locks =
    let outside : IsOutside lock_scope kind core step = record {
      name = λ stored. hidden;
      entry = λ reads. absurd (false≢true reads);
      part = λ i. record (bare_view step.number) { locks = locks i };
    } in
    frame lock_scope LocksAgreeIn core (after_step kind core step) (step-same lock_scope kind core step a.at a.pass outside) a.laws.locks

-- ---- a kind that leaves locks and walk

-- a view has the locks and the walk of another
abbrev pub HasSameLocks : View → View → Type 0
HasSameLocks view next = (next.locks ≡ view.locks) × (next.walk.is_on ≡ view.walk.is_on)

abbrev pub LeavesLocks : Kind → Type 0
LeavesLocks kind = (view : View) (name : Name) (found first second : ℕ) → HasSameLocks view (kind.leaves view name found first second)
