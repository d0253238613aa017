-- The locks agree after a lock is taken or let go, and after a pass is opened.
use Rattle.std.proofs.Common.{◌≡◌, ◌≢◌, ℕ, zero, suc, ◌+◌, ◌^◌, ◌<◌, List, [], ◌∷◌, ◌++◌, Bool, true, false, eqb, Option, Some, None, set, refl, ap, sym, ◌∙◌, subst, inl, inr, arith}
use Rattle.std.specs.Prelude.{sum_by, option_map}
use Rattle.std.proofs.lemmas.Bool.{eqb-true, eq-eqb, ne_eqb, cases_eq}
use Rattle.std.proofs.lemmas.Option.{none-some, same_Some}
use Rattle.std.proofs.lemmas.List.Sums.{sum_by-cons, sum_by_push, fold-append}
use mathlib.Core.Option.{some, some-injective, some-ne-none}
use lib.ListN.{get_elem?}
use Rattle.word_map.specs.declared.name.Name.{Name}
use Rattle.word_map.specs.declared.name.Name.TheVariants.{Lock}
use Rattle.core_state.specs.declared.view.Role.TheVariants.{Pass}
use Rattle.core_state.specs.declared.view.Mode.{Mode}
use Rattle.core_state.specs.declared.view.Mode.TheVariants.{Write}
use Rattle.core_state.specs.declared.view.LockStep.{LockStep}
use Rattle.core_state.specs.declared.view.LockStep.TheVariants.{Taken, Released}
use Rattle.core_state.specs.declared.view.View.{View}
use Rattle.core_state.specs.View.{number_of, mode_of, mode_after, IsPass, Holds, HoldsNot, blank_view}
use Rattle.core_state.specs.Core.{Core, word_of, IsViewAt}
use Rattle.core_state.specs.Kind.{Kind, Step, learned, found_by, left_by, view_after, after_step}
use Rattle.core_state.specs.Locking.{bit_of, take, taken_if, released, MayRelease, release}
use Rattle.core_state.specs.Seats.{after_split}
use Rattle.core_state.specs.Scope.{part_of, bare_view}
use Rattle.core_state.specs.LocksAgree.{LocksAgree, lock_scope, bit_in, bit_if}
use Rattle.core_state.proofs.Lookups.{at_set}
use Rattle.core_state.proofs.Guarding.{adds, lock-word, sum-kept, sum_one, sum_two, bit-some, Contains-kept}
use Rattle.core_state.proofs.Forming.{AfterSplit, is_left, is_right, is_other, at_split}
use Rattle.core_state.proofs.Steps.{word-step, word-step-other}
use Rattle.core_guard.proofs.Seats.{kept_at}

-- ---- what one view adds

-- what a view adds is by its number and how it holds the lock
adds-by : (lock number : ℕ) (view : View) (mode : Option Mode) → IsPass view number → mode_of view.locks lock ≡ mode → adds lock view ≡ bit_if (Some number) mode
adds-by lock number view mode pass holds = rw (pass, holds) refl

-- the sum changes by what one seat adds
sum-set : (h : View → ℕ) (xs : List View) (i : ℕ) (v w : View) → get_elem? xs i ≡ some v → sum_by h (set xs i w) + h v ≡ sum_by h xs + h w
sum-set h [] i v w at = absurd (some-ne-none v (sym at))
sum-set h (z ∷ xs) zero v w at =
    let same = ap h (some-injective z v at) in
    omega (arith, sum_by-cons h z xs, sum_by-cons h w xs)
sum-set h (z ∷ xs) (suc i) v w at =
    let rest = sum-set h xs i v w at in
    omega (arith, sum_by-cons h z xs, sum_by-cons h z (set xs i w))

-- ---- what a law of locks needs of the seats

-- the law over all seats: sums, and who writes is alone
pub record Agrees (core : Core) : Type 0 where
  pub words : (lock : ℕ) → word_of core (Lock lock) ≡ sum_by (adds lock) core.views
  pub alone : (seat number lock : ℕ) (view : View) → IsViewAt core seat view → IsPass view number → Holds view lock Write → word_of core (Lock lock) ≡ bit_of number Write

-- the view of a seat as the law sees it
masked : (view : View) (number : ℕ) → View
masked view number = record (bare_view number) { locks = view.locks }

pub Agrees-from : (core : Core) → LocksAgree core → Agrees core
unfolding masked
Agrees-from core agree = record {
  words = λ lock. lock-word core lock agree;
  alone = λ seat number lock view at pass holds.
      agree.alone number (masked view number)
      (Contains-kept (part_of lock_scope) (bit_in 0) core.views seat view (masked view number) at (rw pass refl)) refl lock holds;
}

-- a masked view tells the number and the locks
mask-parts : (view m : View) (o : Option ℕ) → number_of view ≡ o → option_map (λ n. masked view n) o ≡ Some m → (n : ℕ) × (number_of view ≡ Some n) × (masked view n ≡ m)
mask-parts view m None e h = absurd (none-some m h)
mask-parts view m (Some n) e h = (n, e, same_Some (masked view n) m h)

pub Agrees-to : (core : Core) → Agrees core → LocksAgree core
unfolding masked
Agrees-to core agree = record {
  holders = λ lock. agree.words lock ∙ sym (sum-kept (part_of lock_scope) (bit_in lock) core.views);
  alone = λ number m among pass lock holds.
      let t = kept_at (part_of lock_scope) core.views m among in
      let p = mask-parts t.1 m (number_of t.1) refl t.3 in
      let same : p.0 ≡ number = same_Some p.0 number (ap (λ (v : View). number_of v) p.2 ∙ pass) in
      let held : Holds t.1 lock Write = ap (λ (v : View). mode_of v.locks lock) p.2 ∙ holds in
      subst (λ (n : ℕ). word_of core (Lock lock) ≡ bit_of n Write) same (agree.alone t.0 p.0 lock t.1 t.2 p.1 held);
}

-- ---- a change of one lock by one view

pub record ChangesLock (before after : Core) (seat lock number : ℕ) (view w : View) : Type 0 where
  pub at : IsViewAt before seat view
  pub pass : IsPass view number
  pub kept : IsPass w number
  pub views : after.views ≡ set before.views seat w
  -- the others are as they were
  pub words : (other : ℕ) → other ≢ lock → word_of after (Lock other) ≡ word_of before (Lock other)
  pub modes : (other : ℕ) → other ≢ lock → mode_of w.locks other ≡ mode_of view.locks other
  -- and of this one the word changes as what the view adds does
  pub balance : word_of after (Lock lock) + adds lock view ≡ word_of before (Lock lock) + adds lock w
  -- and who writes is alone
  pub own : Holds w lock Write → word_of after (Lock lock) ≡ bit_of number Write
  pub others : (other q : ℕ) (u : View) → other ≢ seat → IsViewAt before other u → IsPass u q → Holds u lock Write → word_of after (Lock lock) ≡ bit_of q Write

module _ (before after : Core) (seat lock number : ℕ) (view w : View) (change : ChangesLock before after seat lock number view w) (agree : Agrees before) where
  sum-after : (l : ℕ) → sum_by (adds l) after.views + adds l view ≡ sum_by (adds l) before.views + adds l w
  sum-after l = ap (λ (vs : List View). sum_by (adds l) vs + adds l view) change.views ∙ sum-set (adds l) before.views seat view w change.at

  words-after : (l : ℕ) → word_of after (Lock l) ≡ sum_by (adds l) after.views
  words-after l =
      let old = agree.words l in
      let sum = sum-after l in
      elim (cases_eq l lock) [
        | inl same ↦
            let balance : word_of after (Lock l) + adds l view ≡ word_of before (Lock l) + adds l w =
            subst (λ (k : ℕ). word_of after (Lock k) + adds k view ≡ word_of before (Lock k) + adds k w) (sym same) change.balance
            in
            omega arith
        | inr other ↦
            let word = change.words l other in
            let adds_same : adds l w ≡ adds l view =
            adds-by l number w (mode_of view.locks l) change.kept (change.modes l other) ∙ sym (adds-by l number view (mode_of view.locks l) change.pass refl)
            in
            omega arith
      ]

  alone-after : (other q l : ℕ) (u : View) → IsViewAt after other u → IsPass u q → Holds u l Write → word_of after (Lock l) ≡ bit_of q Write
  alone-after other q l u at pass holds =
      elim (at_set before.views seat other w u (ap (λ (vs : List View). get_elem? vs other) (sym change.views) ∙ at)) [
        | inl t ↦
            let held : Holds w l Write = ap (λ (v : View). mode_of v.locks l) t.1 ∙ holds in
            let same : number ≡ q = same_Some number q (sym change.kept ∙ (ap (λ (v : View). number_of v) t.1 ∙ pass)) in
            elim (cases_eq l lock) [
              | inl here ↦
                  subst (λ (n : ℕ). word_of after (Lock l) ≡ bit_of n Write) same
                  (subst (λ (k : ℕ). word_of after (Lock k) ≡ bit_of number Write) (sym here) (change.own (subst (λ (k : ℕ). Holds w k Write) here held)))
              | inr apart ↦
                  change.words l apart ∙
                  subst (λ (n : ℕ). word_of before (Lock l) ≡ bit_of n Write) same (agree.alone seat number l view change.at change.pass (sym (change.modes l apart) ∙ held))
            ]
        | inr t ↦
            elim (cases_eq l lock) [
              | inl here ↦
                  subst (λ (k : ℕ). word_of after (Lock k) ≡ bit_of q Write) (sym here) (change.others other q u t.0 t.1 pass (subst (λ (k : ℕ). Holds u k Write) here holds))
              | inr apart ↦ change.words l apart ∙ agree.alone other q l u t.1 pass holds
            ]
      ]

  pub Agrees-changed : Agrees after
  Agrees-changed = record { words = words-after; alone = λ other q l u at pass holds. alone-after other q l u at pass holds }

-- ---- taking a lock

-- one step more on a lock
pub mode-push : (steps : List LockStep) (step : LockStep) (lock : ℕ) → mode_of (steps ++ step ∷ []) lock ≡ mode_after lock (mode_of steps lock) step
mode-push steps step lock = fold-append (mode_after lock) None steps (step ∷ [])

taken-here : (steps : List LockStep) (lock : ℕ) (mode : Mode) → mode_of (steps ++ Taken lock mode ∷ []) lock ≡ Some mode
taken-here steps lock mode = let test = eq-eqb lock lock refl in mode-push steps (Taken lock mode) lock ∙ (rw test refl)

taken-other : (steps : List LockStep) (lock other : ℕ) (mode : Mode) → other ≢ lock → mode_of (steps ++ Taken lock mode ∷ []) other ≡ mode_of steps other
taken-other steps lock other mode ne = let test = ne_eqb lock other (λ e. ne (sym e)) in mode-push steps (Taken lock mode) other ∙ (rw test refl)

released-here : (steps : List LockStep) (lock : ℕ) → mode_of (steps ++ Released lock ∷ []) lock ≡ None
released-here steps lock = let test = eq-eqb lock lock refl in mode-push steps (Released lock) lock ∙ (rw test refl)

released-other : (steps : List LockStep) (lock other : ℕ) → other ≢ lock → mode_of (steps ++ Released lock ∷ []) other ≡ mode_of steps other
released-other steps lock other ne = let test = ne_eqb lock other (λ e. ne (sym e)) in mode-push steps (Released lock) other ∙ (rw test refl)

-- the locks of a view where the word was the one expected, and where it was another
taken-locks : (view : View) (name : Name) (lock : ℕ) (mode : Mode) (found expected : ℕ) → name ≡ Lock lock → eqb found expected ≡ true
    → (taken_if view name mode found expected).locks ≡ view.locks ++ Taken lock mode ∷ []
taken-locks view name lock mode found expected names e =
    subst (λ (n : Name). (taken_if view n mode found expected).locks ≡ view.locks ++ Taken lock mode ∷ []) (sym names) (rw e refl)

missed-locks : (view : View) (name : Name) (lock : ℕ) (mode : Mode) (found expected : ℕ) → name ≡ Lock lock → eqb found expected ≡ false
    → (taken_if view name mode found expected).locks ≡ view.locks
missed-locks view name lock mode found expected names e =
    subst (λ (n : Name). (taken_if view n mode found expected).locks ≡ view.locks) (sym names) (rw e refl)

-- names of locks are apart as their numbers are
lock-apart : (a b : ℕ) → a ≢ b → Lock a ≢ Lock b
lock-apart a b ne same = ne (grind arith)

-- what a step on a lock leaves in the lock's word, and in the others
word-lock : (kind : Kind) (core : Core) (step : Step) (lock : ℕ) → step.name ≡ Lock lock → word_of (after_step kind core step) (Lock lock) ≡ left_by kind core step
word-lock kind core step lock names = ap (word_of (after_step kind core step)) (sym names) ∙ word-step kind core step

word-lock-other : (kind : Kind) (core : Core) (step : Step) (lock other : ℕ) → step.name ≡ Lock lock → other ≢ lock → word_of (after_step kind core step) (Lock other) ≡ word_of core (Lock other)
word-lock-other kind core step lock other names ne = word-step-other kind core step (Lock other) (λ same. lock-apart other lock ne (same ∙ names))

found-lock : (core : Core) (step : Step) (lock : ℕ) → step.name ≡ Lock lock → found_by core step ≡ word_of core (Lock lock)
found-lock core step lock names = ap (word_of core) names

-- what taking a lock needs, either way
pub record Takes (mode : Mode) (step : Step) (lock number : ℕ) : Type 0 where
  pub names : step.name ≡ Lock lock
  pub pass : IsPass step.view number
  pub free : HoldsNot step.view lock
  pub adds : step.second ≡ step.first + bit_of number mode
  pub no_writer : (q : ℕ) → step.first ≢ bit_of q Write
  pub alone : mode ≡ Write → step.first ≡ 0

module _ (mode : Mode) (core : Core) (step : Step) (lock number : ℕ) (at : IsViewAt core step.seat step.view) (takes : Takes mode step lock number) (agree : Agrees core) where
  taken-changes : eqb (found_by core step) step.first ≡ true → ChangesLock core (after_step (take mode) core step) step.seat lock number step.view (view_after (take mode) core step)
  taken-changes e =
      let w = view_after (take mode) core step in
      let locks : w.locks ≡ step.view.locks ++ Taken lock mode ∷ [] = taken-locks (learned core step) step.name lock mode (found_by core step) step.first takes.names e in
      let holds : Holds w lock mode = ap (λ (l : List LockStep). mode_of l lock) locks ∙ taken-here step.view.locks lock mode in
      let found = found-lock core step lock takes.names in
      let same = eqb-true (found_by core step) step.first e in
      let left : left_by (take mode) core step ≡ step.second = rw e refl in
      let word = word-lock (take mode) core step lock takes.names in
      let second = takes.adds in
      let before = adds-by lock number step.view None takes.pass takes.free in
      let later = adds-by lock number w (Some mode) takes.pass holds in
      record {
        at = at;
        pass = takes.pass;
        kept = takes.pass;
        views = refl;
        words = λ other ne. word-lock-other (take mode) core step lock other takes.names ne;
        modes = λ other ne. ap (λ (l : List LockStep). mode_of l other) locks ∙ taken-other step.view.locks lock other mode ne;
        balance = omega arith;
        own = λ writes.
            let is_write : mode ≡ Write = same_Some mode Write (sym holds ∙ writes) in
            let none = takes.alone is_write in
            let bit : bit_of number mode ≡ bit_of number Write = ap (bit_of number) is_write in
            omega arith;
        others = λ other q u ne at_other pass held.
            absurd (takes.no_writer q (sym same ∙ (found ∙ agree.alone other q lock u at_other pass held)));
      }

  missed-changes : eqb (found_by core step) step.first ≡ false → ChangesLock core (after_step (take mode) core step) step.seat lock number step.view (view_after (take mode) core step)
  missed-changes e =
      let w = view_after (take mode) core step in
      let locks : w.locks ≡ step.view.locks = missed-locks (learned core step) step.name lock mode (found_by core step) step.first takes.names e in
      let none : mode_of w.locks lock ≡ None = ap (λ (l : List LockStep). mode_of l lock) locks ∙ takes.free in
      let found = found-lock core step lock takes.names in
      let left : left_by (take mode) core step ≡ found_by core step = rw e refl in
      let word = word-lock (take mode) core step lock takes.names in
      let before = adds-by lock number step.view None takes.pass takes.free in
      let later = adds-by lock number w None takes.pass none in
      record {
        at = at;
        pass = takes.pass;
        kept = takes.pass;
        views = refl;
        words = λ other ne. word-lock-other (take mode) core step lock other takes.names ne;
        modes = λ other ne. ap (λ (l : List LockStep). mode_of l other) locks;
        balance = omega arith;
        own = λ writes. absurd (none-some Write (sym none ∙ writes));
        others = λ other q u ne at_other pass held. word ∙ (left ∙ (found ∙ agree.alone other q lock u at_other pass held));
      }

  pub Agrees-take : Agrees (after_step (take mode) core step)
  Agrees-take = go (eqb (found_by core step) step.first) refl
    where
      go : (test : Bool) → eqb (found_by core step) step.first ≡ test → Agrees (after_step (take mode) core step)
      go true e = Agrees-changed core (after_step (take mode) core step) step.seat lock number step.view (view_after (take mode) core step) (taken-changes e) agree
      go false e = Agrees-changed core (after_step (take mode) core step) step.seat lock number step.view (view_after (take mode) core step) (missed-changes e) agree

-- ---- letting a lock go

released-locks : (view : View) (name : Name) (lock : ℕ) → name ≡ Lock lock → (released view name).locks ≡ view.locks ++ Released lock ∷ []
released-locks view name lock names = subst (λ (n : Name). (released view n).locks ≡ view.locks ++ Released lock ∷ []) (sym names) refl

module _ (core : Core) (step : Step) (at : IsViewAt core step.seat step.view) (fits : found_by core step < 2 ^ 64) (asked : MayRelease step.view step.name step.first step.second) (agree : Agrees core) where
  release-changes : ChangesLock core (after_step release core step) step.seat asked.lock asked.number step.view (view_after release core step)
  release-changes =
      let lock = asked.lock in
      let number = asked.number in
      let w = view_after release core step in
      let locks : w.locks ≡ step.view.locks ++ Released lock ∷ [] = released-locks (learned core step) step.name lock asked.names in
      let none : mode_of w.locks lock ≡ None = ap (λ (l : List LockStep). mode_of l lock) locks ∙ released-here step.view.locks lock in
      let found = found-lock core step lock asked.names in
      let word = word-lock release core step lock asked.names in
      let before = adds-by lock number step.view (Some asked.mode) asked.pass asked.holds in
      let later = adds-by lock number w None asked.pass none in
      let own = sum_one (adds lock) core.views step.seat step.view at in
      let sum = agree.words lock in
      let some = bit-some number asked.mode in
      let summand = asked.takes_away in
      record {
        at = at;
        pass = asked.pass;
        kept = asked.pass;
        views = refl;
        words = λ other ne. word-lock-other release core step lock other asked.names ne;
        modes = λ other ne. ap (λ (l : List LockStep). mode_of l other) locks ∙ released-other step.view.locks lock other ne;
        balance = omega arith;
        own = λ writes. absurd (none-some Write (sym none ∙ writes));
        others = λ other q u ne at_other pass held.
            let alone = agree.alone other q lock u at_other pass held in
            let more = adds-by lock q u (Some Write) pass held in
            let both = sum_two (adds lock) core.views step.seat other step.view u (λ e. ne (sym e)) at at_other in
            absurd (omega arith);
      }

  pub Agrees-release : Agrees (after_step release core step)
  Agrees-release = Agrees-changed core (after_step release core step) step.seat asked.lock asked.number step.view (view_after release core step) release-changes agree

-- ---- opening a pass

module _ (core : Core) (seat number further : ℕ) (at : IsViewAt core seat (blank_view core.config (Pass number (suc further)))) (agree : Agrees core) where
  abbrev left : View
  left = blank_view core.config (Pass number 0)

  abbrev right : View
  right = blank_view core.config (Pass (suc number) further)

  open-words : (lock : ℕ) → word_of core (Lock lock) ≡ sum_by (adds lock) (set core.views seat left ++ right ∷ [])
  open-words lock =
      let word = agree.words lock in
      let sum = sum-set (adds lock) core.views seat (blank_view core.config (Pass number (suc further))) left at in
      let push = sum_by_push (adds lock) (set core.views seat left) right in
      let old : adds lock (blank_view core.config (Pass number (suc further))) ≡ 0 = refl in
      let cut : adds lock left ≡ 0 = refl in
      let new : adds lock right ≡ 0 = refl in
      omega arith

  open-alone : (other q lock : ℕ) (u : View) → AfterSplit core seat left right other u → IsPass u q → Holds u lock Write → word_of core (Lock lock) ≡ bit_of q Write
  open-alone other q lock u (is_left p e) pass holds = absurd (none-some Write (ap (λ (v : View). mode_of v.locks lock) e ∙ holds))
  open-alone other q lock u (is_right p e) pass holds = absurd (none-some Write (ap (λ (v : View). mode_of v.locks lock) e ∙ holds))
  open-alone other q lock u (is_other p old) pass holds = agree.alone other q lock u old pass holds

  pub Agrees-opened : Agrees (after_split core seat left right)
  Agrees-opened = record { words = open-words; alone = λ other q lock u at_other pass holds. open-alone other q lock u (at_split core seat left right other u at_other) pass holds }
