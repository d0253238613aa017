-- What the steps of a try tell together.
use Rattle.std.specs.Prelude.{Result, MatchResult}
use Rattle.std.proofs.Common.{Ok, Err, ◌≡◌, ◌≢◌, ℕ, ◌+◌, ◌^◌, ◌<◌, List, ◌++◌, Bool, true, false, eqb, cond, None, append_assoc, refl, ap, sym, ◌∙◌, subst}
use Rattle.std.proofs.lemmas.Bool.{eq-eqb, ne_eqb}
use Rattle.word_map.specs.declared.name.Name.{Name}
use Rattle.word_map.specs.declared.name.Name.TheVariants.{Lock}
use Rattle.core_state.specs.declared.item.Item.{Item}
use Rattle.core_state.specs.declared.view.Mode.{Mode}
use Rattle.core_state.specs.declared.view.LockStep.{LockStep}
use Rattle.core_state.specs.declared.view.View.{View}
use Rattle.core_state.specs.Log.{word}
use Rattle.core_state.specs.Locking.{bit_of, take, MayRead, MayWrite}
use Rattle.core_state.specs.View.{IsPass, HoldsNot, mode_of}
use Rattle.core_state.proofs.Forming.{unspent_pass}
use Rattle.word_map.specs.declared.config.Config.{Config}
use Rattle.core_state.specs.declared.view.Mode.TheVariants.{Read, Write}
use Rattle.core_state.specs.Operation.{stores}
use Rattle.core_state.specs.Kind.{Kind, Asking, Step, found_by, gained_by, log_after, view_after}
use Rattle.core_state.proofs.Prefixes.{IsPrefix-refl, IsPrefix-trans}
use Rattle.pass_table.specs.Stepping.{step_by, Stepped}
use Rattle.pass_table.specs.Trying.{Leaves, HadWord, with_taken, MayTake, Exchanged, Waited}
use Rattle.pass_table.proofs.Knowing.{IsPlain, known-more, knows-more}

module _ (asks : Asking) (kind : Kind) (view next : View) (name : Name) (first second found : ℕ) (stepped : Stepped asks kind view name first second found next) where
  abbrev made : Step
  made = step_by stepped.seat view stepped.number name first second

  -- the word found is that of a log between what was known and what is known
  pub had-found : HadWord view next name found
  had-found = record {
    since = stepped.since;
    later = gained_by kind stepped.before made;
    parts = ap (λ (v : View). v.known) stepped.leaves ∙ ap (λ (l : List Item). l ++ gained_by kind stepped.before made) stepped.learns;
    had =
        ap (λ (l : List Item). word view.config l name) (sym stepped.learns) ∙
        (ap (λ c. word c stepped.before.log name) (sizes ∙ refl) ∙ sym stepped.finds);
  }
    where
      sizes : view.config ≡ stepped.before.config
      sizes =
          (stepped.stands.formed.views stepped.seat view stepped.allowed.at (unspent_pass view.role stepped.number stepped.allowed.pass)).config

  -- a kind that leaves the view as it was leaves the locks
  pub leaves-plain : IsPlain kind → ((word operand : ℕ) → stores kind.operation word operand ≡ false) → Leaves view next view.locks
  leaves-plain plain loads = let more = knows-more asks kind view next name first second found stepped plain loads in record { known = (more.since, more.known); rest = more.rest }

-- an exchange leaves the lock taken where it found the word expected, and else leaves the locks
module _ (asks : Asking) (mode : Mode) (view next : View) (lock expected new found : ℕ) (stepped : Stepped asks (take mode) view (Lock lock) expected new found next) where
  abbrev exchanged : Step
  exchanged = step_by stepped.seat view stepped.number (Lock lock) expected new

  left-by : (t : Bool) → eqb (found_by stepped.before exchanged) expected ≡ t → view_after (take mode) stepped.before exchanged ≡
      record view { known = log_after (take mode) stepped.before exchanged; joined = None; locks = cond t (with_taken view lock mode) view.locks }
  left-by true f = rw f refl
  left-by false f = rw f refl

  leaves-exchange : (t : Bool) → eqb found expected ≡ t → Leaves view next (cond t (with_taken view lock mode) view.locks)
  leaves-exchange t e =
      let known : next.known ≡ log_after (take mode) stepped.before exchanged = ap (λ (v : View). v.known) stepped.leaves in
      let locks = cond t (with_taken view lock mode) view.locks in
      record {
        known = known-more asks (take mode) view next (Lock lock) expected new found stepped;
        rest =
            stepped.leaves ∙
            (left-by t (ap (λ (n : ℕ). eqb n expected) (sym stepped.finds) ∙ e) ∙
            ap (λ (l : List Item). record view { known = l; joined = None; locks = locks }) (sym known));
      }

  pub leaves-taken : found ≡ expected → Leaves view next (with_taken view lock mode)
  leaves-taken same = leaves-exchange true (eq-eqb found expected same)

  pub leaves-missed : found ≢ expected → Leaves view next view.locks
  leaves-missed other = leaves-exchange false (ne_eqb found expected other)

-- ---- one call after another

pub Leaves-trans : (f : List LockStep → List LockStep) (view mid next : View) → Leaves view mid view.locks → Leaves mid next (f mid.locks) → Leaves view next (f view.locks)
Leaves-trans f view mid next one two = record {
  known = IsPrefix-trans view.known mid.known next.known one.known two.known;
  rest = two.rest ∙ ap (λ (v : View). record v { known = next.known; joined = None; locks = f v.locks }) one.rest;
}

pub HadWord-later : (view mid next : View) (name : Name) (value : ℕ) (locks : List LockStep) → HadWord view mid name value → Leaves mid next locks → HadWord view next name value
HadWord-later view mid next name value locks had left = record {
  since = had.since;
  later = had.later ++ left.known.0;
  parts =
      left.known.1 ∙ (ap (λ (l : List Item). l ++ left.known.0) had.parts ∙ append_assoc (view.known ++ had.since) had.later left.known.0);
  had = had.had;
}

pub HadWord-earlier : (view mid next : View) (name : Name) (value : ℕ) (locks : List LockStep) → Leaves view mid locks → HadWord mid next name value → HadWord view next name value
HadWord-earlier view mid next name value locks left had =
    let since = left.known.0 ++ had.since in
    let known : mid.known ++ had.since ≡ view.known ++ since =
    ap (λ (l : List Item). l ++ had.since) left.known.1 ∙ append_assoc view.known left.known.0 had.since
    in
    record {
      since = since;
      later = had.later;
      parts = had.parts ∙ ap (λ (l : List Item). l ++ had.later) known;
      had = subst (λ (l : List Item). word view.config l name ≡ value) known (subst (λ (c : Config). word c (mid.known ++ had.since) name ≡ value) (ap (λ (v : View). v.config) left.rest) had.had);
    }

-- ---- what the core asks

pub may-read : (view : View) (lock number word bit : ℕ) → IsPass view number → HoldsNot view lock → word < 2 ^ 32 → bit ≡ bit_of number Read → MayRead view (Lock lock) word (word + bit)
may-read view lock number word bit pass free low same =
    record { lock = lock; number = number; names = refl; pass = pass; free = free; no_writer = low; adds = ap (λ (n : ℕ). word + n) same }

pub may-write : (view : View) (lock number word bit : ℕ) → IsPass view number → HoldsNot view lock → word ≡ 0 → bit ≡ bit_of number Write → MayWrite view (Lock lock) word bit
may-write view lock number word bit pass free none same =
    record { lock = lock; number = number; names = refl; pass = pass; free = free; unheld = none; adds = same }

pub still-free : (view mid : View) (lock : ℕ) → Leaves view mid view.locks → HoldsNot view lock → HoldsNot mid lock
still-free view mid lock left free = ap (λ (v : View). mode_of v.locks lock) left.rest ∙ free

-- what an exchange tells of the view: the lock was taken, or another word was found
pub exchanged-by : (asks : Asking) (mode : Mode) (view next : View) (lock word put : ℕ) (r : Result (Unit {0}) ℕ)
    → MatchResult r (λ _. Stepped asks (take mode) view (Lock lock) word put word next) (λ found. (found ≢ word) × Stepped asks (take mode) view (Lock lock) word put found next)
    → MatchResult r (λ _. Leaves view next (with_taken view lock mode)) (λ found. (word ≢ found) × Leaves view next view.locks × HadWord view next (Lock lock) found)
exchanged-by asks mode view next lock word put (Ok done) h = leaves-taken asks mode view next lock word put word h refl
exchanged-by asks mode view next lock word put (Err found) h =
    ((λ e. h.0 (sym e)), leaves-missed asks mode view next lock word put found h.1 h.0, had-found asks (take mode) view next (Lock lock) word put found h.1)

-- and with the step itself
pub exchanged-lock : (mode : Mode) (view next : View) (lock word put : ℕ) (r : Result (Unit {0}) ℕ)
    → MatchResult r (λ _. Stepped (MayTake mode) (take mode) view (Lock lock) word put word next) (λ found. (found ≢ word) × Stepped (MayTake mode) (take mode) view (Lock lock) word put found next)
    → Exchanged view next lock mode word r
exchanged-lock mode view next lock word put (Ok done) h = record { exchange = record { put = put; step = h }; left = exchanged-by (MayTake mode) mode view next lock word put (Ok done) h }
exchanged-lock mode view next lock word put (Err found) h =
    let told = exchanged-by (MayTake mode) mode view next lock word put (Err found) h in
    record { exchange = record { put = put; step = h.1 }; changed = told.0; left = told.1; had = told.2 }

-- ---- tries one after another

pub Waited-refl : (view : View) → Waited view view
Waited-refl view = record { known = IsPrefix-refl view.known; rest = refl }

pub Waited-more : (view mid next : View) → Waited view mid → Leaves mid next mid.locks → Waited view next
Waited-more view mid next waited left = record {
  known = IsPrefix-trans view.known mid.known next.known waited.known left.known;
  rest =
      left.rest ∙
      (ap (λ (v : View). record v { known = next.known; joined = None }) waited.rest ∙
      (λ i. record view { known = next.known; joined = sym (ap (λ (v : View). v.joined) left.rest) i }));
}

pub Waited-taken : (view mid next : View) (lock : ℕ) (mode : Mode) → Waited view mid → Leaves mid next (with_taken mid lock mode) → Leaves view next (with_taken view lock mode)
Waited-taken view mid next lock mode waited left = record {
  known = IsPrefix-trans view.known mid.known next.known waited.known left.known;
  rest = left.rest ∙ ap (λ (v : View). record v { known = next.known; joined = None; locks = with_taken v lock mode }) waited.rest;
}
