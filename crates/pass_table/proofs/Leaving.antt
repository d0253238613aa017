-- What a step leaves of the view of its pass.
use Rattle.std.proofs.lemmas.Bool.{eq-eqb, ne_eqb}
use Rattle.std.proofs.Common.{◌≡◌, ◌≢◌, cond, ℕ, ◌<◌, ◌^◌, ◌-◌, List, [], ◌∷◌, ◌++◌, Some, None, Option, Bool, true, false, eqb, refl, ap, sym, ◌∙◌, subst, arith}
use Rattle.atomic_table.specs.Table.{Me}
use Rattle.atomic_table.specs.Seated.{TableId}
use Rattle.word_map.specs.declared.config.Config.{Config}
use Rattle.word_map.specs.declared.name.Name.{Name}
use Rattle.word_map.specs.declared.name.Name.TheVariants.{Lock}
use Rattle.word_map.specs.Limits.{IsConfig}
use Rattle.word_map.specs.Names.{IsName}
use Rattle.word_map.specs.Layout.{word_count, name_of}
use Rattle.word_map.proofs.Stripes.{stripes-range}
use Rattle.core_state.specs.declared.view.Mode.{Mode}
use Rattle.core_state.specs.declared.view.Mode.TheVariants.{Read, Write}
use Rattle.core_state.specs.declared.view.LockStep.{LockStep}
use Rattle.core_state.specs.declared.view.LockStep.TheVariants.{Taken, Released}
use Rattle.core_state.specs.declared.view.Task.TheVariants.{Nothing}
use Rattle.core_state.specs.declared.view.View.{View}
use Rattle.core_state.specs.View.{IsPass, number_of, Holds}
use Rattle.core_state.specs.Locking.{bit_of, take, MayRelease, release}
use Rattle.core_state.specs.Kind.{Kind, Asking, found_by, view_after}
use Rattle.pass_table.specs.Stepping.{step_by, Stepped, MayStep}
use Rattle.pass_table.specs.declared.lock_set.LockSet.{LockSet}
use Rattle.pass_table.specs.declared.pass.Pass.{Pass}
use Rattle.pass_table.specs.declared.world.World.{World}
use Rattle.pass_table.specs.Passes.{view_of, IsOf}
use Rattle.pass_table.specs.LockSets.{bit_in, IsChanged}
use Rattle.pass_table.specs.Holding.{mode_by, AreHeld, IsStill, TurnsWalk}
use Rattle.core_guard.proofs.LockWords.{mode-push}

-- what a step at the place of a name asks
pub may-step : {S : Type 0} (asks : Asking) (key c : Config) (table : TableId) (me : Me S View) (place first second number : ℕ) (name : Name)
    → key ≡ c → table.words ≡ word_count c → me.0.config ≡ c → place < word_count c → name_of c place ≡ name → IsPass me.0 number → first < 2 ^ 64 → second < 2 ^ 64
    → asks me.0 name first second → MayStep asks key table me place first second
may-step asks key c table me place first second number name same words sizes below named pass first_fits second_fits asked =
    subst (λ (d : Config). MayStep asks d table me place first second) (sym same)
    (record {
      words = words;
      sizes = sizes;
      below = below;
      number = number;
      pass = pass;
      first_fits = first_fits;
      second_fits = second_fits;
      asked = subst (λ (n : Name). asks me.0 n first second) (sym named) asked;
    })

-- a step at the place of a name is one on the name
pub stepped-named : (asks : Asking) (kind same : Kind) (view next : View) (key c : Config) (place first second found : ℕ) (name : Name) → key ≡ c → name_of c place ≡ name → kind ≡ same
    → Stepped asks kind view (name_of key place) first second found next → Stepped asks same view name first second found next
stepped-named asks kind same view next key c place first second found name keyed named kinds stepped =
    subst (λ (k : Kind). Stepped asks k view name first second found next) kinds
    (subst (λ (n : Name). Stepped asks kind view n first second found next) (ap (λ (d : Config). name_of d place) keyed ∙ named) stepped)

-- so many locks at the most has a world
pub lock-below : (c : Config) (lock : ℕ) → IsConfig c → IsName c (Lock lock) → lock < 66
lock-below c lock limits named = let range = stripes-range c.stripes limits.stripes in omega arith

-- ---- how the locks are held

-- the bit of a lock that was taken so, in the set of those last taken to write
abbrev pub written_bit : Mode → ℕ
written_bit Read = 0
written_bit Write = 1

mode-taken : (t : Bool) (mode : Mode) (held written : ℕ) → mode_by (cond t 1 held) (cond t (written_bit mode) written) ≡ cond t (Some mode) (mode_by held written)
mode-taken true Read held written = refl
mode-taken true Write held written = refl
mode-taken false mode held written = refl

abbrev no_mode : Option Mode
no_mode = None

mode-released : (t : Bool) (held written : ℕ) → mode_by (cond t 0 held) written ≡ cond t no_mode (mode_by held written)
mode-released true held written = refl
mode-released false held written = refl

-- one lock more
held-taken : (held written more last : LockSet) (steps : List LockStep) (lock : ℕ) (mode : Mode) → IsChanged held lock 1 more → IsChanged written lock (written_bit mode) last
    → AreHeld held written steps → AreHeld more last (steps ++ Taken lock mode ∷ [])
held-taken held written more last steps lock mode put noted are = λ other.
    (λ i. mode_by (put other i) (noted other i)) ∙
    (mode-taken (eqb lock other) mode (bit_in held other) (bit_in written other) ∙
    (ap (λ (o : Option Mode). cond (eqb lock other) (Some mode) o) (are other) ∙ sym (mode-push steps (Taken lock mode) other)))

-- one lock less
held-released : (held written less : LockSet) (steps : List LockStep) (lock : ℕ) → IsChanged held lock 0 less → AreHeld held written steps
    → AreHeld less written (steps ++ Released lock ∷ [])
held-released held written less steps lock gone are = λ other.
    ap (λ (h : ℕ). mode_by h (bit_in written other)) (gone other) ∙
    (mode-released (eqb lock other) (bit_in held other) (bit_in written other) ∙
    (ap (λ (o : Option Mode). cond (eqb lock other) no_mode o) (are other) ∙ sym (mode-push steps (Released lock) other)))

-- ---- what is left of a view

module _ (asks : Asking) (kind : Kind) (view : View) (name : Name) (first second found : ℕ) (next : View) (stepped : Stepped asks kind view name first second found next) where
  -- the pass has its number, and its world its sizes
  pub number-left : (number : ℕ) → IsPass view number → IsPass next number
  number-left number pass = ap (λ (v : View). number_of v) stepped.leaves ∙ pass

  pub sizes-left : next.config ≡ view.config
  sizes-left = ap (λ (v : View). v.config) stepped.leaves

  pub turned-held : {walks : Bool} → TurnsWalk kind walks → (held written : LockSet) → AreHeld held written view.locks → AreHeld held written next.locks
  turned-held turns held written are = subst (AreHeld held written) (sym (ap (λ (v : View). v.locks) stepped.leaves ∙ (turns _ name _ first second).0)) are

  pub turned-walk : (walks : Bool) → TurnsWalk kind walks → next.walk.is_on ≡ walks
  turned-walk walks turns = ap (λ (v : View). v.walk.is_on) stepped.leaves ∙ (turns _ name _ first second).1

  pub still-held : IsStill kind → (held written : LockSet) → AreHeld held written view.locks → AreHeld held written next.locks
  still-held still held written are = subst (AreHeld held written) (sym (ap (λ (v : View). v.locks) stepped.leaves ∙ (still _ name _ first second).0)) are

  pub walk-left : IsStill kind → next.walk.is_on ≡ view.walk.is_on
  walk-left still = ap (λ (v : View). v.walk.is_on) stepped.leaves ∙ (still _ name _ first second).1

-- the pass stays one of its world
pub of-left : (asks : Asking) (kind : Kind) (world : World) (pass next : Pass) (name : Name) (first second found : ℕ) → Stepped asks kind (view_of pass) name first second found (view_of next)
    → next.seat.table_id ≡ pass.seat.table_id → IsOf world pass → IsOf world next
of-left asks kind world pass next name first second found stepped same of =
    record { table = same ∙ of.table; sizes = sizes-left asks kind (view_of pass) name first second found (view_of next) stepped ∙ of.sizes }

-- an exchange that found the word that it expected took the lock, and another left the locks as they were
module _ (asks : Asking) (mode : Mode) (view next : View) (lock expected new found : ℕ) (stepped : Stepped asks (take mode) view (Lock lock) expected new found next) where
  left-locks : (test : Bool) → eqb found expected ≡ test → next.locks ≡ cond test (view.locks ++ Taken lock mode ∷ []) view.locks
  left-locks test e = ap (λ (v : View). v.locks) stepped.leaves ∙ go test (ap (λ (n : ℕ). eqb n expected) (sym stepped.finds) ∙ e)
    where
      go : (t : Bool) → eqb (found_by stepped.before (step_by stepped.seat view stepped.number (Lock lock) expected new)) expected ≡ t
          → (view_after (take mode) stepped.before (step_by stepped.seat view stepped.number (Lock lock) expected new)).locks ≡ cond t (view.locks ++ Taken lock mode ∷ []) view.locks
      go true f = rw f refl
      go false f = rw f refl

  left-walk : next.walk.is_on ≡ view.walk.is_on
  left-walk = ap (λ (v : View). v.walk.is_on) stepped.leaves ∙ go (eqb (found_by stepped.before (step_by stepped.seat view stepped.number (Lock lock) expected new)) expected) refl
    where
      go : (t : Bool) → eqb (found_by stepped.before (step_by stepped.seat view stepped.number (Lock lock) expected new)) expected ≡ t
          → (view_after (take mode) stepped.before (step_by stepped.seat view stepped.number (Lock lock) expected new)).walk.is_on ≡ view.walk.is_on
      go true f = rw f refl
      go false f = rw f refl

  pub took-locks : found ≡ expected → next.locks ≡ view.locks ++ Taken lock mode ∷ []
  took-locks same = left-locks true (eq-eqb found expected same)

  pub missed-locks : found ≢ expected → next.locks ≡ view.locks
  missed-locks other = left-locks false (ne_eqb found expected other)

  pub took-walk : next.walk.is_on ≡ view.walk.is_on
  took-walk = left-walk

  pub held-took : (held written more last : LockSet) → found ≡ expected → IsChanged held lock 1 more → IsChanged written lock (written_bit mode) last
      → AreHeld held written view.locks → AreHeld more last next.locks
  held-took held written more last same put noted are =
      subst (AreHeld more last) (sym (took-locks same)) (held-taken held written more last view.locks lock mode put noted are)

-- a release lets the lock go
module _ (asks : Asking) (view next : View) (lock summand second found : ℕ) (stepped : Stepped asks release view (Lock lock) summand second found next) where
  pub held-let_go : (held written less : LockSet) → IsChanged held lock 0 less → AreHeld held written view.locks → AreHeld less written next.locks
  held-let_go held written less gone are =
      subst (AreHeld less written) (sym (ap (λ (v : View). v.locks) stepped.leaves)) (held-released held written less view.locks lock gone are)

  pub let_go-walk : next.walk.is_on ≡ view.walk.is_on
  let_go-walk = ap (λ (v : View). v.walk.is_on) stepped.leaves

-- what letting a lock go asks of the core
pub may-release : (view : View) (lock number summand : ℕ) (mode : Mode) → IsPass view number → Holds view lock mode → view.call.task ≡ Nothing → summand ≡ 2 ^ 64 - bit_of number mode
    → MayRelease view (Lock lock) summand 0
may-release view lock number summand mode pass holds done away = record { lock = lock; number = number; mode = mode; names = refl; pass = pass; holds = holds; done = done; takes_away = away }
