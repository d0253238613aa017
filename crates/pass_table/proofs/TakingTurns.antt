-- How taking a lock by turns begins, goes on and ends.
use Rattle.std.proofs.Common.{ℕ, Option, Some, None, IfSome, refl, ap, sym, ◌∙◌, subst}
use Rattle.word_map.specs.declared.config.Config.{Config}
use Rattle.word_map.specs.declared.name.Name.TheVariants.{Lock}
use Rattle.word_map.specs.Names.{IsName}
use Rattle.core_state.specs.declared.view.Mode.{Mode}
use Rattle.core_state.specs.declared.view.View.{View}
use Rattle.core_state.specs.View.{HoldsNot, mode_of}
use Rattle.core_state.specs.Quietly.{KnowsQuietly}
use Rattle.core_state.proofs.Quiet.{KnowsQuietly-refl, KnowsQuietly-trans}
use Rattle.pass_table.specs.Trying.{Excludes, Leaves, with_taken}
use Rattle.pass_table.specs.Turning.{HasLoaded, LoadsNow}
use Rattle.pass_table.specs.TakeTurns.{taking_of, LoadedNone, IsTaking, HasTaken}
use Rattle.pass_table.specs.Knowing.{StoresAlone, alone-refl, alone-trans}
use Rattle.pass_table.specs.declared.take_op.TakeOp.{TakeOp}
use Rattle.pass_table.proofs.Trying.{Waited-refl, Waited-more, Waited-taken}

pub taking-begun : (lock : ℕ) (mode : Mode) (view : View) → IsName view.config (Lock lock) → HoldsNot view lock → IsTaking (taking_of lock mode) view (taking_of lock mode) view
taking-begun lock mode view named free =
    record { lock = refl; mode = refl; named = named; free = free; open_to = tt; waited = Waited-refl view; quiet = KnowsQuietly-refl view; alone = alone-refl view (Lock lock) }

-- one turn more stores no other word either
alone-on : (first : TakeOp) (start : View) (operation : TakeOp) (view next : View) → StoresAlone view next (Lock operation.lock) → IsTaking first start operation view → StoresAlone start next (Lock first.lock)
alone-on first start operation view next alone taking =
    alone-trans start view next (Lock first.lock) (ap (λ (v : View). v.role) taking.waited.rest) taking.alone
    (subst (λ (l : ℕ). StoresAlone view next (Lock l)) taking.lock alone)

-- a turn that takes nothing, and after which this word is loaded or none
pub taking-on : (first : TakeOp) (start : View) (operation : TakeOp) (view next : View) (loaded : Option ℕ) → Leaves view next view.locks → KnowsQuietly view next → StoresAlone view next (Lock operation.lock)
    → IfSome loaded (λ word. ¬ Excludes operation.mode word) → IsTaking first start operation view → IsTaking first start (record operation { loaded = loaded }) next
taking-on first start operation view next loaded left quiet alone open_to taking = record {
  lock = taking.lock;
  mode = taking.mode;
  named = subst (λ (c : Config). IsName c (Lock operation.lock)) (sym (ap (λ (v : View). v.config) left.rest)) taking.named;
  free = ap (λ (v : View). mode_of v.locks operation.lock) left.rest ∙ taking.free;
  open_to = open_to;
  waited = Waited-more start view next taking.waited left;
  quiet = KnowsQuietly-trans start view next taking.waited.rest taking.quiet quiet;
  alone = alone-on first start operation view next alone taking;
}

-- the turn that takes the lock
pub taking-done : (first : TakeOp) (start : View) (operation : TakeOp) (view next : View) → Leaves view next (with_taken view operation.lock operation.mode) → KnowsQuietly view next → StoresAlone view next (Lock operation.lock)
    → IsTaking first start operation view → HasTaken first start next
taking-done first start operation view next left quiet alone taking = record {
  left =
      Waited-taken start view next first.lock first.mode taking.waited
      (subst (λ (m : Mode). Leaves view next (with_taken view first.lock m)) taking.mode (subst (λ (l : ℕ). Leaves view next (with_taken view l operation.mode)) taking.lock left));
  quiet = KnowsQuietly-trans start view next taking.waited.rest taking.quiet quiet;
  alone = alone-on first start operation view next alone taking;
}

-- it might as well be begun now
pub taking-anew : (first : TakeOp) (start : View) (operation : TakeOp) (view : View) → IsTaking first start operation view → IsTaking (taking_of first.lock first.mode) view operation view
taking-anew first start operation view taking = record {
  lock = taking.lock;
  mode = taking.mode;
  named = taking.named;
  free = taking.free;
  open_to = taking.open_to;
  waited = Waited-refl view;
  quiet = KnowsQuietly-refl view;
  alone = alone-refl view (Lock first.lock);
}

-- where no word was loaded of a lock, none is old
pub loads-none : (view next : View) (takes : Option TakeOp) → LoadedNone takes → LoadsNow view next takes
loads-none view next None none = tt
loads-none view next (Some taking) none = subst (λ (o : Option ℕ). IfSome o (HasLoaded view next taking.lock)) (sym none) tt
