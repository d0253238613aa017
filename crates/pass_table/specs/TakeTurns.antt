-- Taking a lock by turns: a load, then an exchange.
use Rattle.std.specs.Prelude.{◌≡◌, ℕ, List, ◌++◌, Option, Some, None, IfSome}
use Rattle.std.proofs.Common.{ap, sym, ◌∙◌, append_assoc, subst}
use Rattle.word_map.specs.declared.config.Config.{Config}
use Rattle.word_map.specs.declared.name.Name.TheVariants.{Lock}
use Rattle.word_map.specs.Names.{IsName}
use Rattle.core_state.specs.declared.item.Item.{Item}
use Rattle.core_state.specs.declared.view.Mode.{Mode}
use Rattle.core_state.specs.declared.view.View.{View}
use Rattle.core_state.specs.View.{HoldsNot, mode_of}
use Rattle.core_state.specs.Quietly.{KnowsQuietly}
use Rattle.core_state.proofs.Quiet.{KnowsQuietly-trans}
use Rattle.pass_table.specs.Knowing.{KnowsMore, StoresAlone, alone-trans, more-alone}
use Rattle.pass_table.specs.Trying.{Excludes, Leaves, Waited, with_taken}
use Rattle.pass_table.specs.declared.take_op.TakeOp.{TakeOp}

-- the operation before its first turn
abbrev pub taking_of : ℕ → Mode → TakeOp
taking_of lock mode = record { lock = lock; mode = mode; loaded = None }

-- the load and the exchange, or the exchange alone
abbrev pub turns_after : Option ℕ → ℕ
turns_after None = 2
turns_after (Some word) = 1

abbrev pub turns_left : TakeOp → ℕ
turns_left operation = turns_after operation.loaded

-- no word was loaded of a lock that is being taken
abbrev pub LoadedNone : Option TakeOp → Type 0
LoadedNone takes = IfSome takes (λ taking. taking.loaded ≡ None)

-- It takes the lock with which it was begun, in that mode. The lock is one of the world, the pass does not hold it, and a
-- word that was loaded shows nobody that excludes it. Since it was begun the pass has only come to know more, and
-- stored no other word
pub record IsTaking (first : TakeOp) (start : View) (operation : TakeOp) (view : View) : Type 0 where
  pub lock : operation.lock ≡ first.lock
  pub mode : operation.mode ≡ first.mode
  pub named : IsName view.config (Lock operation.lock)
  pub free : HoldsNot view operation.lock
  pub open_to : IfSome operation.loaded (λ word. ¬ Excludes operation.mode word)
  pub waited : Waited start view
  pub quiet : KnowsQuietly start view
  pub alone : StoresAlone start view (Lock first.lock)

-- at the end the pass holds the lock, and all else but what it knows is as it was at the beginning; nothing that it has
-- for itself was stored meanwhile
pub record HasTaken (first : TakeOp) (start next : View) : Type 0 where
  pub left : Leaves start next (with_taken start first.lock first.mode)
  pub quiet : KnowsQuietly start next
  pub alone : StoresAlone start next (Lock first.lock)

-- ---- a look or a meeting between two turns does no harm

-- what others stored came quietly
pub more-quiet : (view next : View) → KnowsMore view next → KnowsQuietly view next
more-quiet view next more = record { since = more.since; known = more.known; quiet = λ early later item parts. (more.others early later item parts).quiet }

pub taking-later : (first : TakeOp) (start : View) (operation : TakeOp) (view next : View) → KnowsMore view next → IsTaking first start operation view → IsTaking first start operation next
taking-later first start operation view next more taking = record {
  lock = taking.lock;
  mode = taking.mode;
  named = subst (λ (c : Config). IsName c (Lock operation.lock)) (sym (ap (λ (v : View). v.config) more.rest)) taking.named;
  free = ap (λ (v : View). mode_of v.locks operation.lock) more.rest ∙ taking.free;
  open_to = taking.open_to;
  waited = record {
    known =
        let early = taking.waited.known in
        (early.0 ++ more.since, more.known ∙ (ap (λ (l : List Item). l ++ more.since) early.1 ∙ append_assoc start.known early.0 more.since));
    rest =
        more.rest ∙
        (ap (λ (v : View). record v { known = next.known; joined = None }) taking.waited.rest ∙
        (λ i. record start { known = next.known; joined = sym (ap (λ (v : View). v.joined) more.rest) i }));
  };
  quiet = KnowsQuietly-trans start view next taking.waited.rest taking.quiet (more-quiet view next more);
  alone =
      alone-trans start view next (Lock first.lock) (ap (λ (v : View). v.role) taking.waited.rest) taking.alone (more-alone view next (Lock first.lock) more);
}
