-- The turns of locking several bodies.
use Rattle.std.proofs.Common.{◌≡◌, ◌≢◌, inl, inr, ℕ, zero, suc, ◌+◌, ◌-◌, ◌*◌, ◌<◌, ◌≤◌, List, [], ◌∷◌, ◌++◌, length, take, Bool, true, false, eqb, cond, Option, Some, None, refl, ap, sym, ◌∙◌, subst, arith}
use Rattle.std.specs.Prelude.{All, map}
use Rattle.std.proofs.lemmas.Bool.{cases_eq, cases_lt, eq-eqb, ne_eqb, false≢true}
use Rattle.std.proofs.lemmas.List.{append-nil, map-append}
use Rattle.std.proofs.lemmas.List.Elements.{All-nil, Contains-append_left, Contains-push, Contains-push_cases}
use Rattle.std.proofs.lemmas.List.Sums.{fold-append}
use Rattle.body_ident.specs.Id.{Id}
use Rattle.word_map.specs.declared.config.Config.{Config}
use Rattle.word_map.specs.Names.{stripe_of}
use Rattle.core_state.specs.declared.view.Mode.{Mode}
use Rattle.core_state.specs.declared.view.LockStep.{LockStep}
use Rattle.core_state.specs.declared.view.LockStep.TheVariants.{Taken}
use Rattle.core_state.specs.declared.view.Task.TheVariants.{Nothing}
use Rattle.core_state.specs.declared.view.View.{View}
use Rattle.core_state.specs.Log.{IsPrefix}
use Rattle.core_state.specs.View.{mode_of, mode_after}
use Rattle.pass_table.specs.declared.take_op.TakeOp.{TakeOp}
use Rattle.pass_table.specs.TakeTurns.{taking_of, IsTaking, HasTaken, turns_after, turns_left, LoadedNone}
use Rattle.pass_table.specs.Trying.{Leaves, with_taken}
use Rattle.pass_table.specs.Turning.{IsUnderWay, Turned, LostLock, IsHeldUp, AtMostOneStep, MadeBy, LoadsNow}
use Rattle.pass_table.specs.declared.turn.Turn.TheVariants.{More, Again}
use Rattle.pass_table.proofs.TakingTurns.{taking-anew, loads-none}
use Rattle.pass_table.proofs.Calling.{some-left}
use Rattle.pass_table.specs.Work.{IsCalling}
use Rattle.pass_table.proofs.Between.{more-refl}
use Rattle.pass_table.proofs.Working.{worked-taken, worked-waited}
use Rattle.body_lock.specs.declared.multi_guard.LockedBody.{LockedBody}
use Rattle.body_lock.specs.declared.multi_op.Wanted.{Wanted}
use Rattle.body_lock.specs.declared.multi_op.MultiStage.{MultiStage}
use Rattle.body_lock.specs.declared.multi_op.MultiStage.TheVariants.{Taking, Held}
use Rattle.body_lock.specs.declared.multi_op.LockMultiOp.{LockMultiOp}
use Rattle.body_lock.specs.declared.stripe_set.StripeSet.{StripeSet}
use Rattle.body_lock.specs.Stripes.{has_stripe, stripes_below, IsNext, HasNone, AreStripesOf, HoldsBelow, HoldsAll}
use Rattle.body_lock.specs.Answers.{wanted_ids, body_ids, IsEntryRight, takes_below}
use Rattle.body_lock.specs.stages.LockingAll.{turns_of, multi_left, taken_to, TakesNext, IsAtMulti, IsLockingAll, IsMultiTurn, ComesAfter, multi_takes, takes_at}

-- ---- the stripes of ids

pub stripes-none : (c : Config) (bits : ℕ) → ((stripe : ℕ) → has_stripe bits stripe ≡ false) → AreStripesOf c [] bits
stripes-none c bits none = record { all = λ i h. let below = h.1 in absurd (omega arith); only = λ stripe has. absurd (false≢true (sym (none stripe) ∙ has)) }

pub stripes-more : (c : Config) (ids : List Id) (id : Id) (bits next stripe : ℕ) → ((other : ℕ) → has_stripe next other ≡ cond (eqb stripe other) true (has_stripe bits other)) → stripe ≡ stripe_of c id.index
    → AreStripesOf c ids bits → AreStripesOf c (ids ++ id ∷ []) next
stripes-more c ids id bits next stripe put same are = record {
  all = λ i h. elim (Contains-push_cases ids id i h) [
    | inl old ↦ kept (stripe_of c i.index) (are.all i old)
    | inr new ↦ put (stripe_of c i.index) ∙ ap (λ (t : Bool). cond t true (has_stripe bits (stripe_of c i.index))) (eq-eqb stripe (stripe_of c i.index) (same ∙ ap (λ (k : Id). stripe_of c k.index) new))
  ];
  only = λ other has. elim (cases_eq other stripe) [
    | inl here ↦ (id, Contains-push ids id, sym same ∙ sym here)
    | inr apart ↦
        let before = are.only other (sym (ap (λ (t : Bool). cond t true (has_stripe bits other)) (ne_eqb stripe other (λ e. apart (sym e)))) ∙ (sym (put other) ∙ has)) in (
          before.0,
          Contains-append_left ids (id ∷ []) before.0 before.1,
          before.2,
        )
  ];
}
  where
    kept : (other : ℕ) → has_stripe bits other ≡ true → has_stripe next other ≡ true
    kept other has = put other ∙ go (eqb stripe other)
      where
        go : (t : Bool) → cond t true (has_stripe bits other) ≡ true
        go true = refl
        go false = has

-- ---- the locks

-- one stripe more
pub holds-taken : (view next : View) (bits : ℕ) (mode : Mode) (stripe : ℕ) → HoldsBelow view bits mode stripe → has_stripe bits stripe ≡ true → Leaves view next (with_taken view stripe mode) → HoldsBelow next bits mode (suc stripe)
holds-taken view next bits mode stripe holds has left =
    let after : (lock : ℕ) → mode_of next.locks lock ≡ cond (eqb stripe lock) (Some mode) (mode_of view.locks lock) = λ lock.
    ap (λ (v : View). mode_of v.locks lock) left.rest ∙ fold-append (mode_after lock) None view.locks (Taken stripe mode ∷ [])
    in
    let kept : (lock : ℕ) → lock ≢ stripe → mode_of next.locks lock ≡ mode_of view.locks lock = λ lock other.
    after lock ∙ ap (λ (t : Bool). cond t (Some mode) (mode_of view.locks lock)) (ne_eqb stripe lock (λ e. other (sym e)))
    in
    record {
      held = λ lock below own. elim (cases_eq lock stripe) [
        | inl same ↦ after lock ∙ ap (λ (t : Bool). cond t (Some mode) (mode_of view.locks lock)) (eq-eqb stripe lock (sym same))
        | inr other ↦ kept lock other ∙ holds.held lock (omega arith) own
      ];
      later = λ lock above. kept lock (λ same. absurd (omega arith)) ∙ holds.later lock (omega arith);
      others = λ lock none. kept lock (λ same. false≢true (sym none ∙ (ap (has_stripe bits) same ∙ has))) ∙ holds.others lock none;
    }

-- up to the next one of the set
pub holds-raised : (view : View) (bits : ℕ) (mode : Mode) (from stripe : ℕ) → HoldsBelow view bits mode from → IsNext bits from stripe → HoldsBelow view bits mode stripe
holds-raised view bits mode from stripe holds next = record {
  held = λ lock below own. elim (cases_lt lock from) [
    | inl low ↦ holds.held lock low own
    | inr high ↦ absurd (false≢true (sym (next.first lock high below) ∙ own))
  ];
  later = λ lock above. let least = next.above in holds.later lock (omega arith);
  others = holds.others;
}

-- and where there is none left all are held
pub holds-whole : (view : View) (bits : ℕ) (mode : Mode) (from : ℕ) → HoldsBelow view bits mode from → HasNone bits from → HoldsAll view bits mode
holds-whole view bits mode from holds none = record {
  held = λ lock own. elim (cases_lt lock from) [
    | inl low ↦ holds.held lock low own
    | inr high ↦ absurd (false≢true (sym (none lock high) ∙ own))
  ];
  others = holds.others;
}

-- ---- the steps on them

-- from a stripe up to one below which there are none, the list stays
below-raised : (bits from end : ℕ) → from ≤ end → ((other : ℕ) → from ≤ other → other < end → has_stripe bits other ≡ false) → stripes_below bits end ≡ stripes_below bits from
unfolding stripes_below
below-raised bits from zero least none = let same : 0 ≡ from = omega arith in ap (stripes_below bits) same
below-raised bits from (suc end) least none =
    elim (cases_lt from (suc end)) [
      | inl low ↦
          ap (λ (t : Bool). stripes_below bits end ++ cond t (end ∷ []) []) (none end (omega arith) (omega arith))
          ∙ (append-nil (stripes_below bits end) ∙ below-raised bits from end (omega arith) (λ other above below. none other above (omega arith)))
      | inr high ↦ let same : suc end ≡ from = omega arith in ap (stripes_below bits) same
    ]

-- none is taken below the first one
pub takes-none : (bits stripe : ℕ) (mode : Mode) → IsNext bits 0 stripe → takes_below bits mode stripe ≡ []
unfolding stripes_below
takes-none bits stripe mode next = ap (map (λ (s : ℕ). Taken s mode)) (below-raised bits 0 stripe next.above next.first)

-- one more is
takes-one : (bits stripe : ℕ) (mode : Mode) → has_stripe bits stripe ≡ true → takes_below bits mode (suc stripe) ≡ takes_below bits mode stripe ++ Taken stripe mode ∷ []
unfolding stripes_below
takes-one bits stripe mode has =
    ap (λ (t : Bool). map (λ (s : ℕ). Taken s mode) (stripes_below bits stripe ++ cond t (stripe ∷ []) [])) has
    ∙ map-append (λ (s : ℕ). Taken s mode) (stripes_below bits stripe) (stripe ∷ [])

-- up to the next one, or all
takes-after : (bits from : ℕ) (mode : Mode) (next : View) (after : MultiStage) → from ≤ 64 → ComesAfter bits mode from next after → takes_below bits mode from ≡ takes_below bits mode (taken_to after)
takes-after bits from mode next (Taking s t) low comes = ap (map (λ (k : ℕ). Taken k mode)) (sym (below-raised bits from s comes.0.above comes.0.first))
takes-after bits from mode next Held low comes = ap (map (λ (k : ℕ). Taken k mode)) (sym (below-raised bits from 64 low (λ other above below. comes other above)))

-- ---- the turns that take stripes

-- a lock takes two turns at most
few-turns : (loaded : Option ℕ) → turns_after loaded ≤ 2
few-turns None = omega arith
few-turns (Some word) = omega arith

module _ (operation : LockMultiOp) (stripe : ℕ) (taking : TakeOp) (view next : View) (stage : operation.stage ≡ Taking stripe taking) (by : MadeBy view next None) where
  at-taking : (first : LockMultiOp) (start : View) → IsLockingAll first start operation view → TakesNext first.stripes.bits first.mode operation.bodies.items stripe taking view
  at-taking first start locking =
      subst (λ (s : MultiStage). IsAtMulti locking.number first.stripes.bits first.mode first.wanted.items operation.bodies.items start s view) stage locking.stage

  taken-so-far : (first : LockMultiOp) (start : View) → IsLockingAll first start operation view → IsCalling start view (takes_below first.stripes.bits first.mode stripe) Nothing []
  taken-so-far first start locking = subst (λ (s : MultiStage). IsCalling start view (takes_below first.stripes.bits first.mode (taken_to s)) Nothing []) stage locking.calling

  -- a turn that takes nothing yet
  pub all-keeps : (after : TakeOp) → ((first : TakeOp) (start : View) → IsTaking first start taking view → IsTaking first start after next)
      → (first : LockMultiOp) (start : View) → IsLockingAll first start operation view → IsLockingAll first start (record operation { stage = Taking stripe after }) next
  all-keeps after keeps first start locking =
      let at = at-taking first start locking in
      let goes = keeps (taking_of stripe first.mode) view at.goes in
      let locks : (lock : ℕ) → mode_of next.locks lock ≡ mode_of view.locks lock = λ lock. ap (λ (v : View). mode_of v.locks lock) goes.waited.rest in
      record {
        wanted = locking.wanted;
        mode = locking.mode;
        stripes = locking.stripes;
        begun = locking.begun;
        number = locking.number;
        pass = locking.pass;
        calling = worked-waited start view next _ (taken-so-far first start locking) stripe goes.waited by goes.alone;
        stage = record {
          goes = taking-anew (taking_of stripe first.mode) view after next goes;
          has = at.has;
          low = at.low;
          holds = record {
            held = λ lock below own. locks lock ∙ at.holds.held lock below own;
            later = λ lock above. locks lock ∙ at.holds.later lock above;
            others = λ lock none. locks lock ∙ at.holds.others lock none;
          };
          none = at.none;
        };
      }

  -- the turn that takes it
  pub all-taken : ((first : TakeOp) (start : View) → IsTaking first start taking view → HasTaken first start next)
      → (first : LockMultiOp) (start : View) → IsLockingAll first start operation view → HoldsBelow next first.stripes.bits first.mode (suc stripe)
  all-taken answers first start locking =
      let at = at-taking first start locking in
      holds-taken view next first.stripes.bits first.mode stripe at.holds at.has (answers (taking_of stripe first.mode) view at.goes).left

  pub all-holds : ((first : TakeOp) (start : View) → IsTaking first start taking view → HasTaken first start next) → IsUnderWay IsLockingAll operation view → HoldsBelow next operation.stripes.bits operation.mode (suc stripe)
  all-holds answers under_way =
      let locking = under_way.goes in
      subst (λ (s : StripeSet). HoldsBelow next s.bits operation.mode (suc stripe)) (sym locking.stripes)
      (subst (λ (m : Mode). HoldsBelow next under_way.first.stripes.bits m (suc stripe)) (sym locking.mode) (all-taken answers under_way.first under_way.start locking))

  stage-after : (number bits : ℕ) (mode : Mode) (wanted : List Wanted) (bodies : List LockedBody) (start : View) (after : MultiStage) → next.joined ≡ None → IsPrefix start.known next.known → 0 < length wanted → bodies ≡ []
      → HoldsBelow next bits mode (suc stripe) → ComesAfter bits mode (suc stripe) next after → IsAtMulti number bits mode wanted bodies start after next
  stage-after number bits mode wanted bodies start (Taking s t) alone reached some none holds comes =
      record { goes = comes.1; has = comes.0.has; low = comes.0.below; holds = holds-raised next bits mode (suc stripe) s holds comes.0; none = none }
  stage-after number bits mode wanted bodies start Held alone reached some none holds comes =
      let lengths : length bodies ≡ 0 = ap length none in
      record {
        held = next;
        holds = record { reached = reached; all = holds-whole next bits mode (suc stripe) holds comes; since = more-refl next alone };
        left = omega arith;
        ids = ap body_ids none ∙ ap (λ (n : ℕ). take n (wanted_ids wanted)) (sym lengths);
        each = subst (λ (l : List LockedBody). All (IsEntryRight number mode next next) l) (sym none) (All-nil (IsEntryRight number mode next next));
      }

  pub all-done : ((first : TakeOp) (start : View) → IsTaking first start taking view → HasTaken first start next) → (after : MultiStage) (last : View) → last ≡ next
      → ComesAfter operation.stripes.bits operation.mode (suc stripe) next after
      → (first : LockMultiOp) (start : View) → IsLockingAll first start operation view → IsLockingAll first start (record operation { stage = after }) last
  all-done answers after last same comes first start locking =
      let at = at-taking first start locking in
      let taken = answers (taking_of stripe first.mode) view at.goes in
      let comes_first : ComesAfter first.stripes.bits first.mode (suc stripe) next after =
      subst (λ (s : StripeSet). ComesAfter s.bits first.mode (suc stripe) next after) locking.stripes (subst (λ (m : Mode). ComesAfter operation.stripes.bits m (suc stripe) next after) locking.mode comes)
      in
      let calling : IsCalling start next (takes_below first.stripes.bits first.mode (taken_to after)) Nothing [] =
      subst (λ (l : List LockStep). IsCalling start next l Nothing [])
      (sym (takes-one first.stripes.bits stripe first.mode at.has) ∙ takes-after first.stripes.bits (suc stripe) first.mode next after at.low comes_first)
      (worked-taken start view next _ (taken-so-far first start locking) stripe first.mode taken by)
      in
      subst (IsLockingAll first start (record operation { stage = after })) (sym same)
      (record {
        wanted = locking.wanted;
        mode = locking.mode;
        stripes = locking.stripes;
        begun = locking.begun;
        number = locking.number;
        pass = locking.pass;
        calling = calling;
        stage =
            stage-after locking.number first.stripes.bits first.mode first.wanted.items operation.bodies.items start after (ap (λ (v : View). v.joined) taken.left.rest)
            (calling.adds.since, calling.adds.known) locking.begun.some at.none (all-taken answers first start locking) comes_first;
      })

  -- ---- what these turns owe

  module _ (step : AtMostOneStep view next) where
    take-takes : Some taking ≡ multi_takes operation
    take-takes = sym (ap takes_at stage)

    all-left : multi_left operation ≡ turns_left taking + (2 * (64 - stripe) + length operation.wanted.items)
    all-left = ap (turns_of (length operation.wanted.items) (length operation.bodies.items)) stage

    -- what comes once it is taken takes fewer turns
    after-less : (bits : ℕ) (mode : Mode) (after : MultiStage) → ComesAfter bits mode (suc stripe) next after
        → turns_of (length operation.wanted.items) (length operation.bodies.items) after < turns_left taking + (2 * (64 - stripe) + length operation.wanted.items)
    after-less bits mode (Taking s t) comes =
        let above = comes.0.above in
        let below = comes.0.below in
        let few = few-turns t.loaded in
        let some = some-left taking in
        omega arith
    after-less bits mode Held comes = let some = some-left taking in omega arith

    pub all-took : ((first : TakeOp) (start : View) → IsTaking first start taking view → HasTaken first start next) → (after : MultiStage) (last : View) → last ≡ next
        → ComesAfter operation.stripes.bits operation.mode (suc stripe) next after → LoadedNone (takes_at after) → IsMultiTurn More operation (record operation { stage = after }) view last
    all-took answers after last same comes unloaded =
        subst (IsMultiTurn More operation (record operation { stage = after }) view) (sym same)
        (record {
          step = step;
          made = by;
          turned = inl (let left = all-left in let less = after-less operation.stripes.bits operation.mode after comes in omega arith);
          loads = loads-none view next (takes_at after) unloaded;
          keeps = all-done answers after next refl comes;
          answered = λ first start locking. tt;
        })

    module _ (after : TakeOp) (loads : LoadsNow view next (Some after)) (keeps : (first : TakeOp) (start : View) → IsTaking first start taking view → IsTaking first start after next) where
      -- one after which less is to do, or whose exchange was lost
      pub all-goes : Turned {T = Unit {0}} More view next (Some taking) (turns_left taking) (turns_left after) → IsMultiTurn More operation (record operation { stage = Taking stripe after }) view next
      all-goes turned = record {
        step = step;
        made = by;
        turned = elim turned [
          | inl less ↦ inl (let left = all-left in omega arith)
          | inr more ↦ inr (let left = all-left in let one = more.0 in omega arith, subst (LostLock view next) take-takes more.1)
        ];
        loads = loads;
        keeps = all-keeps after keeps;
        answered = λ first start locking. tt;
      }

      -- one that found a holder
      pub all-waits : (lock found : ℕ) → Turned {T = Unit {0}} (Again lock found) view next (Some taking) (turns_left taking) (turns_left after)
          → IsMultiTurn (Again lock found) operation (record operation { stage = Taking stripe after }) view next
      all-waits lock found turned = record {
        step = step;
        made = by;
        turned = (let left = all-left in let same = turned.0 in omega arith, subst (λ (t : Option TakeOp). IsHeldUp view next t lock found) take-takes turned.1);
        loads = loads;
        keeps = all-keeps after keeps;
        answered = λ first start locking. tt;
      }
