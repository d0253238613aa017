-- Sets of stripes, and letting the stripes of a set go.
use Rattle.std.proofs.Common.{◌≡◌, ◌≢◌, inl, inr, ℕ, ◌*◌, ◌%◌, ◌^◌, ◌<◌, ◌≤◌, List, [], ◌∷◌, ◌++◌, Bool, true, false, eqb, cond, bit_or, None, refl, ap, sym, ◌∙◌, subst, arith}
use Rattle.std.specs.Int.{bit_at}
use Rattle.std.proofs.lemmas.Bool.{cases_eq, eq-eqb, ne_eqb, false≢true}
use Rattle.std.proofs.lemmas.Nat.Bits.{bit_at_above}
use Rattle.core_state.specs.declared.view.Mode.{Mode}
use Rattle.core_state.specs.declared.view.LockStep.{LockStep}
use Rattle.core_state.specs.declared.view.LockStep.TheVariants.{Released}
use Rattle.core_state.specs.declared.view.Task.TheVariants.{Nothing}
use Rattle.core_state.specs.declared.view.View.{View}
use Rattle.core_state.specs.View.{mode_of, IsPass}
use Rattle.word_map.specs.declared.config.Config.{Config}
use Rattle.pass_table.specs.Holding.{MayLetGo, LetGo}
use Rattle.pass_table.proofs.LockSets.{put-bit}
use Rattle.pass_table.proofs.Calling.{Adds-refl}
use Rattle.pass_table.proofs.Working.{worked-released, tells-refl, spares-refl}
use Rattle.pass_table.specs.Work.{IsCalling, HasDone, idle}
use Rattle.body_lock.specs.Stripes.{has_stripe, HasNone, TakesFirst, HoldsAll}
use Rattle.body_lock.proofs.Letting.{let-go-mode, let-go-view}
use Rattle.std.proofs.lemmas.List.{append-nil}

-- ---- bits

same-one : (t : Bool) (bit : ℕ) → eqb (cond t 1 bit) 1 ≡ cond t true (eqb bit 1)
same-one true bit = refl
same-one false bit = refl

pub put-stripe : (bits stripe : ℕ) → stripe < 64 → (other : ℕ) → has_stripe (bit_or bits (1 * 2 ^ stripe % 2 ^ 64)) other ≡ cond (eqb stripe other) true (has_stripe bits other)
put-stripe bits stripe within other = ap (λ (n : ℕ). eqb n 1) (put-bit bits stripe within other) ∙ same-one (eqb stripe other) (bit_at bits other)

-- a set has no stripe from 64 on
pub none-above : (bits stripe : ℕ) → bits < 2 ^ 64 → 64 ≤ stripe → has_stripe bits stripe ≡ false
none-above bits stripe fits high = ap (λ (n : ℕ). eqb n 1) (bit_at_above bits 64 stripe fits high)

-- ---- letting go

-- the stripes of this set are held still, and of all locks just these
pub record HasReleased (start view : View) (bits : ℕ) (mode : Mode) : Type 0 where
  pub steps : List LockStep
  pub calling : IsCalling start view steps Nothing []
  pub holds : HoldsAll view bits mode
  pub within : (lock : ℕ) → has_stripe bits lock ≡ true → lock < view.config.stripes

pub release-begun : (view : View) (bits number : ℕ) (mode : Mode) → IsPass view number → HoldsAll view bits mode → ((lock : ℕ) → has_stripe bits lock ≡ true → lock < view.config.stripes) → view.call.task ≡ Nothing
    → HasReleased view view bits mode
release-begun view bits number mode pass holds within done = record {
  steps = [];
  calling = record { adds = Adds-refl view number pass; tells = tells-refl view number pass; spares = λ none. spares-refl view; doing = done; left = λ i. record view { locks = sym (append-nil view.locks) i } };
  holds = holds;
  within = within;
}

-- the first of them is let go
module _ (start view next : View) (bits rest stripe : ℕ) (mode : Mode) (takes : TakesFirst bits rest stripe) (released : HasReleased start view bits mode) where
  pub release-may : MayLetGo view stripe
  release-may = record { mode = mode; holds = released.holds.held stripe takes.first.has; done = released.calling.doing }

  taken : (lock : ℕ) → stripe ≡ lock → has_stripe rest lock ≡ false
  taken lock same = takes.left lock ∙ ap (λ (t : Bool). cond t false (has_stripe bits lock)) (eq-eqb stripe lock same)

  left : (lock : ℕ) → stripe ≢ lock → has_stripe rest lock ≡ has_stripe bits lock
  left lock apart = takes.left lock ∙ ap (λ (t : Bool). cond t false (has_stripe bits lock)) (ne_eqb stripe lock apart)

  had : (lock : ℕ) → has_stripe rest lock ≡ true → has_stripe bits lock ≡ true
  had lock has = elim (cases_eq stripe lock) [
    | inl same ↦ absurd (false≢true (sym (taken lock same) ∙ has))
    | inr apart ↦ sym (left lock apart) ∙ has
  ]

  pub release-more : (found : ℕ) → LetGo view stripe found next → HasReleased start next rest mode
  release-more found go =
      let after : (lock : ℕ) → mode_of next.locks lock ≡ cond (eqb stripe lock) None (mode_of view.locks lock) = let-go-mode view next stripe found go in
      let kept : (lock : ℕ) → stripe ≢ lock → mode_of next.locks lock ≡ mode_of view.locks lock = λ lock apart.
      after lock ∙ ap (λ (t : Bool). cond t None (mode_of view.locks lock)) (ne_eqb stripe lock apart)
      in
      record {
        steps = released.steps ++ Released stripe ∷ [];
        calling = worked-released start view next _ released.calling stripe found go refl;
        holds = record {
          held = λ lock has. elim (cases_eq stripe lock) [
            | inl same ↦ absurd (false≢true (sym (taken lock same) ∙ has))
            | inr apart ↦ kept lock apart ∙ released.holds.held lock (had lock has)
          ];
          others = λ lock none. elim (cases_eq stripe lock) [
            | inl same ↦ after lock ∙ ap (λ (t : Bool). cond t None (mode_of view.locks lock)) (eq-eqb stripe lock same)
            | inr apart ↦ kept lock apart ∙ released.holds.others lock (sym (left lock apart) ∙ none)
          ];
        };
        within = λ lock has. subst (λ (c : Config). lock < c.stripes) (sym (ap (λ (v : View). v.config) (let-go-view view next stripe found go))) (released.within lock (had lock has));
      }

-- when none is left the pass is at rest, and has what it had
pub release-ends : (start next : View) (bits : ℕ) (mode : Mode) → start.walk.is_on ≡ false → HasNone bits 0 → HasReleased start next bits mode → HasDone start next (idle start)
release-ends start next bits mode still none released = record {
  adds = released.calling.adds;
  tells = released.calling.tells;
  spares = released.calling.spares;
  rest = record { free = λ lock. released.holds.others lock (none lock (omega arith)); done = released.calling.doing; still = ap (λ (v : View). v.walk.is_on) released.calling.left ∙ still };
  left =
      released.calling.left
      ∙ (λ i. record start { known = next.known; joined = next.joined; locks = sym (ap (λ (v : View). v.locks) released.calling.left) i; call = next.call });
}
