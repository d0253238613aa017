-- The update of the pass that steps is the only one: what a law says of updates it says of this one, before the step and
-- after it.
use Rattle.std.proofs.Common.{◌≡◌, ◌≢◌, ◌⊎◌, ℕ, Option, Some, None, IfSome, IsSomeAnd, is_some, option_map, refl, ap, sym, ◌∙◌, subst, inl, inr}
use Rattle.std.specs.Prelude.{Contains}
use Rattle.core_state.specs.declared.view.Rebuild.{Rebuild}
use Rattle.core_state.specs.declared.view.View.{View}
use Rattle.core_state.specs.View.{IsPass}
use Rattle.core_state.specs.Core.{Core, IsViewAt}
use Rattle.core_state.specs.Kind.{Kind, Step}
use Rattle.core_state.specs.Scope.{Scope, Sight, sight, HasPass}
use Rattle.core_state.specs.Updates.{EachUpdate, HasUpdate}
use Rattle.core_state.proofs.Steps.{view-step}
use Rattle.core_guard.proofs.Leaving.{Acts, After, Last}
use Rattle.core_guard.proofs.OneUpdate.{one-update}
use Rattle.core_guard.proofs.Owners.{same-seat}
use Rattle.core_guard.proofs.Seats.{KeepsNumber, IsSeenAt, seen_at, HasSeat, SeatAfter, SeatBefore, stepped, stayed, steps_now, stays, seen_of, each-seat, each-seats, has-seat, seat-has, seat-after, seat-before}

module _ (kind : Kind) (core : Core) (step : Step) (a : Acts core step) (r : Rebuild) (update : step.view.rebuild ≡ Some r) where
  -- no other pass has one
  pub others-none : (seat number : ℕ) (view : View) → seat ≢ step.seat → IsViewAt core seat view → IsPass view number → view.rebuild ≡ None
  others-none seat number view apart found own = go view.rebuild refl
    where
      go : (o : Option Rebuild) → view.rebuild ≡ o → view.rebuild ≡ None
      go None e = e
      go (Some x) e =
          let one : view ≡ step.view = one-update core a.formed a.laws.nodes a.laws.places seat step.seat number step.number view step.view found a.at own a.pass (ap is_some e) (ap is_some update) in
          absurd (apart (same-seat core a.formed seat step.seat step.number view step.view found a.at (subst (λ (v : View). IsPass v step.number) (sym one) a.pass) a.pass))

  -- of updates a law reads a part
  module _ (scope : Scope) (keeps : KeepsNumber scope) (part : Rebuild → Rebuild) (reads : (bare view : View) → (scope.part bare view).rebuild ≡ option_map part view.rebuild) where
    abbrev Old : Sight
    Old = sight scope core

    abbrev New : Sight
    New = sight scope (After kind core step)

    seen_before : (seen_of scope step.number step.view).rebuild ≡ Some (part r)
    seen_before = reads _ step.view ∙ ap (option_map part) update

    unseen : (seat number : ℕ) (view : View) → seat ≢ step.seat → IsViewAt core seat view → IsPass view number → (seen_of scope number view).rebuild ≡ None
    unseen seat number view apart found own = reads _ view ∙ ap (option_map part) (others-none seat number view apart found own)

    pub each-own : (P : ℕ → View → Rebuild → Type 0) → EachUpdate Old P → P step.number (seen_of scope step.number step.view) (part r)
    each-own P h =
        subst (λ (o : Option Rebuild). IfSome o (P step.number (seen_of scope step.number step.view))) seen_before
        (each-seat scope keeps core (λ n v. IfSome v.rebuild (P n v)) h step.seat step.number step.view a.at a.pass)

    pub own-all : (P : ℕ → View → Rebuild → Type 0) → P step.number (seen_of scope step.number step.view) (part r) → EachUpdate Old P
    own-all P own =
        each-seats scope keeps core (λ n v. IfSome v.rebuild (P n v)) (λ seat number view found is. go seat number view found is (seat-before scope keeps kind core step a.at a.pass seat number view found is))
      where
        go : (seat number : ℕ) (view : View) → IsViewAt core seat view → IsPass view number → SeatBefore scope keeps kind core step a.at a.pass seat number view → IfSome (seen_of scope number view).rebuild (P number (seen_of scope number view))
        go seat number view found is (steps_now same one two) =
            subst (λ (n : ℕ). IfSome (seen_of scope n view).rebuild (P n (seen_of scope n view))) two
            (subst (λ (v : View). IfSome (seen_of scope step.number v).rebuild (P step.number (seen_of scope step.number v))) one
            (subst (λ (o : Option Rebuild). IfSome o (P step.number (seen_of scope step.number step.view))) (sym seen_before) own))
        go seat number view found is (stays apart new) = subst (λ (o : Option Rebuild). IfSome o (P number (seen_of scope number view))) (sym (unseen seat number view apart found is)) tt

    -- each view that is seen has no update, or this one
    pub only-own : (seen : View) → Contains Old.passes seen → (seen.rebuild ≡ None) ⊎ (seen.rebuild ≡ Some (part r))
    only-own seen among =
        let from = seen_at scope core seen among in
        subst (λ (v : View). (v.rebuild ≡ None) ⊎ (v.rebuild ≡ Some (part r))) from.is (go from (seat-before scope keeps kind core step a.at a.pass from.seat from.number from.view from.at from.pass))
      where
        go : (from : IsSeenAt scope core seen) → SeatBefore scope keeps kind core step a.at a.pass from.seat from.number from.view
            → ((seen_of scope from.number from.view).rebuild ≡ None) ⊎ ((seen_of scope from.number from.view).rebuild ≡ Some (part r))
        go from (steps_now same one two) = inr (reads _ from.view ∙ ap (option_map part) (ap (λ (v : View). v.rebuild) (sym one) ∙ update))
        go from (stays apart new) = inl (unseen from.seat from.number from.view apart from.at from.pass)

    pub holds-own : (P : Rebuild → Type 0) → P (part r) → HasPass Old step.number (λ v. HasUpdate v P)
    holds-own P h =
        seat-has scope keeps core step.number (λ v. HasUpdate v P)
        (record { seat = step.seat; view = step.view; at = a.at; pass = a.pass; holds = subst (λ (o : Option Rebuild). IsSomeAnd o P) (sym seen_before) h })

    pub has-own : (number : ℕ) (P : Rebuild → Type 0) → HasPass Old number (λ v. HasUpdate v P) → (step.number ≡ number) × P (part r)
    has-own number P h =
        let from = has-seat scope keeps core number (λ v. HasUpdate v P) h in
        go from (seat-before scope keeps kind core step a.at a.pass from.seat number from.view from.at from.pass)
      where
        go : (from : HasSeat scope keeps core number (λ v. HasUpdate v P)) → SeatBefore scope keeps kind core step a.at a.pass from.seat number from.view → (step.number ≡ number) × P (part r)
        go from (steps_now same one two) = (
          two,
          subst (λ (o : Option Rebuild). IsSomeAnd o P) seen_before
              (subst (λ (n : ℕ). HasUpdate (seen_of scope n step.view) P) (sym two) (subst (λ (v : View). HasUpdate (seen_of scope number v) P) (sym one) from.holds)),
        )
        go from (stays apart new) = absurd (subst (λ (o : Option Rebuild). IsSomeAnd o P) (unseen from.seat number from.view apart from.at from.pass) from.holds)

    -- and afterwards, as it is then
    module _ (after : Rebuild) (rebuild : (Last kind core step).rebuild ≡ Some after) where
      seen_after : (seen_of scope step.number (Last kind core step)).rebuild ≡ Some (part after)
      seen_after = reads _ (Last kind core step) ∙ ap (option_map part) rebuild

      pub own-each : (P : ℕ → View → Rebuild → Type 0) → P step.number (seen_of scope step.number (Last kind core step)) (part after) → EachUpdate New P
      own-each P own =
          each-seats scope keeps (After kind core step) (λ n v. IfSome v.rebuild (P n v))
          (λ seat number view found is. go seat number view is (seat-after scope keeps kind core step a.at a.pass seat number view found is))
        where
          go : (seat number : ℕ) (view : View) → IsPass view number → SeatAfter scope keeps kind core step a.at a.pass seat number view → IfSome (seen_of scope number view).rebuild (P number (seen_of scope number view))
          go seat number view is (stepped same one two) =
              subst (λ (n : ℕ). IfSome (seen_of scope n view).rebuild (P n (seen_of scope n view))) two
              (subst (λ (v : View). IfSome (seen_of scope step.number v).rebuild (P step.number (seen_of scope step.number v))) one
              (subst (λ (o : Option Rebuild). IfSome o (P step.number (seen_of scope step.number (Last kind core step)))) (sym seen_after) own))
          go seat number view is (stayed apart old) = subst (λ (o : Option Rebuild). IfSome o (P number (seen_of scope number view))) (sym (unseen seat number view apart old is)) tt

      pub only-after : (seen : View) → Contains New.passes seen → (seen.rebuild ≡ None) ⊎ (seen.rebuild ≡ Some (part after))
      only-after seen among =
          let from = seen_at scope (After kind core step) seen among in
          subst (λ (v : View). (v.rebuild ≡ None) ⊎ (v.rebuild ≡ Some (part after))) from.is (go from (seat-after scope keeps kind core step a.at a.pass from.seat from.number from.view from.at from.pass))
        where
          go : (from : IsSeenAt scope (After kind core step) seen) → SeatAfter scope keeps kind core step a.at a.pass from.seat from.number from.view
              → ((seen_of scope from.number from.view).rebuild ≡ None) ⊎ ((seen_of scope from.number from.view).rebuild ≡ Some (part after))
          go from (stepped same one two) = inr (reads _ from.view ∙ ap (option_map part) (ap (λ (v : View). v.rebuild) (sym one) ∙ rebuild))
          go from (stayed apart old) = inl (unseen from.seat from.number from.view apart old from.pass)

      pub after-each : (P : ℕ → View → Rebuild → Type 0) → EachUpdate New P → P step.number (seen_of scope step.number (Last kind core step)) (part after)
      after-each P h =
          subst (λ (o : Option Rebuild). IfSome o (P step.number (seen_of scope step.number (Last kind core step)))) seen_after
          (each-seat scope keeps (After kind core step) (λ n v. IfSome v.rebuild (P n v)) h step.seat step.number (Last kind core step) (view-step kind core step a.at) a.pass)

      pub own-has : (P : Rebuild → Type 0) → P (part after) → HasPass New step.number (λ v. HasUpdate v P)
      own-has P h =
          seat-has scope keeps (After kind core step) step.number (λ v. HasUpdate v P)
          (record {
            seat = step.seat;
            view = Last kind core step;
            at = view-step kind core step a.at;
            pass = a.pass;
            holds = subst (λ (o : Option Rebuild). IsSomeAnd o P) (sym seen_after) h;
          })

      pub has-after : (number : ℕ) (P : Rebuild → Type 0) → HasPass New number (λ v. HasUpdate v P) → (step.number ≡ number) × P (part after)
      has-after number P h =
          let from = has-seat scope keeps (After kind core step) number (λ v. HasUpdate v P) h in
          go from (seat-after scope keeps kind core step a.at a.pass from.seat number from.view from.at from.pass)
        where
          go : (from : HasSeat scope keeps (After kind core step) number (λ v. HasUpdate v P)) → SeatAfter scope keeps kind core step a.at a.pass from.seat number from.view → (step.number ≡ number) × P (part after)
          go from (stepped same one two) = (
            two,
            subst (λ (o : Option Rebuild). IsSomeAnd o P) seen_after
                (subst (λ (n : ℕ). HasUpdate (seen_of scope n (Last kind core step)) P) (sym two) (subst (λ (v : View). HasUpdate (seen_of scope number v) P) (sym one) from.holds)),
          )
          go from (stayed apart old) = absurd (subst (λ (o : Option Rebuild). IsSomeAnd o P) (unseen from.seat number from.view apart old from.pass) from.holds)
