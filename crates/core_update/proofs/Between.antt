-- Two kinds of step that store the same and leave two views which differ in the update of the pass alone.
use Rattle.std.proofs.Common.{Contains, None, Option, Some, ap, refl, subst, sym, ℕ, ◌∙◌, ◌≡◌, ◌≢◌}
use Rattle.std.specs.Prelude.{option_map}
use Rattle.core_state.specs.Core.{Core, IsViewAt}
use Rattle.core_state.specs.Kind.{Kind, Step, after_step, view_after}
use Rattle.core_state.specs.Scope.{EachPass, HasPass, Scope, sight}
use Rattle.core_state.specs.View.{IsPass}
use Rattle.core_state.specs.declared.view.Rebuild.{Rebuild}
use Rattle.core_state.specs.declared.view.View.{View}
use Rattle.core_state.proofs.Steps.{view-step, view-step-other}
use Rattle.core_guard.proofs.Leaving.{Acts, other-number}
use Rattle.core_guard.proofs.Seats.{HasSeat, KeepsNumber, SeatAfter, each-seat, each-seats, each-step, each-unstep, flat-step, has-seat, seat-after, seat-has, seat_seen, seen_of, stayed, stepped}
use Rattle.core_update.proofs.OtherUpdate.{ChangesUpdate}
use Rattle.core_update.proofs.Rebuilt.{IsAlone}

module _ (one two : Kind) (core : Core) (step : Step) (a : Acts core step) (alone : IsAlone core step) (scope : Scope) (keeps : KeepsNumber scope)
    (part : Rebuild → Rebuild) (next : Option Rebuild) (none : (number : ℕ) (view : View) → view.rebuild ≡ None → (seen_of scope number view).rebuild ≡ None)
    (same-batches : (seen_of scope step.number (view_after one core step)).batches ≡ (seen_of scope step.number step.view).batches)
    (seen : seen_of scope step.number (view_after two core step) ≡ record (seen_of scope step.number (view_after one core step)) { rebuild = option_map part next }) where
  abbrev One : Core
  One = after_step one core step

  abbrev Two : Core
  Two = after_step two core step

  abbrev V : View
  V = seen_of scope step.number (view_after one core step)

  abbrev W : View
  W = record V { rebuild = option_map part next }

  number-is : (seat number : ℕ) (view : View) → seat ≢ step.seat → IsViewAt core seat view → IsPass view number → number ≢ step.number
  number-is = other-number core step a

  own-in : (P : ℕ → View → Type 0) → EachPass (sight scope One) P → P step.number V
  own-in P h = each-seat scope keeps One P h step.seat step.number (view_after one core step) (view-step one core step a.at) a.pass

  pub between : ChangesUpdate (sight scope One) (sight scope Two).passes step.number V (option_map part next)
  between = record {
    each = λ P Q h others own.
        let was : EachPass (sight scope core) (λ n u. n ≢ step.number → P n u) =
        each-unstep scope keeps one core step a.at a.pass (λ n u. n ≢ step.number → P n u) P h (λ seat n view apart found is p other. p) (λ p other. absurd (other refl))
        in
        each-step scope keeps two core step a.at a.pass (λ n u. n ≢ step.number → P n u) Q was
        (λ seat n view apart found is p. let other = number-is seat n view apart found is in others n (seen_of scope n view) other (p other))
        (λ p. subst (Q step.number) (sym seen) (own (own-in P h)));
    has = λ n P Q h others own.
        let from = has-seat scope keeps One n P h in
        go n P Q others own from (seat-after scope keeps one core step a.at a.pass from.seat n from.view from.at from.pass);
    alone = each-seats scope keeps One (λ n u. n ≢ step.number → u.rebuild ≡ None)
        (λ seat n view found is other. lone seat n view is other (seat-after scope keeps one core step a.at a.pass seat n view found is));
    batches = flat-step scope keeps two core step a.at a.pass (λ u. u.batches) (ap (λ (u : View). u.batches) seen ∙ same-batches) ∙ sym (flat-step scope keeps one core step a.at a.pass (λ u. u.batches) same-batches);
  }
    where
      go : (n : ℕ) (P Q : View → Type 0) → ((u : View) → n ≢ step.number → Contains (sight scope One).passes u → IsPass u n → P u → Q u) → (n ≡ step.number → P V → Q W) → (from : HasSeat scope keeps One n P)
          → SeatAfter scope keeps one core step a.at a.pass from.seat n from.view → HasPass (sight scope Two) n Q
      go n P Q others own from (stepped here is same) =
          seat-has scope keeps Two n Q
          (record {
            seat = step.seat;
            view = view_after two core step;
            at = view-step two core step a.at;
            pass = a.pass ∙ ap Some same;
            holds = subst (λ (k : ℕ). Q (seen_of scope k (view_after two core step))) same
                (subst Q (sym seen) (own (sym same) (subst (λ (k : ℕ). P (seen_of scope k (view_after one core step))) (sym same) (subst (λ (v : View). P (seen_of scope n v)) (sym is) from.holds))));
          })
      go n P Q others own from (stayed apart old) =
          let other = number-is from.seat n from.view apart old from.pass in
          seat-has scope keeps Two n Q
          (record {
            seat = from.seat;
            view = from.view;
            at = view-step-other two core step from.seat from.view apart old;
            pass = from.pass;
            holds = others (seen_of scope n from.view) other (seat_seen scope One from.seat n from.view from.at from.pass) (keeps n from.view) from.holds;
          })

      lone : (seat n : ℕ) (view : View) → IsPass view n → n ≢ step.number → SeatAfter scope keeps one core step a.at a.pass seat n view → (seen_of scope n view).rebuild ≡ None
      lone seat n view is other (stepped here same number) = absurd (other (sym number))
      lone seat n view is other (stayed apart old) = none n view (alone seat n view apart old is)
