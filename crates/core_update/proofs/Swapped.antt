-- Two kinds of step that store alike and leave two views: what a law sees of the two differs in the stepping pass alone.
use Rattle.std.proofs.Common.{◌≡◌, ◌≢◌, ℕ, zero, suc, List, [], ◌∷◌, ◌++◌, Option, Some, None, refl, ap, sym, ◌∙◌, subst}
use Rattle.std.specs.Prelude.{filter_map, flat_map, fold, option_map}
use Rattle.std.specs.List.{cons_option}
use lib.ListN.{set}
use Rattle.word_map.specs.declared.name.Name.{Name}
use Rattle.core_state.specs.declared.view.View.{View}
use Rattle.core_state.specs.View.{IsPass}
use Rattle.core_state.specs.Core.{Core, IsViewAt}
use Rattle.core_state.specs.Kind.{Kind, Step, view_after, after_step}
use Rattle.core_state.specs.Scope.{Scope, Sight, sight, HasPass, EachPass, part_of, bare_view}
use Rattle.core_state.proofs.Frames.{frame}
use Rattle.core_state.proofs.Steps.{view-step, view-step-other}
use Rattle.core_guard.proofs.Seats.{KeepsNumber, seen_of, each-seat, each-seats, HasSeat, has-seat, seat-has, SeatAfter, stepped, stayed, seat-after}

-- a list is kept alike with either of two elements that are kept alike at one place
kept-alike : {X Y : Type 0} (f : X → Option Y) (xs : List X) (i : ℕ) (x y : X) → f x ≡ f y → filter_map f (set xs i x) ≡ filter_map f (set xs i y)
kept-alike f [] i x y e = refl
kept-alike {Y = Y} f (z ∷ xs) zero x y e = ap (λ (o : Option Y). cons_option o (filter_map f xs)) e
kept-alike {Y = Y} f (z ∷ xs) (suc i) x y e = ap (λ (l : List Y). cons_option (f z) l) (kept-alike f xs i x y e)

flat-more : {X Y Z : Type 0} (f : X → Option Y) (g : Y → List Z) (o : Option Y) (xs ys : List Y) → flat_map g xs ≡ flat_map g ys → flat_map g (cons_option o xs) ≡ flat_map g (cons_option o ys)
flat-more f g None xs ys e = e
flat-more {Z = Z} f g (Some w) xs ys e = ap (λ (l : List Z). g w ++ l) e

-- and so is what is collected of it, where the same is collected of what is kept of either
flat-alike : {X Y Z : Type 0} (f : X → Option Y) (g : Y → List Z) (xs : List X) (i : ℕ) (x y : X) (u v : Y) → f x ≡ Some u → f y ≡ Some v → g u ≡ g v → flat_map g (filter_map f (set xs i x)) ≡ flat_map g (filter_map f (set xs i y))
flat-alike f g [] i x y u v one two e = refl
flat-alike f g (z ∷ xs) zero x y u v one two e = rw (one, two, e) refl
flat-alike f g (z ∷ xs) (suc i) x y u v one two e = flat-more f g (f z) (filter_map f (set xs i x)) (filter_map f (set xs i y)) (flat-alike f g xs i x y u v one two e)

-- and what it adds up to
fold-more : {X Y Z : Type 0} (f : X → Option Y) (add : Z → Y → Z) (o : Option Y) (xs ys : List Y) → ((start : Z) → fold add start xs ≡ fold add start ys) → (start : Z) → fold add start (cons_option o xs) ≡ fold add start (cons_option o ys)
fold-more f add None xs ys e start = e start
fold-more f add (Some w) xs ys e start = e (add start w)

fold-alike : {X Y Z : Type 0} (f : X → Option Y) (add : Z → Y → Z) (xs : List X) (i : ℕ) (x y : X) (u v : Y) → f x ≡ Some u → f y ≡ Some v → ((start : Z) → add start u ≡ add start v)
    → (start : Z) → fold add start (filter_map f (set xs i x)) ≡ fold add start (filter_map f (set xs i y))
fold-alike f add [] i x y u v one two e start = refl
fold-alike {Z = Z} f add (z ∷ xs) zero x y u v one two e start = rw (one, two) (ap (λ (s : Z). fold add s (filter_map f xs)) (e start))
fold-alike f add (z ∷ xs) (suc i) x y u v one two e start = fold-more f add (f z) (filter_map f (set xs i x)) (filter_map f (set xs i y)) (fold-alike f add xs i x y u v one two e) start

module _ (scope : Scope) (keeps : KeepsNumber scope) (kind : Kind) (leaves : View → Name → ℕ → ℕ → ℕ → View) (core : Core) (step : Step) (at : IsViewAt core step.seat step.view) (pass : IsPass step.view step.number) where
  -- the other kind
  abbrev pub other : Kind
  other = record kind { leaves = leaves }

  -- each pass has what each has after the other step, if the stepping one has it
  pub each-swap : (P Q : ℕ → View → Type 0) → EachPass (sight scope (after_step other core step)) P
      → ((seat number : ℕ) (view : View) → seat ≢ step.seat → IsViewAt core seat view → IsPass view number → P number (seen_of scope number view) → Q number (seen_of scope number view))
      → (P step.number (seen_of scope step.number (view_after other core step)) → Q step.number (seen_of scope step.number (view_after kind core step)))
      → EachPass (sight scope (after_step kind core step)) Q
  each-swap P Q h others own =
      each-seats scope keeps (after_step kind core step) Q
      (λ seat number view found is. go seat number view is (seat-after scope keeps kind core step at pass seat number view found is))
    where
      go : (seat number : ℕ) (view : View) → IsPass view number → SeatAfter scope keeps kind core step at pass seat number view → Q number (seen_of scope number view)
      go seat number view is (stepped same one two) =
          subst (λ (n : ℕ). Q n (seen_of scope n view)) two
          (subst (λ (v : View). Q step.number (seen_of scope step.number v)) one
          (own (each-seat scope keeps (after_step other core step) P h step.seat step.number (view_after other core step) (view-step other core step at) pass)))
      go seat number view is (stayed apart old) =
          others seat number view apart old is (each-seat scope keeps (after_step other core step) P h seat number view (view-step-other other core step seat view apart old) is)

  -- and one that has something has it, if it is so of the stepping one
  pub has-swap : (number : ℕ) (P Q : View → Type 0) → HasPass (sight scope (after_step other core step)) number P
      → ((seat : ℕ) (view : View) → seat ≢ step.seat → IsViewAt core seat view → IsPass view number → P (seen_of scope number view) → Q (seen_of scope number view))
      → (step.number ≡ number → P (seen_of scope step.number (view_after other core step)) → Q (seen_of scope step.number (view_after kind core step)))
      → HasPass (sight scope (after_step kind core step)) number Q
  has-swap number P Q h others own =
      let from = has-seat scope keeps (after_step other core step) number P h in
      seat-has scope keeps (after_step kind core step) number Q (go from (seat-after scope keeps other core step at pass from.seat number from.view from.at from.pass))
    where
      go : (from : HasSeat scope keeps (after_step other core step) number P) → SeatAfter scope keeps other core step at pass from.seat number from.view → HasSeat scope keeps (after_step kind core step) number Q
      go from (stepped same one two) = record {
        seat = step.seat;
        view = view_after kind core step;
        at = view-step kind core step at;
        pass = pass ∙ ap Some two;
        holds = subst (λ (n : ℕ). Q (seen_of scope n (view_after kind core step))) two
            (own two (subst (λ (n : ℕ). P (seen_of scope n (view_after other core step))) (sym two) (subst (λ (v : View). P (seen_of scope number v)) (sym one) from.holds)));
      }
      go from (stayed apart old) =
          record { seat = from.seat; view = from.view; at = view-step-other kind core step from.seat from.view apart old; pass = from.pass; holds = others from.seat from.view apart old from.pass from.holds }

  seen : (view : View) → IsPass view step.number → part_of scope view ≡ Some (seen_of scope step.number view)
  seen view own = ap (λ (o : Option ℕ). option_map (λ n. scope.part (bare_view n) view) o) own

  -- what is collected of all passes
  pub flat-swap : {X : Type 0} (f : View → List X) → f (seen_of scope step.number (view_after kind core step)) ≡ f (seen_of scope step.number (view_after other core step))
      → flat_map f (sight scope (after_step kind core step)).passes ≡ flat_map f (sight scope (after_step other core step)).passes
  flat-swap f same =
      flat-alike (part_of scope) f core.views step.seat (view_after kind core step) (view_after other core step) (seen_of scope step.number (view_after kind core step)) (seen_of scope step.number (view_after other core step))
      (seen (view_after kind core step) pass) (seen (view_after other core step) pass) same

  pub fold-swap : {Z : Type 0} (add : Z → View → Z) → ((start : Z) → add start (seen_of scope step.number (view_after kind core step)) ≡ add start (seen_of scope step.number (view_after other core step)))
      → (start : Z) → fold add start (sight scope (after_step kind core step)).passes ≡ fold add start (sight scope (after_step other core step)).passes
  fold-swap add same =
      fold-alike (part_of scope) add core.views step.seat (view_after kind core step) (view_after other core step) (seen_of scope step.number (view_after kind core step)) (seen_of scope step.number (view_after other core step))
      (seen (view_after kind core step) pass) (seen (view_after other core step) pass) same

  -- a law that sees the same of both views
  pub law-swap : (Law : Sight → Type 0) → scope.part (bare_view step.number) (view_after other core step) ≡ scope.part (bare_view step.number) (view_after kind core step)
      → Law (sight scope (after_step other core step)) → Law (sight scope (after_step kind core step))
  law-swap Law same h =
      frame scope Law (after_step other core step) (after_step kind core step)
      (record {
        config = refl;
        words = λ name reads. refl;
        history = λ reads. refl;
        passes = kept-alike (part_of scope) core.views step.seat (view_after other core step) (view_after kind core step) (seen (view_after other core step) pass ∙ (ap Some same ∙ sym (seen (view_after kind core step) pass)));
      }) h
