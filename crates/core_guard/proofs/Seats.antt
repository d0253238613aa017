-- What a law sees of passes, seat by seat, before a step and after it.
use Rattle.std.proofs.Common.{◌≡◌, ◌≢◌, ◌⊎◌, ℕ, zero, suc, ◌<◌, List, [], ◌∷◌, ◌++◌, Option, Some, None, option_map, get_or, length, set, refl, ap, sym, ◌∙◌, subst, inl, inr, arith}
use Rattle.std.specs.Prelude.{Contains, filter_map, flat_map, fold}
use Rattle.std.specs.List.{cons_option}
use Rattle.std.proofs.lemmas.Bool.{cases_eq}
use Rattle.std.proofs.lemmas.Option.{none-some, same_Some}
use mathlib.Core.Option.{some, some-injective}
use lib.ListN.{get_elem?}
use Rattle.core_state.specs.declared.view.View.{View}
use Rattle.core_state.specs.View.{number_of, IsPass}
use Rattle.core_state.specs.Core.{Core, IsViewAt}
use Rattle.core_state.specs.Kind.{Kind, Step, view_after, after_step}
use Rattle.core_state.specs.Scope.{Scope, sight, part_of, bare_view, HasPass, EachPass}
use Rattle.core_state.proofs.Guarding.{Contains-kept}
use Rattle.core_state.proofs.Lookups.{at_one, at_set}
use Rattle.core_state.proofs.Steps.{view-step, view-step-other}

-- ---- what is kept of a list

module _ {X Y : Type 0} (f : X → Option Y) where
  first_or_later : (o : Option Y) (ys : List Y) (b : Y) → Contains (cons_option o ys) b → (o ≡ Some b) ⊎ Contains ys b
  first_or_later None ys b h = inr h
  first_or_later (Some a) ys b h = go h.0 h.1 h.2
    where
      go : (k : ℕ) → k < length (a ∷ ys) → get_or (a ∷ ys) k b ≡ b → (Some a ≡ Some b) ⊎ Contains ys b
      go zero below is = inl (ap Some is)
      go (suc k) below is = inr (k, omega arith, is)

  -- comes from an element at some place
  pub kept_at : (xs : List X) (b : Y) → Contains (filter_map f xs) b → (i : ℕ) × (x : X) × (get_elem? xs i ≡ some x) × (f x ≡ Some b)
  kept_at [] b h = let none = h.1 in absurd (omega arith)
  kept_at (x ∷ xs) b h =
      elim (first_or_later (f x) (filter_map f xs) b h) [
        | inl e ↦ (0, x, refl, e)
        | inr later ↦ let t = kept_at xs b later in (suc t.0, t.1, t.2, t.3)
      ]

  flat_more : {Z : Type 0} (g : Y → List Z) (o : Option Y) (ys zs : List Y) → flat_map g ys ≡ flat_map g zs → flat_map g (cons_option o ys) ≡ flat_map g (cons_option o zs)
  flat_more g None ys zs same = same
  flat_more {Z = Z} g (Some b) ys zs same = ap (λ (l : List Z). g b ++ l) same

  -- what is collected of it is the same where one element is changed to another of which the same is collected
  pub flat-set : {Z : Type 0} (g : Y → List Z) (xs : List X) (i : ℕ) (x y : X) (a b : Y) → get_elem? xs i ≡ some x → f x ≡ Some a → f y ≡ Some b → g b ≡ g a
      → flat_map g (filter_map f (set xs i y)) ≡ flat_map g (filter_map f xs)
  flat-set g [] i x y a b at old new same = refl
  flat-set g (z ∷ xs) zero x y a b at old new same =
      let first : f z ≡ Some a = ap f (some-injective z x at) ∙ old in
      rw (first, new, same) refl
  flat-set g (z ∷ xs) (suc i) x y a b at old new same = flat_more g (f z) (filter_map f (set xs i y)) (filter_map f xs) (flat-set g xs i x y a b at old new same)

  fold_more : {Z : Type 0} (add : Z → Y → Z) (o : Option Y) (ys zs : List Y) → ((start : Z) → fold add start ys ≡ fold add start zs) → (start : Z) → fold add start (cons_option o ys) ≡ fold add start (cons_option o zs)
  fold_more add None ys zs same start = same start
  fold_more add (Some b) ys zs same start = same (add start b)

  -- and so is what it adds up to
  pub fold-set : {Z : Type 0} (add : Z → Y → Z) (xs : List X) (i : ℕ) (x y : X) (a b : Y) → get_elem? xs i ≡ some x → f x ≡ Some a → f y ≡ Some b → ((start : Z) → add start b ≡ add start a)
      → (start : Z) → fold add start (filter_map f (set xs i y)) ≡ fold add start (filter_map f xs)
  fold-set add [] i x y a b at old new same start = refl
  fold-set {Z = Z} add (z ∷ xs) zero x y a b at old new same start =
      let first : f z ≡ Some a = ap f (some-injective z x at) ∙ old in
      rw (first, new) (ap (λ (s : Z). fold add s (filter_map f xs)) (same start))
  fold-set add (z ∷ xs) (suc i) x y a b at old new same start =
      fold_more add (f z) (filter_map f (set xs i y)) (filter_map f xs) (fold-set add xs i x y a b at old new same) start

-- ---- seats

-- what is seen of a pass has its number
abbrev pub KeepsNumber : Scope → Type 0
KeepsNumber scope = (number : ℕ) (view : View) → number_of (scope.part (bare_view number) view) ≡ Some number

-- what is seen of the view of a pass
abbrev pub seen_of : Scope → ℕ → View → View
seen_of scope number view = scope.part (bare_view number) view

-- a view that is seen is that of a pass in some seat
pub record IsSeenAt (scope : Scope) (core : Core) (seen : View) : Type 0 where
  pub seat : ℕ
  pub number : ℕ
  pub view : View
  pub at : IsViewAt core seat view
  pub pass : IsPass view number
  pub is : seen_of scope number view ≡ seen

part_some : (scope : Scope) (view seen : View) → part_of scope view ≡ Some seen → (number : ℕ) × IsPass view number × (seen_of scope number view ≡ seen)
part_some scope view seen e = go (number_of view) refl
  where
    go : (o : Option ℕ) → number_of view ≡ o → (number : ℕ) × IsPass view number × (seen_of scope number view ≡ seen)
    go None none = absurd (none-some seen (sym (ap (option_map (λ n. scope.part (bare_view n) view)) none) ∙ e))
    go (Some number) has = (number, has, same_Some _ _ (sym (ap (option_map (λ n. scope.part (bare_view n) view)) has) ∙ e))

pub seen_at : (scope : Scope) (core : Core) (seen : View) → Contains (sight scope core).passes seen → IsSeenAt scope core seen
seen_at scope core seen c =
    let t = kept_at (part_of scope) core.views seen c in
    let p = part_some scope t.1 seen t.3 in
    record { seat = t.0; number = p.0; view = t.1; at = t.2; pass = p.1; is = p.2 }

pub seat_seen : (scope : Scope) (core : Core) (seat number : ℕ) (view : View) → IsViewAt core seat view → IsPass view number → Contains (sight scope core).passes (seen_of scope number view)
seat_seen scope core seat number view at pass =
    Contains-kept (part_of scope) (λ v. 0) core.views seat view (seen_of scope number view) at (ap (option_map (λ n. scope.part (bare_view n) view)) pass)

module _ (scope : Scope) (keeps : KeepsNumber scope) (core : Core) where
  -- what holds of each pass holds at each seat
  pub each-seat : (P : ℕ → View → Type 0) → EachPass (sight scope core) P → (seat number : ℕ) (view : View) → IsViewAt core seat view → IsPass view number → P number (seen_of scope number view)
  each-seat P h seat number view at pass = h number (seen_of scope number view) (seat_seen scope core seat number view at pass) (keeps number view)

  -- and the other way round
  pub each-seats : (P : ℕ → View → Type 0) → ((seat number : ℕ) (view : View) → IsViewAt core seat view → IsPass view number → P number (seen_of scope number view)) → EachPass (sight scope core) P
  each-seats P h number seen c pass =
      let from = seen_at scope core seen c in
      let same : from.number ≡ number = same_Some from.number number (sym (keeps from.number from.view) ∙ (ap (λ (v : View). number_of v) from.is ∙ pass)) in
      subst (λ (n : ℕ). P n seen) same (subst (P from.number) from.is (h from.seat from.number from.view from.at from.pass))

  -- the seat of a pass of which something holds
  pub record HasSeat (number : ℕ) (P : View → Type 0) : Type 0 where
    pub seat : ℕ
    pub view : View
    pub at : IsViewAt core seat view
    pub pass : IsPass view number
    pub holds : P (seen_of scope number view)

  pub has-seat : (number : ℕ) (P : View → Type 0) → HasPass (sight scope core) number P → HasSeat number P
  has-seat number P h =
      let from = seen_at scope core h.0 h.1 in
      let same : from.number ≡ number = same_Some from.number number (sym (keeps from.number from.view) ∙ (ap (λ (v : View). number_of v) from.is ∙ h.2)) in
      record {
        seat = from.seat;
        view = from.view;
        at = from.at;
        pass = from.pass ∙ ap Some same;
        holds = subst (λ (n : ℕ). P (seen_of scope n from.view)) same (subst P (sym from.is) h.3);
      }

  pub seat-has : (number : ℕ) (P : View → Type 0) → HasSeat number P → HasPass (sight scope core) number P
  seat-has number P h = (seen_of scope number h.view, seat_seen scope core h.seat number h.view h.at h.pass, keeps number h.view, h.holds)

-- ---- a step

module _ (scope : Scope) (keeps : KeepsNumber scope) (kind : Kind) (core : Core) (step : Step) (at : IsViewAt core step.seat step.view) (pass : IsPass step.view step.number) where
  -- what a law sees of the stepping pass, before and after
  abbrev pub seen_before : View
  seen_before = seen_of scope step.number step.view

  abbrev pub seen_after : View
  seen_after = seen_of scope step.number (view_after kind core step)

  -- after the step a seat is the one that stepped, or it has the view that it had
  pub data SeatAfter (seat number : ℕ) (view : View) : Type 0 where
    stepped : seat ≡ step.seat → view_after kind core step ≡ view → step.number ≡ number → SeatAfter seat number view
    stayed : seat ≢ step.seat → IsViewAt core seat view → SeatAfter seat number view

  pub seat-after : (seat number : ℕ) (view : View) → IsViewAt (after_step kind core step) seat view → IsPass view number → SeatAfter seat number view
  seat-after seat number view found own =
      elim (at_set core.views step.seat seat (view_after kind core step) view found) [
        | inl t ↦ stepped t.0 t.1 (same_Some step.number number (sym pass ∙ (ap (λ (v : View). number_of v) t.1 ∙ own)))
        | inr t ↦ stayed t.0 t.1
      ]

  -- before the step a seat is the one that is to step, or it keeps its view
  pub data SeatBefore (seat number : ℕ) (view : View) : Type 0 where
    steps_now : seat ≡ step.seat → step.view ≡ view → step.number ≡ number → SeatBefore seat number view
    stays : seat ≢ step.seat → IsViewAt (after_step kind core step) seat view → SeatBefore seat number view

  pub seat-before : (seat number : ℕ) (view : View) → IsViewAt core seat view → IsPass view number → SeatBefore seat number view
  seat-before seat number view found own =
      elim (cases_eq seat step.seat) [
        | inl same ↦
            let one : step.view ≡ view = at_one core.views step.seat step.view view at (subst (λ (k : ℕ). IsViewAt core k view) same found) in
            steps_now same one (same_Some step.number number (sym pass ∙ (ap (λ (v : View). number_of v) one ∙ own)))
        | inr apart ↦ stays apart (view-step-other kind core step seat view apart found)
      ]

  -- each pass has what each had, if the stepping one has it
  pub each-step : (P Q : ℕ → View → Type 0) → EachPass (sight scope core) P
      → ((seat number : ℕ) (view : View) → seat ≢ step.seat → IsViewAt core seat view → IsPass view number → P number (seen_of scope number view) → Q number (seen_of scope number view))
      → (P step.number seen_before → Q step.number seen_after)
      → EachPass (sight scope (after_step kind core step)) Q
  each-step P Q h others own =
      each-seats scope keeps (after_step kind core step) Q
      (λ seat number view found is. go seat number view is (seat-after seat number view found is))
    where
      go : (seat number : ℕ) (view : View) → IsPass view number → SeatAfter seat number view → Q number (seen_of scope number view)
      go seat number view is (stepped same one two) =
          subst (λ (n : ℕ). Q n (seen_of scope n view)) two
          (subst (λ (v : View). Q step.number (seen_of scope step.number v)) one (own (each-seat scope keeps core P h step.seat step.number step.view at pass)))
      go seat number view is (stayed apart old) = others seat number view apart old is (each-seat scope keeps core P h seat number view old is)

  -- and had it, if the stepping one had it
  pub each-unstep : (P Q : ℕ → View → Type 0) → EachPass (sight scope (after_step kind core step)) Q
      → ((seat number : ℕ) (view : View) → seat ≢ step.seat → IsViewAt core seat view → IsPass view number → Q number (seen_of scope number view) → P number (seen_of scope number view))
      → (Q step.number seen_after → P step.number seen_before)
      → EachPass (sight scope core) P
  each-unstep P Q h others own =
      each-seats scope keeps core P
      (λ seat number view found is. go seat number view found is (seat-before seat number view found is))
    where
      go : (seat number : ℕ) (view : View) → IsViewAt core seat view → IsPass view number → SeatBefore seat number view → P number (seen_of scope number view)
      go seat number view found is (steps_now same one two) =
          subst (λ (n : ℕ). P n (seen_of scope n view)) two
          (subst (λ (v : View). P step.number (seen_of scope step.number v)) one
          (own (each-seat scope keeps (after_step kind core step) Q h step.seat step.number (view_after kind core step) (view-step kind core step at) pass)))
      go seat number view found is (stays apart new) = others seat number view apart found is (each-seat scope keeps (after_step kind core step) Q h seat number view new is)

  -- a pass of which something holds is there afterwards, if it still holds of the stepping one
  pub has-step : (number : ℕ) (P Q : View → Type 0) → HasPass (sight scope core) number P
      → ((seat : ℕ) (view : View) → seat ≢ step.seat → IsViewAt core seat view → IsPass view number → P (seen_of scope number view) → Q (seen_of scope number view))
      → (step.number ≡ number → P seen_before → Q seen_after)
      → HasPass (sight scope (after_step kind core step)) number Q
  has-step number P Q h others own =
      let from = has-seat scope keeps core number P h in
      seat-has scope keeps (after_step kind core step) number Q (go from (seat-before from.seat number from.view from.at from.pass))
    where
      go : (from : HasSeat scope keeps core number P) → SeatBefore from.seat number from.view → HasSeat scope keeps (after_step kind core step) number Q
      go from (steps_now same one two) = record {
        seat = step.seat;
        view = view_after kind core step;
        at = view-step kind core step at;
        pass = pass ∙ ap Some two;
        holds = subst (λ (n : ℕ). Q (seen_of scope n (view_after kind core step))) two
            (own two (subst (λ (n : ℕ). P (seen_of scope n step.view)) (sym two) (subst (λ (v : View). P (seen_of scope number v)) (sym one) from.holds)));
      }
      go from (stays apart new) = record { seat = from.seat; view = from.view; at = new; pass = from.pass; holds = others from.seat from.view apart from.at from.pass from.holds }

  -- and was there before
  pub has-unstep : (number : ℕ) (P Q : View → Type 0) → HasPass (sight scope (after_step kind core step)) number Q
      → ((seat : ℕ) (view : View) → seat ≢ step.seat → IsViewAt core seat view → IsPass view number → Q (seen_of scope number view) → P (seen_of scope number view))
      → (step.number ≡ number → Q seen_after → P seen_before)
      → HasPass (sight scope core) number P
  has-unstep number P Q h others own =
      let from = has-seat scope keeps (after_step kind core step) number Q h in
      seat-has scope keeps core number P (go from (seat-after from.seat number from.view from.at from.pass))
    where
      go : (from : HasSeat scope keeps (after_step kind core step) number Q) → SeatAfter from.seat number from.view → HasSeat scope keeps core number P
      go from (stepped same one two) = record {
        seat = step.seat;
        view = step.view;
        at = at;
        pass = pass ∙ ap Some two;
        holds = subst (λ (n : ℕ). P (seen_of scope n step.view)) two
            (own two (subst (λ (n : ℕ). Q (seen_of scope n (view_after kind core step))) (sym two) (subst (λ (v : View). Q (seen_of scope number v)) (sym one) from.holds)));
      }
      go from (stayed apart old) = record { seat = from.seat; view = from.view; at = old; pass = from.pass; holds = others from.seat from.view apart old from.pass from.holds }

  -- what is collected of all passes is the same where the same is collected of the stepping one
  pub flat-step : {X : Type 0} (f : View → List X) → f seen_after ≡ f seen_before
      → flat_map f (sight scope (after_step kind core step)).passes ≡ flat_map f (sight scope core).passes
  flat-step f same =
      flat-set (part_of scope) f core.views step.seat step.view (view_after kind core step) seen_before seen_after at
      (ap (option_map (λ n. scope.part (bare_view n) step.view)) pass)
      (ap (option_map (λ n. scope.part (bare_view n) (view_after kind core step))) pass) same

  pub fold-step : {Z : Type 0} (add : Z → View → Z) → ((start : Z) → add start seen_after ≡ add start seen_before) → (start : Z)
      → fold add start (sight scope (after_step kind core step)).passes ≡ fold add start (sight scope core).passes
  fold-step add same start =
      fold-set (part_of scope) add core.views step.seat step.view (view_after kind core step) seen_before seen_after at
      (ap (option_map (λ n. scope.part (bare_view n) step.view)) pass)
      (ap (option_map (λ n. scope.part (bare_view n) (view_after kind core step))) pass) same start
