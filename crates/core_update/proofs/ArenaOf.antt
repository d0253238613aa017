-- The arena that the main tree of a layer is in, where one update is under way and has loaded the number of the arena.
use Rattle.std.proofs.Common.{◌≡◌, ◌⊎◌, ℕ, ◌-◌, List, [], ◌∷◌, length, cond, Option, Some, None, ap, ◌∙◌, inl, inr}
use Rattle.std.specs.Prelude.{Contains, fold, nat_lt}
use Rattle.core_state.specs.declared.view.Rebuild.{Rebuild}
use Rattle.core_state.specs.declared.view.View.{View}
use Rattle.core_state.specs.Scope.{Sight}
use Rattle.core_state.specs.Updates.{arena_after, arena_of}
use Rattle.core_state.proofs.Beginning.{cases_cons, contains_first}
use Rattle.core_batch.proofs.Lists.{contains_later}
use Rattle.core_state.proofs.Opening.{none_in}

module _ (layer value : ℕ) where
  abbrev Sets : View → Type 0
  Sets view = (arena : ℕ) → arena_after layer arena view.rebuild ≡ value

  abbrev add : ℕ → View → ℕ
  add arena view = arena_after layer arena view.rebuild

  -- it stays at the value where each view leaves it or sets it to that
  stays : (views : List View) → ((view : View) → Contains views view → (view.rebuild ≡ None) ⊎ Sets view) → (start : ℕ) → start ≡ value → fold add start views ≡ value
  stays [] each start e = e
  stays (view ∷ views) each start e =
      stays views (λ v among. each v (contains_later view views v among)) (add start view)
      (elim (each view (contains_first view views)) [ inl none ↦ ap (λ (o : Option Rebuild). arena_after layer start o) none ∙ e | inr sets ↦ sets start ])

  -- and comes to it where one sets it
  comes : (views : List View) → ((view : View) → Contains views view → (view.rebuild ≡ None) ⊎ Sets view) → (one : View) → Contains views one → Sets one → (start : ℕ) → fold add start views ≡ value
  comes [] each one among sets start = absurd (none_in one among)
  comes (view ∷ views) each one among sets start =
      elim (cases_cons view views one among) [
        | inl same ↦ stays views (λ v there. each v (contains_later view views v there)) (add start view) (ap (λ (v : View). arena_after layer start v.rebuild) same ∙ sets start)
        | inr rest ↦ comes views (λ v there. each v (contains_later view views v there)) one rest sets (add start view)
      ]

-- of an update with the number of the arena: the other one for the layers that are exchanged
pub arena-set : (layer arena old : ℕ) (r : Rebuild) (o : Option Rebuild) → o ≡ Some r → r.arena ≡ Some old → arena_after layer arena o ≡ cond (nat_lt layer (length r.swapped)) (1 - old) old
arena-set layer arena old r o e loaded = ap (λ (o : Option Rebuild). arena_after layer arena o) e ∙ go r.arena loaded
  where
    go : (x : Option ℕ) → x ≡ Some old → elim x [ None ↦ arena | Some old ↦ cond (nat_lt layer (length r.swapped)) (1 - old) old ] ≡ cond (nat_lt layer (length r.swapped)) (1 - old) old
    go x is = ap (λ (x : Option ℕ). elim x [ None ↦ arena | Some old ↦ cond (nat_lt layer (length r.swapped)) (1 - old) old ]) is

-- all other passes have no update
pub arena-is : (s : Sight) (layer named old : ℕ) (r : Rebuild) (one : View) → Contains s.passes one → one.rebuild ≡ Some r → r.arena ≡ Some old → ((view : View) → Contains s.passes view → (view.rebuild ≡ None) ⊎ (view.rebuild ≡ Some r))
    → arena_of s named layer ≡ cond (nat_lt layer (length r.swapped)) (1 - old) old
arena-is s layer named old r one among has loaded each =
    comes layer (cond (nat_lt layer (length r.swapped)) (1 - old) old) s.passes
    (λ view there. elim (each view there) [ inl none ↦ inl none | inr is ↦ inr (λ arena. arena-set layer arena old r view.rebuild is loaded) ]) one among
    (λ arena. arena-set layer arena old r one.rebuild has loaded) named
