-- The arena of a main tree, where one pass at most has an update: that of the word, or the one that the update says.
use Rattle.std.proofs.Common.{List, None, Option, Some, [], ap, inl, inr, refl, subst, sym, ℕ, ◌∙◌, ◌∷◌, ◌≡◌, ◌≢◌, ◌⊎◌, arith, suc, cond, length, ◌-◌}
use Rattle.std.proofs.lemmas.Bool.{cases_eq}
use Rattle.std.specs.Prelude.{Contains, fold, option_map, nat_lt}
use Rattle.core_state.specs.Core.{Core, IsViewAt}
use Rattle.core_state.specs.NodesInOnePlace.{node_scope}
use Rattle.core_state.specs.Parts.{update_on_nodes}
use Rattle.core_state.specs.Scope.{sight}
use Rattle.core_state.specs.Updates.{arena_after, arena_of}
use Rattle.core_state.specs.View.{IsPass}
use Rattle.core_state.specs.declared.view.Rebuild.{Rebuild}
use Rattle.core_state.specs.declared.view.View.{View}
use Rattle.core_state.proofs.Beginning.{cases_cons, contains_first}
use Rattle.core_state.proofs.Lookups.{at_one}
use Rattle.core_state.proofs.Opening.{none_in}
use Rattle.core_guard.proofs.Seats.{seat_seen, seen_at, seen_of}

contains_behind : {X : Type 0} (x : X) (xs : List X) (y : X) → Contains xs y → Contains (x ∷ xs) y
contains_behind x xs y h = let below = h.1 in (suc h.0, omega arith, h.2)

abbrev Folded : ℕ → ℕ → List View → ℕ
Folded layer named views = fold (λ arena v. arena_after layer arena v.rebuild) named views

-- an update says the same of what it has said
says-again : (layer named : ℕ) (o : Option Rebuild) → arena_after layer (arena_after layer named o) o ≡ arena_after layer named o
says-again layer named None = refl
says-again layer named (Some r) = go r.arena refl
  where
    go : (arena : Option ℕ) → r.arena ≡ arena → arena_after layer (arena_after layer named (Some r)) (Some r) ≡ arena_after layer named (Some r)
    go None e = ap (λ (x : ℕ). arena_after layer x (Some r)) (let same : arena_after layer named (Some r) ≡ named = rw e refl in same)
    go (Some old) e = rw e refl

module _ (layer : ℕ) (o : Option Rebuild) where
  abbrev OneOrNone : List View → Type 0
  OneOrNone views = (v : View) → Contains views v → (v.rebuild ≡ None) ⊎ (v.rebuild ≡ o)

  said-already : (named : ℕ) (views : List View) → OneOrNone views → Folded layer (arena_after layer named o) views ≡ arena_after layer named o
  said-already named [] h = refl
  said-already named (v ∷ views) h =
      elim (h v (contains_first v views)) [
        | inl none ↦ ap (λ (r : Option Rebuild). Folded layer (arena_after layer (arena_after layer named o) r) views) none ∙ said-already named views (λ w among. h w (contains_behind v views w among))
        | inr same ↦
            ap (λ (r : Option Rebuild). Folded layer (arena_after layer (arena_after layer named o) r) views) same
            ∙ (ap (λ (x : ℕ). Folded layer x views) (says-again layer named o) ∙ said-already named views (λ w among. h w (contains_behind v views w among)))
      ]

  said-once : (named : ℕ) (views : List View) → OneOrNone views → (v : View) → Contains views v → v.rebuild ≡ o → Folded layer named views ≡ arena_after layer named o
  said-once named [] h v among is = absurd (none_in v among)
  said-once named (w ∷ views) h v among is =
      let now : w.rebuild ≡ o → Folded layer named (w ∷ views) ≡ arena_after layer named o =
      λ same. ap (λ (r : Option Rebuild). Folded layer (arena_after layer named r) views) same ∙ said-already named views (λ u later. h u (contains_behind w views u later))
      in
      elim (cases_cons w views v among) [
        | inl first ↦ now (ap (λ (u : View). u.rebuild) first ∙ is)
        | inr later ↦ elim (h w (contains_first w views)) [
          | inl none ↦
              ap (λ (r : Option Rebuild). Folded layer (arena_after layer named r) views) none ∙ said-once named views (λ u rest. h u (contains_behind w views u rest)) v later is
          | inr same ↦ now same
        ]
      ]

-- what a law sees of nodes says the same
seen-arena : (layer named : ℕ) (o : Option Rebuild) → arena_after layer named (option_map update_on_nodes o) ≡ arena_after layer named o
seen-arena layer named None = refl
seen-arena layer named (Some r) = refl

module _ (core : Core) (seat number : ℕ) (view : View) (at : IsViewAt core seat view) (pass : IsPass view number) (alone : (other n : ℕ) (v : View) → other ≢ seat → IsViewAt core other v → IsPass v n → v.rebuild ≡ None) where
  pub arena-of-one : (named layer : ℕ) → arena_of (sight node_scope core) named layer ≡ arena_after layer named view.rebuild
  arena-of-one named layer =
      said-once layer (option_map update_on_nodes view.rebuild) named (sight node_scope core).passes one_or_none (seen_of node_scope number view) (seat_seen node_scope core seat number view at pass) refl
      ∙ seen-arena layer named view.rebuild
    where
      one_or_none : (v : View) → Contains (sight node_scope core).passes v → (v.rebuild ≡ None) ⊎ (v.rebuild ≡ option_map update_on_nodes view.rebuild)
      one_or_none v among =
          let from = seen_at node_scope core v among in
          elim (cases_eq from.seat seat) [
            | inl same ↦
                let one : view ≡ from.view = at_one core.views seat view from.view at (subst (λ (k : ℕ). IsViewAt core k from.view) same from.at) in
                inr (ap (λ (u : View). u.rebuild) (sym from.is) ∙ ap (λ (u : View). option_map update_on_nodes u.rebuild) (sym one))
            | inr apart ↦ inl (ap (λ (u : View). u.rebuild) (sym from.is) ∙ ap (λ (r : Option Rebuild). option_map update_on_nodes r) (alone from.seat from.number from.view apart from.at from.pass))
          ]

-- where the update has loaded the number of the arena, it says all
pub arena-said : (layer named old : ℕ) (r : Rebuild) → r.arena ≡ Some old → arena_after layer named (Some r) ≡ cond (nat_lt layer (length r.swapped)) (1 - old) old
arena-said layer named old r e = rw e refl

-- and where it has not, nothing
pub arena-unsaid : (layer named : ℕ) (r : Rebuild) → r.arena ≡ None → arena_after layer named (Some r) ≡ named
arena-unsaid layer named r e = rw e refl
