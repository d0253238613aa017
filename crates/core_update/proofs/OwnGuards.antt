-- A node that a pass owns, and that stands in no tree, no other pass has for itself.
use Rattle.std.proofs.Common.{◌≡◌, ◌≢◌, ◌⊎◌, ℕ, [], ◌++◌, Bool, true, false, Option, Some, None, refl, sym, ◌∙◌, subst, inl, inr}
use Rattle.std.specs.Prelude.{IfSome, Contains, map, flat_map, option_map, cond}
use Rattle.std.proofs.lemmas.Option.{none-some, same_Some}
use Rattle.std.proofs.lemmas.List.Elements.{Contains-append_left, Contains-append_right, Contains-append_cases}
use Rattle.word_map.specs.declared.name.Name.{Name}
use Rattle.word_map.specs.declared.name.Name.TheVariants.{Child, Bound, Parent}
use Rattle.core_state.specs.declared.view.Rebuild.{Rebuild}
use Rattle.core_state.specs.declared.view.View.{View}
use Rattle.core_state.specs.declared.view.Waiting.{Waiting}
use Rattle.core_state.specs.View.{IsPass}
use Rattle.core_state.specs.Core.{Core, IsViewAt}
use Rattle.core_state.specs.Guards.{KeepsGuards, private_nodes}
use Rattle.core_state.specs.Kind.{Kind, Step}
use Rattle.core_state.specs.Nodes.{node_in, owned, returning, IsOwnedBy, nodes_of, nodes_in}
use Rattle.core_state.specs.Parts.{update_on_trees}
use Rattle.core_state.specs.Scope.{sight}
use Rattle.core_state.specs.TreesSound.{tree_scope, AreTops}
use Rattle.core_state.proofs.Opening.{none_in}
use Rattle.core_guard.proofs.Holders.{keeps, HasNode, Holder, Settles}
use Rattle.core_guard.proofs.Leaving.{Acts, other-number}
use Rattle.core_guard.proofs.Owners.{owned-by}
use Rattle.core_guard.proofs.ReadersLeft.{map-back}
use Rattle.core_guard.proofs.Seats.{each-seat}

-- who has a word of a node has the node
node-holder : (core : Core) (view : View) (name : Name) (n : ℕ) → node_in name ≡ Some n → (Holder core.config view name → HasNode view n) × Settles core view name
node-holder core view (Child m k) n e = (λ h. subst (HasNode view) (same_Some m n e) h, tt)
node-holder core view (Bound m k q) n e = (λ h. subst (HasNode view) (same_Some m n e) h, tt)
node-holder core view (Parent m) n e = (λ h. subst (HasNode view) (same_Some m n e) h, tt)
node-holder core view _ n e = absurd (none-some n e)

-- a pass has a node as an owner, or as a top of what it gives back
module _ (core : Core) (step : Step) (a : Acts core step) (seat number : ℕ) (view : View) (found : IsViewAt core seat view) (is : IsPass view number) (n : ℕ) where
  abbrev HasHome : Type 0
  HasHome = IsOwnedBy number (a.laws.nodes.home n) ⊎ (a.laws.nodes.home n ≡ returning number)

  by-all : Contains (nodes_of view) n → HasHome
  by-all among = inl (owned-by core a.laws.nodes a.laws.places seat number view found is n among)

  by-update : (o : Option Rebuild) → (Contains (nodes_in o) n → HasHome) → IfSome (option_map update_on_trees o) (AreTops a.laws.nodes (sight tree_scope core) number) → Contains (private_nodes o) n → HasHome
  by-update None owns tops among = absurd (none_in n among)
  by-update (Some r) owns tops among =
      elim (Contains-append_cases (cond r.is_planned [] r.nodes) (map (λ w. w.node) r.returning) n among) [
        | inl own ↦ owns (unplanned r.is_planned own)
        | inr top ↦
            let t = map-back (λ (w : Waiting). w.node) r.returning n top in
            inr (subst (λ (m : ℕ). a.laws.nodes.home m ≡ returning number) t.2 (tops.tops t.0 t.1).owned)
      ]
    where
      unplanned : (test : Bool) → Contains (cond test [] r.nodes) n → Contains r.nodes n
      unplanned true own = absurd (none_in n own)
      unplanned false own = own

  pub node-home : HasNode view n → HasHome
  node-home among =
      let batches = flat_map (λ b. b.nodes) view.batches in
      elim (Contains-append_cases batches (view.loose ++ private_nodes view.rebuild) n among) [
        | inl own ↦ by-all (Contains-append_left batches (view.loose ++ nodes_in view.rebuild) n own)
        | inr rest ↦
            elim (Contains-append_cases view.loose (private_nodes view.rebuild) n rest) [
              | inl loose ↦ by-all (Contains-append_right batches (view.loose ++ nodes_in view.rebuild) n (Contains-append_left view.loose (nodes_in view.rebuild) n loose))
              | inr own ↦
                  by-update view.rebuild (λ all. by-all (Contains-append_right batches (view.loose ++ nodes_in view.rebuild) n (Contains-append_right view.loose (nodes_in view.rebuild) n all)))
                  (each-seat tree_scope (λ k v. refl) core (λ k v. IfSome v.rebuild (AreTops a.laws.nodes (sight tree_scope core) k)) a.laws.trees.tops seat number view found is) own
            ]
      ]

owned-returning : (p q : ℕ) → owned p ≢ returning q
owned-returning p q e = absurd cc

pub own-guarded : (kind : Kind) (core : Core) (step : Step) (a : Acts core step) (node : ℕ) → node_in step.name ≡ Some node → a.laws.nodes.home node ≡ owned step.number → KeepsGuards kind core step
own-guarded kind core step a node of_node home =
    keeps kind core step step.name refl
    (λ stored seat number view apart found is.
    let word = node-holder core view step.name node of_node in (
      λ holder. elim (node-home core step a seat number view found is node (word.0 holder)) [
        | inl owns ↦ absurd (other-number core step a seat number view apart found is (sym (subst (IsOwnedBy number) home owns)))
        | inr back ↦ owned-returning step.number number (sym home ∙ back)
      ],
      word.1,
    ))
